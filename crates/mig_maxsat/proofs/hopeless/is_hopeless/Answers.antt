use Rattle.std.proofs.Common.{◌<◌, ◌^◌, ◌≤ℤ◌, ◌-ℤ◌, ℤ, Option, int_le, w64, SFits, ap, sym, ◌∙◌, subst, arith, rules}
use Rattle.std.specs.Prelude.{MatchBool}
use Rattle.std.specs.Int.RustNames.{unsigned_abs}
use Rattle.std.proofs.lemmas.Int.{to_z-of_z}
use Rattle.mig_sat.specs.Found.{IsUnfollowed}
use Rattle.mig_maxsat.specs.Heaviest.{weight, magnitude}
use Rattle.mig_maxsat.specs.Rivals.{IsFloor, IsRival}
use Rattle.mig_maxsat.specs.Losses.{HasRoom, most_from}
use Rattle.mig_maxsat.proofs.Weights.{less_fits}
use Rattle.mig_maxsat.proofs.Bounding.{bound_tells}
use Rattle.mig_maxsat.proofs.hopeless.is_hopeless.Goals as goal

pub returns-in_ok-charged-in-Some : goal.returns-in_ok-charged-in-Some
returns-in_ok-charged-in-Some c =
    let p = c.args.problem.now in
    let steps = c.args.trail.now.steps in
    let k = c.in-Some.floor in
    let is = c.in_ok-charged-in-Some.ensures in
    let ws = c.in_ok-charged-in-Some.charged.weights.items in
    let most : SFits w64 c.most-most.result = search rules in
    let floor : SFits w64 c.in-Some.floor = search rules in
    let lost : SFits w64 c.in_ok-charged-in-Some.charged.lost = search rules in
    let same = ap magnitude c.as_slice.ensures.value in
    let most_small : unsigned_abs c.most-most.result < 2 ^ 62 = omega (arith, c.most-most.ensures.small, same, c.in_ok-charged-in-Some.ensures.charged.small, c.requires.sound.fits) in
    let fits = less_fits c.most-most.result k most_small (subst IsFloor c.in-Some.is c.requires.floor) in
    let tells = bound_tells p steps c.args.costly.now k c.most-most.result c.in_ok-charged-in-Some.charged.lost ws is.charged is.exact (λ m f. subst (λ xs. weight xs m ≤ℤ c.most-most.result) c.as_slice.ensures.value (c.most-most.ensures.bound m f)) (c.most-most.ensures.is ∙ ap (most_from steps 0) c.as_slice.ensures.value) in
    rw (to_z-of_z w64 c.most-most.result most, to_z-of_z w64 c.in-Some.floor floor, to_z-of_z w64 (c.most-most.result -ℤ c.in-Some.floor) fits, to_z-of_z w64 c.in_ok-charged-in-Some.charged.lost lost)
    (subst (λ (o : Option ℤ). MatchBool (int_le (c.most-most.result -ℤ c.in-Some.floor) c.in_ok-charged-in-Some.charged.lost) (IsUnfollowed (IsRival c.args.problem.now o) c.args.trail.now.steps) (HasRoom c.args.problem.now o c.args.costly.now c.args.trail.now.steps)) (sym c.in-Some.is) tells)
