-- A plan of a program within the limits has few options.
use Rattle.std.proofs.Common.{◌≡◌, ℕ, ◌+◌, ◌*◌, ◌≤◌, ◌<◌, ◌^◌, List, [], ◌∷◌, ◌++◌, length, refl, sym, ap, ◌∙◌, subst, arith}
use Rattle.std.specs.Prelude.{None}
use Rattle.std.specs.List.{AllByRecursion}
use Rattle.std.proofs.lemmas.List.{length-append, length-map}
use Rattle.mig_base.specs.Lists.{numbered}
use Rattle.mig_schema.specs.declared.jobs.Job.{Job}
use Rattle.mig_schema.specs.declared.programs.Body.{Body}
use Rattle.mig_schema.specs.declared.programs.Body.TheVariants as body
use Rattle.mig_schema.specs.declared.programs.Function.{Function}
use Rattle.mig_schema.specs.Typed.{pieces_of, piece_of}
use Rattle.mig_schema.specs.Within.{IsWithin, IsProgramWithin}
use Rattle.mig_invariant.specs.declared.corresp.Corr.{Corr}
use Rattle.mig_sketch.specs.declared.plans.Hole.{Hole}
use Rattle.mig_sketch.specs.declared.plans.Made.{Made}
use Rattle.mig_sketch.specs.declared.plans.Made.TheVariants as made
use Rattle.mig_sketch.specs.declared.plans.Part.TheVariants as part
use Rattle.mig_sketch.specs.Choices.{sizes_of, total}
use Rattle.mig_sketch.specs.Completed.{IsSmall}
use Rattle.mig_sketch.specs.Labels.{free_labels}
use Rattle.mig_sketch.specs.Making.{Goes}
use Rattle.mig_sketch.specs.Made.{Place, AreHoles, IsMade, parts_of, place_at, places_in, places_from}

-- each hole has at most 4,096 options
total-few : (job : Job) (corr : Corr) (ps : List Place) (hs : List Hole) → AreHoles job corr ps hs → total (sizes_of hs) ≤ 4096 * length ps
total-few job corr [] [] a = omega arith
total-few job corr [] (h ∷ hs) a = absurd a
total-few job corr (p ∷ ps) [] a = absurd a
total-few job corr (p ∷ ps) (h ∷ hs) a = let rest = total-few job corr ps hs a.1 in let here = a.0.roomy.1 in omega (arith, rest, here)

pub length-numbered : {A B : Type 0} (f : ℕ → A → B) (n : ℕ) (xs : List A) → length (numbered f n xs) ≡ length xs
length-numbered f n [] = refl
length-numbered f n (x ∷ xs) = let e = length-numbered f (n + 1) xs in omega (arith, e)

-- a body has as many parts as pieces
parts-pieces : (b : Body) → length (parts_of b) ≡ length (pieces_of b)
parts-pieces (body.Update stmts) = let e = length-map stmts (λ s. part.Stmt s) in let d = length-map stmts piece_of in omega (arith, e, d)
parts-pieces (body.Query q) = refl

-- each function has at most four places
places-few : (f : ℕ) (xs : List Function) → AllByRecursion IsWithin xs → length (places_from f xs) ≤ 4 * length xs
places-few f [] w = omega arith
places-few f (x ∷ xs) w =
    let rest = places-few (f + 1) xs w.1 in
    let here = length-numbered (place_at f (free_labels x.body)) 0 (parts_of x.body) in
    let same = parts-pieces x.body in
    let few = w.0.statements in
    let both = length-append (places_in f x.body) (places_from (f + 1) xs) in
    omega (arith, rest, here, same, few, both)

-- so a plan has fewer than 2^31
pub small_made : (job : Job) (corr : Corr) (m : Made) → IsMade job corr m → IsProgramWithin job.program → IsSmall m
small_made job corr (made.Plan plan) h w =
    let options = total-few job corr (places_from 0 job.program.functions) plan.holes h.1 in
    let places = places-few 0 job.program.functions w.each in
    let functions = w.functions in
    omega (arith, options, places, functions)
small_made job corr (made.Empty f) h w = tt
small_made job corr (made.Wide f) h w = tt

-- the same of the holes that were added to none
pub small_holes : (job : Job) (corr : Corr) (old new : List Hole) → old ≡ [] → Goes job corr (places_from 0 job.program.functions) old new None → IsProgramWithin job.program → total (sizes_of new) < 2 ^ 31
small_holes job corr old new e (here, are, added) w = subst (λ hs. total (sizes_of hs) < 2 ^ 31) (sym (added ∙ ap (λ hs. hs ++ here) e)) (small_made job corr (made.Plan (record { functions = job.program.functions; holes = here })) (refl, are) w)
