-- The values of whole steps are a model, since no clause is false.
use Rattle.std.proofs.Common.{◌≡◌, w64, SFits, ap, sym, ◌∙◌, subst, rules}
use Rattle.std.proofs.lemmas.Int.{to_z-of_z}
use Rattle.mig_sat.specs.Found.{IsFound}
use Rattle.mig_sat.proofs.Following.{is_model}
use Rattle.mig_maxsat.specs.Heaviest.{weight}
use Rattle.mig_maxsat.specs.Rivals.{IsRival}
use Rattle.mig_maxsat.proofs.scouting.raised.Goals as goal

pub returns-then-is_above : goal.returns-then-is_above
returns-then-is_above c =
    let p = c.args.problem.now in
    let seen = subst (IsFound p.hard.clauses p.hard.vars (IsRival p c.args.reached) c.args.trail.now.steps) c.in-Full.is c.requires.seen in
    let values = c.in_ok-model-in-Full.ensures in
    let m = c.in_ok-model-in-Full.model.values in
    let fits : SFits w64 c.weigh-weight.result = search rules in
    let weighs : c.weigh-weight.result ≡ weight p.weights m = c.weigh-weight.ensures ∙ (ap (λ ws. weight ws c.as_slice-in-Full.result.now) c.as_slice.ensures ∙ ap (weight p.weights) c.as_slice-in-Full.ensures) in
    (m, is_model p.hard m c.args.trail.now.steps c.requires.sound.range (values.size ∙ c.requires.size) (λ v lt. values.values v (rw c.requires.size lt)) seen.1, sym (to_z-of_z w64 c.weigh-weight.result fits ∙ weighs))
