use Rattle.std.proofs.Common.{◌≡◌, ◌∷◌, [], reverse, ap, ◌∙◌}
use Rattle.std.proofs.lemmas.List.{reverse-append, length-set}
use Rattle.mig_sat.proofs.Keeping.{Keeps-pop}
use Rattle.mig_sat.proofs.trail.Trail.pop.Goals as goal

pub invariant_of-self-2 : goal.invariant_of-self-2
invariant_of-self-2 c =
    let s = c.in_ok-step.step in
    let is : reverse c.self.inside.steps.items ≡ s ∷ reverse c.pop.new.self.items = ap reverse c.in_ok-step.ensures.items ∙ reverse-append c.pop.new.self.items (s ∷ []) in
    (rw length-set c.self.invariant.0, Keeps-pop c.self.inside.values.items (reverse c.pop.new.self.items) s (rw is at c.self.invariant.1))
