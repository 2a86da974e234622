use Rattle.std.proofs.Common.{◌≡◌, drop}
use Rattle.mig_meaning.specs.Lists.{total}
use Rattle.mig_steps.specs.Limits.{left, lit_count}
use Rattle.mig_steps.proofs.limits.+counting.Given as goal

abbrev pub invariant-spend_lits-loop-lit : goal.invariant-spend_lits-loop-lit
invariant-spend_lits-loop-lit l = left l.initial.budget (total lit_count l.lits) ≡ left l.budget (total lit_count (drop l.lit-index l.lits))
