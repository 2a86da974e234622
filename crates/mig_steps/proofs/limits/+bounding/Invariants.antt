use Rattle.std.proofs.Common.{◌≡◌, drop}
use Rattle.std.specs.List.{list_all}
use Rattle.mig_steps.specs.Limits.{lit_bounded}
use Rattle.mig_steps.proofs.limits.+bounding.Given as goal

abbrev pub invariant-are_lits_bounded-loop-lit : goal.invariant-are_lits_bounded-loop-lit
invariant-are_lits_bounded-loop-lit l = list_all (lit_bounded l.depth l.scope) l.lits ≡ list_all (lit_bounded l.depth l.scope) (drop l.lit-index l.lits)
