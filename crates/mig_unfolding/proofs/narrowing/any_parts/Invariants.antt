use Rattle.std.proofs.Common.{◌≡◌, drop}
use Rattle.std.specs.List.{list_any}
use Rattle.mig_unfolding.specs.Narrowed.{parts_two}
use Rattle.mig_unfolding.proofs.narrowing.any_parts.Given as goal

abbrev pub invariant-loop-lit : goal.invariant-loop-lit
invariant-loop-lit l = list_any (parts_two l.v l.w) l.lits ≡ list_any (parts_two l.v l.w) (drop l.lit-index l.lits)
