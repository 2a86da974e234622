use Rattle.std.proofs.Common.{◌≡◌, drop}
use Rattle.std.specs.List.{list_any}
use Rattle.mig_rows.specs.Never.{refutes}
use Rattle.mig_rows.proofs.refuting.some_refutes.Given as goal

abbrev pub invariant-loop-invariant : goal.invariant-loop-invariant
invariant-loop-invariant l = list_any (refutes l.scope l.groups.lits.now) l.invariants ≡ list_any (refutes l.scope l.groups.lits.now) (drop l.invariant-index l.invariants)
