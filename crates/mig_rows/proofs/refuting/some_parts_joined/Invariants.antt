use Rattle.std.proofs.Common.{◌≡◌, drop}
use Rattle.std.specs.List.{list_any}
use Rattle.mig_rows.specs.Never.{parts_joined}
use Rattle.mig_rows.proofs.refuting.some_parts_joined.Given as goal

abbrev pub invariant-loop-lit : goal.invariant-loop-lit
invariant-loop-lit l = list_any (parts_joined l.side l.column l.scope l.groups.lits.now) l.groups.lits.now ≡ list_any (parts_joined l.side l.column l.scope l.groups.lits.now) (drop l.lit-index l.groups.lits.now)
