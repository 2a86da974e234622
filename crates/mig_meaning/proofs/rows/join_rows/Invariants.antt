use Rattle.std.proofs.Common.{◌≡◌}
use Rattle.std.specs.Prelude.{filter}
use Rattle.mig_meaning.specs.Rows.{meets}
use Rattle.mig_meaning.proofs.rows.join_rows.Given as goal

abbrev pub invariant-loop-row : goal.invariant-loop-row
invariant-loop-row l = l.met.items ≡ filter (meets l.tables l.join.more) l.yielded
