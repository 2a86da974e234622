use Rattle.std.proofs.Common.{◌≡◌, ◌+◌, drop}
use Rattle.mig_rows.specs.Naming.{first_naming}
use Rattle.mig_rows.proofs.naming.first_naming.Given as goal

abbrev pub invariant-loop-at : goal.invariant-loop-at
invariant-loop-at l = first_naming l.var l.lits ≡ l.at + first_naming l.var (drop l.at l.lits)
