use Rattle.std.proofs.Common.{◌≡◌, length}
use Rattle.mig_sat.specs.Agendas.{ListsFirst}
use Rattle.mig_sat.proofs.listing.enter_clauses.Given as goal

abbrev pub invariant-loop-number : goal.invariant-loop-number
invariant-loop-number l = (length l.lists ≡ length l.fn.lists) × ListsFirst l.number l.clauses l.lists
