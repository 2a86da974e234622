use Rattle.std.proofs.Common.{◌≡◌, ◌++◌, ◌∷◌}
use Rattle.mig_complete.specs.Coding.{one_of, links}
use Rattle.mig_complete.proofs.coding.add_hole.Given as goal

abbrev pub invariant-loop-k : goal.invariant-loop-k
invariant-loop-k l = l.clauses ≡ l.fn.clauses ++ (one_of l.first l.count ∷ links l.helpers l.first l.k)
