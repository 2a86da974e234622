use Rattle.std.proofs.Common.{◌≡◌, ◌++◌, take}
use Rattle.mig_corresp.specs.Coding.{thirds}
use Rattle.mig_corresp.proofs.coding.add_thirds.Given as goal

abbrev pub invariant-loop-c : goal.invariant-loop-c
invariant-loop-c l = l.clauses ≡ l.fn.clauses ++ thirds l.a l.b (take l.c-index l.others)
