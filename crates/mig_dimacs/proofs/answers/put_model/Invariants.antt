use Rattle.std.proofs.Common.{◌≡◌, ◌++◌, ◌+◌, drop, codes}
use Rattle.mig_dimacs.specs.Answers.{values_text}
use Rattle.mig_dimacs.proofs.answers.put_model.Given as goal

abbrev pub invariant-loop-i : goal.invariant-loop-i
invariant-loop-i l = l.out ++ values_text (l.i + 1) (drop l.i l.values) ≡ l.fn.out ++ (codes "v" ++ values_text 1 l.values)
