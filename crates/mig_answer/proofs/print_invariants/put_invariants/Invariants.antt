use Rattle.std.proofs.Common.{◌≡◌, ◌++◌, take}
use Rattle.std.specs.List.{flat_map}
use Rattle.mig_answer.specs.AnswerText.{invariant_text}
use Rattle.mig_answer.proofs.print_invariants.put_invariants.Given as goal

abbrev pub invariant-loop-invariant : goal.invariant-loop-invariant
invariant-loop-invariant l = l.out ≡ l.fn.out ++ flat_map (invariant_text l.job) (take l.invariant-index l.invariants)
