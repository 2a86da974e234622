use Rattle.std.proofs.Common.{ℕ, List, ◌++◌, take}
use Rattle.std.specs.List.{flat_map}
use Rattle.mig_store.specs.Told.{answered_told}
use Rattle.mig_store.specs.Writing.{answer_text}
use Rattle.mig_store.specs.Written.{HasWritten}
use Rattle.mig_store.proofs.writing.put_answers.Given as goal

abbrev pub invariant-loop-answered : goal.invariant-loop-answered
invariant-loop-answered g l = (text : List ℕ) → HasWritten g.W.Write.contents l.fn.writer text
    → HasWritten g.W.Write.contents l.writer (text ++ flat_map (λ a. answer_text l.program (answered_told a)) (take l.answered-index l.answers))
