use Rattle.std.proofs.Common.{take}
use Rattle.mig_words.specs.Drafts.{IsDraft}
use Rattle.mig_words.proofs.migrate.drafted.Given as goal

abbrev pub invariant-loop-i : goal.invariant-loop-i
invariant-loop-i l = IsDraft (take l.i l.words) l.draft
