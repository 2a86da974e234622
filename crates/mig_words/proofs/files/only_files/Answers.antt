use Rattle.std.proofs.Common.{inl, inr, sym, ◌∙◌}
use Rattle.mig_words.proofs.Stepping.{no_file}
use Rattle.mig_words.proofs.files.only_files.Goals.{then-i-most-via-then-i-most, then-i-most-via-else-i-most+then-is_dashed}
use Rattle.mig_words.proofs.files.only_files.Goals as goal

pub returns-then-i-most-clause-fault : goal.returns-then-i-most-clause-fault
returns-then-i-most-clause-fault c =
    no_file c.args.most c.args.words.now c.loop-i.i c.index-words-i.result c.loop-i-test.true c.index-words-i.is c.loop-i.invariant.0 c.loop-i.invariant.1
    (elim c.then-i-most.branch [
      | then-i-most-via-then-i-most w ↦ inl w.if-i-most.true
      | then-i-most-via-else-i-most+then-is_dashed w ↦ inr (sym w.is_dashed.ensures ∙ w.if-is_dashed.true)
    ])
