use Rattle.mig_messages.proofs.EntryLines.{put-more}
use Rattle.mig_messages.proofs.entries.put_entries.Goals as goal

pub loop-at-preserved : goal.loop-at-preserved
loop-at-preserved c =
    put-more c.args.program.now c.args.tried.now c.loop-at.at c.in_ok-number.field-0 c.args.out.now c.loop-at.out c.put_entry.new.out c.index-tried-at.result _
    c.loop-at-test.true c.index-tried-at.is c.in_ok-number.ensures.ok c.loop-at.invariant c.in_ok-put_entry.ensures
