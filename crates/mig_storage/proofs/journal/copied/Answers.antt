use Rattle.std.proofs.Common.{refl, sym}
use Rattle.std.proofs.lemmas.List.{append-nil}
use Rattle.mig_storage.proofs.SlotLemmas.{rows-next}
use Rattle.mig_storage.proofs.journal.copied.Goals as goal
use Rattle.mig_storage.proofs.journal.copied.Goals.{in-Some+in_ok-row+in_ok-push, in_default}

pub loop-slot-preserved : goal.loop-slot-preserved
loop-slot-preserved c =
    let more = rows-next c.args.slots.now c.loop-slot.slot-index c.slot-item.result c.loop-slot-test.true c.slot-item.is in
    elim c.match-slot.branch [
      | in-Some+in_ok-row+in_ok-push w ↦ rw (w.rows-is, w.in_ok-push.ensures.ok, w.in_ok-row.ensures, c.loop-slot.invariant, more, w.in-Some.is) refl
      | in_default w ↦ rw (w.rows-is, c.loop-slot.invariant, more, w.in_default.is) (sym (append-nil _))
    ]
