use Rattle.std.proofs.Common.{◌≡◌, refl}
use Rattle.mig_messages.specs.declared.status.Status.TheVariants as status
use Rattle.mig_messages.specs.Lines.{no_memory}
use Rattle.mig_cli.specs.Desk as spec
use Rattle.mig_cli.specs.Plans.{refusal}
use Rattle.mig_cli.specs.World.{inputs_of, world_of}
use Rattle.mig_cli.proofs.Checked.{right-checks}
use Rattle.mig_cli.proofs.Ended.{alone, complete, file_fault, memory_fault, refused, right, sink_fault, spared, store_fault}
use Rattle.mig_cli.proofs.Migrated.{right-migrates}
use Rattle.mig_cli.proofs.Statuses.{due-put}
use Rattle.mig_cli.proofs.top.desk.Goals as goal

pub finish-requires : goal.finish-requires
finish-requires g c = (due-put _ _ _ _ c.in-Ok.ensures.due).0

-- ---- a plan

pub returns-in-Ok-clause-right : goal.returns-in-Ok-clause-right
returns-in-Ok-clause-right g c =
    let before = world_of g.F.Files g.W.Sink g.E.Sink g.S.Store c.args.files.now c.args.out.now c.args.err.now c.args.store.now in
    let after = world_of g.F.Files g.W.Sink g.E.Sink g.S.Store c.plan.new.files c.finish.new.out c.finish.new.err c.plan.new.store in
    right _ before after c.in-Ok.plan c.finish.result _ c.number.ensures c.finish.ensures.status (spec.due c.in-Ok.ensures.due)
    (rw (c.as_slice.ensures, c.as_slice-in-Ok.ensures) at c.finish.ensures.whole) (rw (c.as_slice.ensures, c.as_slice-in-Ok.ensures) at c.finish.ensures.cut) c.finish.ensures.fault

pub returns-in-Ok-clause-complete : goal.returns-in-Ok-clause-complete
returns-in-Ok-clause-complete g c =
    let before = world_of g.F.Files g.W.Sink g.E.Sink g.S.Store c.args.files.now c.args.out.now c.args.err.now c.args.store.now in
    let after = world_of g.F.Files g.W.Sink g.E.Sink g.S.Store c.plan.new.files c.finish.new.out c.finish.new.err c.plan.new.store in
    complete _ before after c.in-Ok.plan c.finish.result _ c.number.ensures c.finish.ensures.status (spec.due c.in-Ok.ensures.due)
    (rw (c.as_slice.ensures, c.as_slice-in-Ok.ensures) at c.finish.ensures.whole) (rw (c.as_slice.ensures, c.as_slice-in-Ok.ensures) at c.finish.ensures.cut) c.finish.ensures.fault

pub returns-in-Ok-clause-file_fault : goal.returns-in-Ok-clause-file_fault
returns-in-Ok-clause-file_fault g c =
    let before = world_of g.F.Files g.W.Sink g.E.Sink g.S.Store c.args.files.now c.args.out.now c.args.err.now c.args.store.now in
    let after = world_of g.F.Files g.W.Sink g.E.Sink g.S.Store c.plan.new.files c.finish.new.out c.finish.new.err c.plan.new.store in
    file_fault _ before after c.in-Ok.plan c.finish.result _ c.number.ensures c.finish.ensures.status (spec.due c.in-Ok.ensures.due)
    (rw (c.as_slice.ensures, c.as_slice-in-Ok.ensures) at c.finish.ensures.whole) (rw (c.as_slice.ensures, c.as_slice-in-Ok.ensures) at c.finish.ensures.cut) c.finish.ensures.fault

pub returns-in-Ok-clause-memory_fault : goal.returns-in-Ok-clause-memory_fault
returns-in-Ok-clause-memory_fault g c =
    let before = world_of g.F.Files g.W.Sink g.E.Sink g.S.Store c.args.files.now c.args.out.now c.args.err.now c.args.store.now in
    let after = world_of g.F.Files g.W.Sink g.E.Sink g.S.Store c.plan.new.files c.finish.new.out c.finish.new.err c.plan.new.store in
    memory_fault _ before after c.in-Ok.plan c.finish.result _ c.number.ensures c.finish.ensures.status (spec.due c.in-Ok.ensures.due)
    (rw (c.as_slice.ensures, c.as_slice-in-Ok.ensures) at c.finish.ensures.whole) (rw (c.as_slice.ensures, c.as_slice-in-Ok.ensures) at c.finish.ensures.cut) c.finish.ensures.fault

pub returns-in-Ok-clause-store_fault : goal.returns-in-Ok-clause-store_fault
returns-in-Ok-clause-store_fault g c =
    let before = world_of g.F.Files g.W.Sink g.E.Sink g.S.Store c.args.files.now c.args.out.now c.args.err.now c.args.store.now in
    let after = world_of g.F.Files g.W.Sink g.E.Sink g.S.Store c.plan.new.files c.finish.new.out c.finish.new.err c.plan.new.store in
    store_fault _ before after c.in-Ok.plan c.finish.result _ c.number.ensures c.finish.ensures.status (spec.due c.in-Ok.ensures.due)
    (rw (c.as_slice.ensures, c.as_slice-in-Ok.ensures) at c.finish.ensures.whole) (rw (c.as_slice.ensures, c.as_slice-in-Ok.ensures) at c.finish.ensures.cut) c.finish.ensures.fault

pub returns-in-Ok-clause-sink_fault : goal.returns-in-Ok-clause-sink_fault
returns-in-Ok-clause-sink_fault g c =
    let before = world_of g.F.Files g.W.Sink g.E.Sink g.S.Store c.args.files.now c.args.out.now c.args.err.now c.args.store.now in
    let after = world_of g.F.Files g.W.Sink g.E.Sink g.S.Store c.plan.new.files c.finish.new.out c.finish.new.err c.plan.new.store in
    sink_fault _ before after c.in-Ok.plan c.finish.result _ c.number.ensures c.finish.ensures.status (spec.due c.in-Ok.ensures.due)
    (rw (c.as_slice.ensures, c.as_slice-in-Ok.ensures) at c.finish.ensures.whole) (rw (c.as_slice.ensures, c.as_slice-in-Ok.ensures) at c.finish.ensures.cut) c.finish.ensures.fault

pub returns-in-Ok-clause-spared : goal.returns-in-Ok-clause-spared
returns-in-Ok-clause-spared g c =
    let before = world_of g.F.Files g.W.Sink g.E.Sink g.S.Store c.args.files.now c.args.out.now c.args.err.now c.args.store.now in
    let after = world_of g.F.Files g.W.Sink g.E.Sink g.S.Store c.plan.new.files c.finish.new.out c.finish.new.err c.plan.new.store in
    spared _ before after c.in-Ok.plan c.finish.result _ c.number.ensures c.finish.ensures.status (spec.due c.in-Ok.ensures.due)
    (rw (c.as_slice.ensures, c.as_slice-in-Ok.ensures) at c.finish.ensures.whole) (rw (c.as_slice.ensures, c.as_slice-in-Ok.ensures) at c.finish.ensures.cut) c.finish.ensures.fault

pub returns-in-Ok-clause-migrates : goal.returns-in-Ok-clause-migrates
returns-in-Ok-clause-migrates g c =
    let before = world_of g.F.Files g.W.Sink g.E.Sink g.S.Store c.args.files.now c.args.out.now c.args.err.now c.args.store.now in
    let after = world_of g.F.Files g.W.Sink g.E.Sink g.S.Store c.plan.new.files c.finish.new.out c.finish.new.err c.plan.new.store in
    right-migrates _ before after _ (returns-in-Ok-clause-right g c)

pub returns-in-Ok-clause-checks : goal.returns-in-Ok-clause-checks
returns-in-Ok-clause-checks g c =
    let before = world_of g.F.Files g.W.Sink g.E.Sink g.S.Store c.args.files.now c.args.out.now c.args.err.now c.args.store.now in
    let after = world_of g.F.Files g.W.Sink g.E.Sink g.S.Store c.plan.new.files c.finish.new.out c.finish.new.err c.plan.new.store in
    right-checks _ before after _ (returns-in-Ok-clause-right g c)

pub returns-in-Ok-clause-refused : goal.returns-in-Ok-clause-refused
returns-in-Ok-clause-refused g c =
    let before = world_of g.F.Files g.W.Sink g.E.Sink g.S.Store c.args.files.now c.args.out.now c.args.err.now c.args.store.now in
    let after = world_of g.F.Files g.W.Sink g.E.Sink g.S.Store c.plan.new.files c.finish.new.out c.finish.new.err c.plan.new.store in
    refused _ before after c.in-Ok.plan c.finish.result _ c.number.ensures c.finish.ensures.status (spec.due c.in-Ok.ensures.due)
    (rw (c.as_slice.ensures, c.as_slice-in-Ok.ensures) at c.finish.ensures.whole) (rw (c.as_slice.ensures, c.as_slice-in-Ok.ensures) at c.finish.ensures.cut) c.finish.ensures.fault _ c.in-Ok.ensures.refused

pub returns-in-Ok-clause-alone : goal.returns-in-Ok-clause-alone
returns-in-Ok-clause-alone g c = alone _ (inputs_of g.F.Files g.S.Store c.args.files.now c.args.store.now) (inputs_of g.F.Files g.S.Store c.plan.new.files c.plan.new.store) c.plan.ensures.left

-- ---- want of memory

pub returns-in-Err-clause-right : goal.returns-in-Err-clause-right
returns-in-Err-clause-right g c =
    let before = world_of g.F.Files g.W.Sink g.E.Sink g.S.Store c.args.files.now c.args.out.now c.args.err.now c.args.store.now in
    let after = world_of g.F.Files g.W.Sink g.E.Sink g.S.Store c.plan.new.files c.finish-in-Err.new.out c.finish-in-Err.new.err c.plan.new.store in
    right _ before after (refusal status.Memory no_memory) c.finish-in-Err.result _ c.number-in-Err.ensures c.finish-in-Err.ensures.status (spec.memory refl)
    (rw (c.as_bytes.ensures.value, c.no_memory.ensures) at c.finish-in-Err.ensures.whole) (rw (c.as_bytes.ensures.value, c.no_memory.ensures) at c.finish-in-Err.ensures.cut) c.finish-in-Err.ensures.fault

pub returns-in-Err-clause-complete : goal.returns-in-Err-clause-complete
returns-in-Err-clause-complete g c =
    let before = world_of g.F.Files g.W.Sink g.E.Sink g.S.Store c.args.files.now c.args.out.now c.args.err.now c.args.store.now in
    let after = world_of g.F.Files g.W.Sink g.E.Sink g.S.Store c.plan.new.files c.finish-in-Err.new.out c.finish-in-Err.new.err c.plan.new.store in
    complete _ before after (refusal status.Memory no_memory) c.finish-in-Err.result _ c.number-in-Err.ensures c.finish-in-Err.ensures.status (spec.memory refl)
    (rw (c.as_bytes.ensures.value, c.no_memory.ensures) at c.finish-in-Err.ensures.whole) (rw (c.as_bytes.ensures.value, c.no_memory.ensures) at c.finish-in-Err.ensures.cut) c.finish-in-Err.ensures.fault

pub returns-in-Err-clause-file_fault : goal.returns-in-Err-clause-file_fault
returns-in-Err-clause-file_fault g c =
    let before = world_of g.F.Files g.W.Sink g.E.Sink g.S.Store c.args.files.now c.args.out.now c.args.err.now c.args.store.now in
    let after = world_of g.F.Files g.W.Sink g.E.Sink g.S.Store c.plan.new.files c.finish-in-Err.new.out c.finish-in-Err.new.err c.plan.new.store in
    file_fault _ before after (refusal status.Memory no_memory) c.finish-in-Err.result _ c.number-in-Err.ensures c.finish-in-Err.ensures.status (spec.memory refl)
    (rw (c.as_bytes.ensures.value, c.no_memory.ensures) at c.finish-in-Err.ensures.whole) (rw (c.as_bytes.ensures.value, c.no_memory.ensures) at c.finish-in-Err.ensures.cut) c.finish-in-Err.ensures.fault

pub returns-in-Err-clause-memory_fault : goal.returns-in-Err-clause-memory_fault
returns-in-Err-clause-memory_fault g c =
    let before = world_of g.F.Files g.W.Sink g.E.Sink g.S.Store c.args.files.now c.args.out.now c.args.err.now c.args.store.now in
    let after = world_of g.F.Files g.W.Sink g.E.Sink g.S.Store c.plan.new.files c.finish-in-Err.new.out c.finish-in-Err.new.err c.plan.new.store in
    memory_fault c.args.words.now before after (refusal status.Memory no_memory) c.finish-in-Err.result _ c.number-in-Err.ensures c.finish-in-Err.ensures.status (spec.memory refl)
    (rw (c.as_bytes.ensures.value, c.no_memory.ensures) at c.finish-in-Err.ensures.whole) (rw (c.as_bytes.ensures.value, c.no_memory.ensures) at c.finish-in-Err.ensures.cut) c.finish-in-Err.ensures.fault

pub returns-in-Err-clause-store_fault : goal.returns-in-Err-clause-store_fault
returns-in-Err-clause-store_fault g c =
    let before = world_of g.F.Files g.W.Sink g.E.Sink g.S.Store c.args.files.now c.args.out.now c.args.err.now c.args.store.now in
    let after = world_of g.F.Files g.W.Sink g.E.Sink g.S.Store c.plan.new.files c.finish-in-Err.new.out c.finish-in-Err.new.err c.plan.new.store in
    store_fault _ before after (refusal status.Memory no_memory) c.finish-in-Err.result _ c.number-in-Err.ensures c.finish-in-Err.ensures.status (spec.memory refl)
    (rw (c.as_bytes.ensures.value, c.no_memory.ensures) at c.finish-in-Err.ensures.whole) (rw (c.as_bytes.ensures.value, c.no_memory.ensures) at c.finish-in-Err.ensures.cut) c.finish-in-Err.ensures.fault

pub returns-in-Err-clause-sink_fault : goal.returns-in-Err-clause-sink_fault
returns-in-Err-clause-sink_fault g c =
    let before = world_of g.F.Files g.W.Sink g.E.Sink g.S.Store c.args.files.now c.args.out.now c.args.err.now c.args.store.now in
    let after = world_of g.F.Files g.W.Sink g.E.Sink g.S.Store c.plan.new.files c.finish-in-Err.new.out c.finish-in-Err.new.err c.plan.new.store in
    sink_fault _ before after (refusal status.Memory no_memory) c.finish-in-Err.result _ c.number-in-Err.ensures c.finish-in-Err.ensures.status (spec.memory refl)
    (rw (c.as_bytes.ensures.value, c.no_memory.ensures) at c.finish-in-Err.ensures.whole) (rw (c.as_bytes.ensures.value, c.no_memory.ensures) at c.finish-in-Err.ensures.cut) c.finish-in-Err.ensures.fault

pub returns-in-Err-clause-spared : goal.returns-in-Err-clause-spared
returns-in-Err-clause-spared g c =
    let before = world_of g.F.Files g.W.Sink g.E.Sink g.S.Store c.args.files.now c.args.out.now c.args.err.now c.args.store.now in
    let after = world_of g.F.Files g.W.Sink g.E.Sink g.S.Store c.plan.new.files c.finish-in-Err.new.out c.finish-in-Err.new.err c.plan.new.store in
    spared c.args.words.now before after (refusal status.Memory no_memory) c.finish-in-Err.result _ c.number-in-Err.ensures c.finish-in-Err.ensures.status (spec.memory refl)
    (rw (c.as_bytes.ensures.value, c.no_memory.ensures) at c.finish-in-Err.ensures.whole) (rw (c.as_bytes.ensures.value, c.no_memory.ensures) at c.finish-in-Err.ensures.cut) c.finish-in-Err.ensures.fault

pub returns-in-Err-clause-migrates : goal.returns-in-Err-clause-migrates
returns-in-Err-clause-migrates g c =
    let before = world_of g.F.Files g.W.Sink g.E.Sink g.S.Store c.args.files.now c.args.out.now c.args.err.now c.args.store.now in
    let after = world_of g.F.Files g.W.Sink g.E.Sink g.S.Store c.plan.new.files c.finish-in-Err.new.out c.finish-in-Err.new.err c.plan.new.store in
    right-migrates _ before after _ (returns-in-Err-clause-right g c)

pub returns-in-Err-clause-checks : goal.returns-in-Err-clause-checks
returns-in-Err-clause-checks g c =
    let before = world_of g.F.Files g.W.Sink g.E.Sink g.S.Store c.args.files.now c.args.out.now c.args.err.now c.args.store.now in
    let after = world_of g.F.Files g.W.Sink g.E.Sink g.S.Store c.plan.new.files c.finish-in-Err.new.out c.finish-in-Err.new.err c.plan.new.store in
    right-checks _ before after _ (returns-in-Err-clause-right g c)

pub returns-in-Err-clause-refused : goal.returns-in-Err-clause-refused
returns-in-Err-clause-refused g c =
    let before = world_of g.F.Files g.W.Sink g.E.Sink g.S.Store c.args.files.now c.args.out.now c.args.err.now c.args.store.now in
    let after = world_of g.F.Files g.W.Sink g.E.Sink g.S.Store c.plan.new.files c.finish-in-Err.new.out c.finish-in-Err.new.err c.plan.new.store in
    refused c.args.words.now before after (refusal status.Memory no_memory) c.finish-in-Err.result _ c.number-in-Err.ensures c.finish-in-Err.ensures.status (spec.memory refl)
    (rw (c.as_bytes.ensures.value, c.no_memory.ensures) at c.finish-in-Err.ensures.whole) (rw (c.as_bytes.ensures.value, c.no_memory.ensures) at c.finish-in-Err.ensures.cut) c.finish-in-Err.ensures.fault _ (λ e. let odd : status.Memory ≡ status.Words = e in absurd cc)

pub returns-in-Err-clause-alone : goal.returns-in-Err-clause-alone
returns-in-Err-clause-alone g c = alone _ (inputs_of g.F.Files g.S.Store c.args.files.now c.args.store.now) (inputs_of g.F.Files g.S.Store c.plan.new.files c.plan.new.store) c.plan.ensures.left
