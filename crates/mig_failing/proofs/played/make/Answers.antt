use Rattle.std.proofs.Common.{sym, ◌∙◌, refl}
use Rattle.mig_storage.specs.VecMeaning.{meaning_of}
use Rattle.mig_store.specs.Runs.{state_after}
use Rattle.mig_failing.proofs.AfterCalls.{after_call, answered_more, room_after}
use Rattle.mig_failing.proofs.played.make.Goals as goal

pub nth_call-requires-clause-room : goal.nth_call-requires-clause-room
nth_call-requires-clause-room c = room_after c.args.schema.now c.args.program.now c.args.calls.now (meaning_of c.args.store.now) c.requires.callable c.requires.after

pub returns-in-Ok-clause-after : goal.returns-in-Ok-clause-after
returns-in-Ok-clause-after c = after_call c.args.schema.now c.args.program.now c.args.calls.now c.args.next.now (meaning_of c.args.store.now) (meaning_of c.nth_call.new.store) c.requires.after c.in-Ok.ensures.state c.in-Ok.ensures.layout c.in-Ok.ensures.rest refl

pub returns-in-Ok-clause-reply : goal.returns-in-Ok-clause-reply
returns-in-Ok-clause-reply c = c.in-Ok.ensures.reply (state_after c.args.schema.now c.args.program.now c.args.calls.now) c.requires.after.told ∙ sym (answered_more c.args.schema.now c.args.program.now c.args.calls.now c.args.next.now)
