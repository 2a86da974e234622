-- The first broken place is answered, where there is one.
use Rattle.mig_schema.specs.declared.faults.TypeFault.TheVariants as fault
use Rattle.mig_schema.specs.Typed.{AreTypedHints}
use Rattle.mig_typing.specs.Broken.{hints_break}
use Rattle.mig_typing.proofs.Checks.{ok_typed, ok_first, place_typed, place_first}
use Rattle.mig_typing.proofs.Orders.{known_hints}
use Rattle.mig_typing.proofs.OfHints.{hints_typed, hints_none, typed_none, hints_first}
use Rattle.mig_typing.proofs.hints.check_hints.Goals as goal

pub returns-in-None-clause-typed : goal.returns-in-None-clause-typed
returns-in-None-clause-typed c = ok_typed (AreTypedHints c.args.job.now) tt (hints_typed c.args.job.now c.in-None.ensures)

pub returns-in-None-clause-first : goal.returns-in-None-clause-first
returns-in-None-clause-first c = ok_first (hints_break c.args.job.now) tt (hints_none c.args.job.now c.in-None.ensures)

pub returns-in-Some-clause-typed : goal.returns-in-Some-clause-typed
returns-in-Some-clause-typed c = place_typed (AreTypedHints c.args.job.now) (hints_break c.args.job.now) (fault.Hint c.in-Some.found.0 c.in-Some.found.1) c.fault_at.result c.fault_at.ensures (hints_first c.args.job.now c.in-Some.found c.in-Some.ensures) (typed_none c.args.job.now)

pub returns-in-Some-clause-first : goal.returns-in-Some-clause-first
returns-in-Some-clause-first c = place_first (hints_break c.args.job.now) (fault.Hint c.in-Some.found.0 c.in-Some.found.1) c.fault_at.result (known_hints c.args.job.now) c.fault_at.ensures (hints_first c.args.job.now c.in-Some.found c.in-Some.ensures)
