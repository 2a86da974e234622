-- The first broken place is answered, where there is one.
use Rattle.mig_schema.specs.declared.faults.TypeFault.TheVariants as fault
use Rattle.mig_schema.specs.Typed.{IsTypedProgram}
use Rattle.mig_typing.specs.Broken.{program_breaks}
use Rattle.mig_typing.proofs.Checks.{ok_typed, ok_first, place_typed, place_first}
use Rattle.mig_typing.proofs.Orders.{known_program}
use Rattle.mig_typing.proofs.OfPrograms.{program_typed, program_none, typed_none, program_first}
use Rattle.mig_typing.proofs.programs.check_program.Goals as goal

pub returns-in-None-clause-typed : goal.returns-in-None-clause-typed
returns-in-None-clause-typed c = ok_typed (IsTypedProgram c.args.schema.now c.args.program.now) tt (program_typed c.args.schema.now c.args.program.now c.in-None.ensures)

pub returns-in-None-clause-first : goal.returns-in-None-clause-first
returns-in-None-clause-first c = ok_first (program_breaks c.args.schema.now c.args.program.now) tt (program_none c.args.schema.now c.args.program.now c.in-None.ensures)

pub returns-in-Some-clause-typed : goal.returns-in-Some-clause-typed
returns-in-Some-clause-typed c = place_typed (IsTypedProgram c.args.schema.now c.args.program.now) (program_breaks c.args.schema.now c.args.program.now) (fault.Program c.in-Some.found.0 c.in-Some.found.1 c.in-Some.found.2) c.fault_at.result c.fault_at.ensures (program_first c.args.schema.now c.args.program.now c.in-Some.found c.in-Some.ensures) (typed_none c.args.schema.now c.args.program.now)

pub returns-in-Some-clause-first : goal.returns-in-Some-clause-first
returns-in-Some-clause-first c = place_first (program_breaks c.args.schema.now c.args.program.now) (fault.Program c.in-Some.found.0 c.in-Some.found.1 c.in-Some.found.2) c.fault_at.result (known_program c.args.schema.now c.args.program.now) c.fault_at.ensures (program_first c.args.schema.now c.args.program.now c.in-Some.found c.in-Some.ensures)
