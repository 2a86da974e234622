-- The first broken place is answered, where there is one.
use Rattle.mig_schema.specs.declared.faults.TypeFault.TheVariants as fault
use Rattle.mig_schema.specs.Typed.{IsTypedSchema}
use Rattle.mig_typing.specs.Broken.{schema_breaks}
use Rattle.mig_typing.proofs.Checks.{ok_typed, ok_first, place_typed, place_first}
use Rattle.mig_typing.proofs.Orders.{known_schema}
use Rattle.mig_typing.proofs.OfSchemas.{schema_typed, schema_none, typed_none, schema_first}
use Rattle.mig_typing.proofs.schemas.check_schema.Goals as goal

pub returns-in-None-clause-typed : goal.returns-in-None-clause-typed
returns-in-None-clause-typed c = ok_typed (IsTypedSchema c.args.schema.now) tt (schema_typed c.args.schema.now c.in-None.ensures)

pub returns-in-None-clause-first : goal.returns-in-None-clause-first
returns-in-None-clause-first c = ok_first (schema_breaks c.args.schema.now c.args.side) tt (schema_none c.args.schema.now c.args.side c.in-None.ensures)

pub returns-in-Some-clause-typed : goal.returns-in-Some-clause-typed
returns-in-Some-clause-typed c = place_typed (IsTypedSchema c.args.schema.now) (schema_breaks c.args.schema.now c.args.side) (fault.Schema c.args.side c.in-Some.found.0 c.in-Some.found.1 c.in-Some.found.2) c.fault_at.result c.fault_at.ensures (schema_first c.args.schema.now c.args.side c.in-Some.found c.in-Some.ensures) (typed_none c.args.schema.now c.args.side)

pub returns-in-Some-clause-first : goal.returns-in-Some-clause-first
returns-in-Some-clause-first c = place_first (schema_breaks c.args.schema.now c.args.side) (fault.Schema c.args.side c.in-Some.found.0 c.in-Some.found.1 c.in-Some.found.2) c.fault_at.result (known_schema c.args.schema.now c.args.side) c.fault_at.ensures (schema_first c.args.schema.now c.args.side c.in-Some.found c.in-Some.ensures)
