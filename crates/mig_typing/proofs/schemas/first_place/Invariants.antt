use Rattle.std.proofs.Common.{◌≡◌, ℕ, ◌<◌, false}
use Rattle.mig_schema.specs.declared.faults.SchemaRule.{SchemaRule}
use Rattle.mig_typing.specs.Broken.{schema_broken, schema_rank}
use Rattle.mig_typing.proofs.schemas.first_place.Given as goal

abbrev pub invariant-loop-rule : goal.invariant-loop-rule
invariant-loop-rule l = (r : SchemaRule) (a b : ℕ) → schema_rank r < l.rule-index → schema_broken l.schema r a b ≡ false
