use Rattle.std.proofs.Common.{◌≡◌, ℕ, ◌<◌, false}
use Rattle.mig_schema.specs.Typed.{column_twice}
use Rattle.mig_typing.proofs.schemas.first_column.Given as goal

abbrev pub invariant-loop-t : goal.invariant-loop-t
invariant-loop-t l = (t k : ℕ) → t < l.t → column_twice l.schema t k ≡ false
