-- Programs that are not equivalent: one loses a row, one writes another key of its call.
use Rattle.std.specs.Prelude.{ℕ, List, [], ◌∷◌}
use Rattle.mig_schema.specs.declared.tables.Kind.TheVariants as kind
use Rattle.mig_schema.specs.declared.tables.ColId.{ColId}
use Rattle.mig_schema.specs.declared.tables.Schema.{Schema}
use Rattle.mig_schema.specs.declared.programs.Join.{Join}
use Rattle.mig_schema.specs.declared.programs.Scalar.TheVariants as scalar
use Rattle.mig_schema.specs.declared.programs.Stmt.{Stmt}
use Rattle.mig_schema.specs.declared.programs.Stmt.TheVariants.{Insert}
use Rattle.mig_schema.specs.declared.programs.Body.TheVariants as body
use Rattle.mig_schema.specs.declared.programs.Program.{Program}
use Rattle.mig_meaning.specs.Equivalent.{IsEquivalent}

-- ---- table K { k: key }, an update without parameters, and a query of all rows

abbrev pub schema : Schema
schema = record { tables = record { name = []; columns = record { name = []; kind = kind.Key } ∷ [] } ∷ []; links = [] }

abbrev alone : Join
alone = record { first = 0; more = [] }

abbrev k : ColId
k = record { table = 0; column = 0 }

-- a new row with this key of the call
abbrev pub adds : ℕ → List Stmt
adds n = Insert alone (record { column = k; value = scalar.Fresh n } ∷ []) ∷ []

abbrev pub program : List Stmt → Program
program stmts = record {
  functions =
      record { name = []; params = []; body = body.Update stmts }
      ∷ record { name = []; params = []; body = body.Query (record { columns = k ∷ []; join = alone; cond = record { cases = [] ∷ [] } }) }
      ∷ [];
}

-- a program that adds no row is not equivalent to one that adds a row
abbrev pub LostRow : Type 0
LostRow = IsEquivalent schema schema (program (adds 0)) (program []) [] → ⊥

-- nor is one that writes another key of the call
abbrev pub OtherKey : Type 0
OtherKey = IsEquivalent schema schema (program (adds 0)) (program (adds 1)) [] → ⊥
