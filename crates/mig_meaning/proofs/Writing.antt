-- What it takes of a statement that the next state is a state: the values that it writes have the columns' kinds.
use Rattle.std.proofs.Common.{◌≡◌, ℕ, ◌+◌, true, List, [], ◌∷◌}
use Rattle.mig_schema.specs.declared.tables.Column.{Column}
use Rattle.mig_schema.specs.declared.tables.Schema.{Schema}
use Rattle.mig_schema.specs.declared.programs.Stmt.{Stmt}
use Rattle.mig_schema.specs.declared.programs.Stmt.TheVariants.{Insert, Delete, Set}
use Rattle.mig_schema.specs.declared.programs.Body.{Body}
use Rattle.mig_schema.specs.declared.programs.Body.TheVariants as body
use Rattle.mig_schema.specs.declared.values.Value.{Value}
use Rattle.mig_schema.specs.Columns.{columns_of}
use Rattle.mig_schema.specs.Joins.{tables_of}
use Rattle.mig_meaning.specs.Lists.{In, Each}
use Rattle.mig_meaning.specs.Values.{of_kind}
use Rattle.mig_meaning.specs.Conditions.{Given, scalar_value}
use Rattle.mig_meaning.specs.Effect.{new_values}
use Rattle.mig_meaning.specs.States.{row_fits}

-- the value has the kind of column c, where the columns are numbered from n on
abbrev pub SetFits : ℕ → Value → ℕ → List Column → Type 0
SetFits c v n [] = Unit {0}
SetFits c v n (k ∷ ks) = (n ≡ c → of_kind k.kind v ≡ true) × SetFits c v (n + 1) ks

-- what a statement writes has the columns' kinds
abbrev pub WritesKinds : Schema → Given → Stmt → Type 0
WritesKinds schema g (Insert join values) = (t : ℕ) → In t (tables_of join) → row_fits (columns_of schema t) (new_values schema g join.more values t) ≡ true
WritesKinds schema g (Delete listed join test) = Unit {0}
WritesKinds schema g (Set column x join test) = SetFits column.column (scalar_value g x) 0 (columns_of schema column.table)

-- the same of each statement of a function
abbrev pub BodyWritesKinds : Schema → Given → Body → Type 0
BodyWritesKinds schema g (body.Update stmts) = Each (WritesKinds schema g) stmts
BodyWritesKinds schema g (body.Query q) = Unit {0}
