-- States over a schema, and the law that functions lead from states to states.
use Rattle.std.specs.Prelude.{ℕ, ◌<◌, nat_lt, Bool, true, false, ◌&&◌, List, [], ◌∷◌, length, ◌≡◌}
use Rattle.std.specs.List.{list_all}
use Rattle.mig_schema.specs.declared.tables.Column.{Column}
use Rattle.mig_schema.specs.declared.tables.Schema.{Schema}
use Rattle.mig_schema.specs.declared.programs.Scalar.{Scalar}
use Rattle.mig_schema.specs.declared.programs.Scalar.TheVariants as scalar
use Rattle.mig_schema.specs.declared.programs.Function.{Function}
use Rattle.mig_schema.specs.declared.values.Value.{Value}
use Rattle.mig_schema.specs.Columns.{columns_of}
use Rattle.mig_schema.specs.Typed.{Piece, pieces_of, scalars_of, IsTypedFunction}
use Rattle.mig_meaning.specs.declared.states.Placed.{Placed}
use Rattle.mig_meaning.specs.declared.states.State.{State}
use Rattle.mig_meaning.specs.Lists.{In, Each}
use Rattle.mig_meaning.specs.Values.{of_kind}
use Rattle.mig_meaning.specs.Rows.{rows_of}
use Rattle.mig_meaning.specs.Conditions.{Given}
use Rattle.mig_meaning.specs.Effect.{after}
use Rattle.mig_meaning.specs.Calls.{IsGivenTo}

-- a value per column, of the column's kind
abbrev pub row_fits : List Column → List Value → Bool
row_fits [] [] = true
row_fits (c ∷ cs) (v ∷ vs) = of_kind c.kind v && row_fits cs vs
row_fits _ _ = false

-- the ids rise
abbrev pub Rising : List Placed → Type 0
Rising [] = Unit {0}
Rising (p ∷ ps) = Each (λ (q : Placed). p.id < q.id) ps × Rising ps

-- the rows of a table with these columns, in a state with this next id
pub record IsTable (columns : List Column) (next : ℕ) (rows : List Placed) : Type 0 where
  pub rising : Rising rows
  pub below : Each (λ (p : Placed). p.id < next) rows
  pub fitting : Each (λ (p : Placed). row_fits columns p.row.values ≡ true) rows

-- A state over a schema: a list of rows per table, and no two rows of the state have one id. That ints are 64-bit, keys and ids below 2^64 and texts bytes comes from the types of the code.
pub record IsState (schema : Schema) (s : State) : Type 0 where
  pub count : length s.tables ≡ length schema.tables
  pub each : (t : ℕ) → IsTable (columns_of schema t) s.next (rows_of s t)
  pub apart : (t u : ℕ) (p q : Placed) → In p (rows_of s t) → In q (rows_of s u) → p.id ≡ q.id → t ≡ u

-- a fresh key is one of a call's 16
abbrev pub label_fits : Scalar → Bool
label_fits (scalar.Param p) = true
label_fits (scalar.Int i) = true
label_fits (scalar.Text t) = true
label_fits (scalar.Fresh n) = nat_lt n 16

-- the same of each fresh key of a function
abbrev pub labels_fit : Function → Bool
labels_fit f = list_all (λ (p : Piece). list_all label_fits (scalars_of p)) (pieces_of f.body)

-- a typed function leads from a state over the schema to one
pub record StateLaw : Type 0 where
  pub by : (schema : Schema) (f : Function) (g : Given) (s : State) → IsTypedFunction schema f → labels_fit f ≡ true → IsGivenTo f g → IsState schema s → IsState schema (after schema g f.body s)
