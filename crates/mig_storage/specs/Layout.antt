-- The kinds of the columns of each table, and which rows and values have them.
use Rattle.std.specs.Prelude.{ℕ, ◌≤◌, ◌&&◌, Bool, true, false, List, [], ◌∷◌, map, length, slice_index_or}
use Rattle.mig_schema.specs.declared.tables.Column.{Column}
use Rattle.mig_schema.specs.declared.tables.Kind.{Kind}
use Rattle.mig_schema.specs.declared.tables.Kind.TheVariants as kind
use Rattle.mig_schema.specs.declared.tables.Schema.{Schema}
use Rattle.mig_schema.specs.declared.tables.Table.{Table}
use Rattle.mig_schema.specs.declared.values.Value.{Value}
use Rattle.mig_schema.specs.declared.values.Value.TheVariants as value
use Rattle.mig_meaning.specs.Values.{of_kind}

-- the kinds of the columns of each table
abbrev pub Layout : Type 0
Layout = List (List Kind)

-- the layout of a schema's tables
abbrev pub layout_of : Schema → Layout
layout_of s = map (λ (t : Table). map (λ (c : Column). c.kind) t.columns) s.tables

-- the kinds of the columns of table t
abbrev pub kinds_at : Layout → ℕ → List Kind
kinds_at layout t = slice_index_or layout t []

-- the kind of column c of table t
abbrev pub kind_at : Layout → (t c : ℕ) → Kind
kind_at layout t c = slice_index_or (kinds_at layout t) c kind.Int

-- whether there is one value of each kind, in order
abbrev pub of_kinds : List Kind → List Value → Bool
of_kinds [] [] = true
of_kinds (k ∷ ks) (v ∷ vs) = of_kind k v && of_kinds ks vs
of_kinds _ _ = false

-- a text has at most 65,535 bytes
abbrev pub IsShort : Value → Type 0
IsShort (value.Int i) = Unit {0}
IsShort (value.Text t) = length t ≤ 65535
IsShort (value.Key k) = Unit {0}
