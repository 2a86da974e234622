-- The columns of a schema in order, and which of them are keys.
use Rattle.std.specs.Prelude.{ℕ, Bool, List, length, filter}
use Rattle.std.specs.List.{flat_map, range_with_len}
use Rattle.mig_schema.specs.declared.tables.ColId.{ColId}
use Rattle.mig_schema.specs.declared.tables.Schema.{Schema}
use Rattle.mig_schema.specs.declared.tables.Kind.TheVariants as kind
use Rattle.mig_schema.specs.Columns.{columns_in, same_kind, kind_of}
use Rattle.mig_schema.specs.Joins.{is_among}

-- all columns of a schema, table by table
abbrev pub all_columns : Schema → List ColId
all_columns s = flat_map (columns_in s) (range_with_len 0 (length s.tables))

-- those of these columns whose table is among these
abbrev pub columns_within : List ColId → (tables : List ℕ) → List ColId
columns_within columns tables = filter (λ (c : ColId). is_among c.table tables) columns

-- whether a column is of kind key
abbrev pub is_key : Schema → ColId → Bool
is_key s c = same_kind (kind_of s c) kind.Key
