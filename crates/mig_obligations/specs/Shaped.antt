-- Invariants that speak of what two schemas have.
use Rattle.std.specs.Prelude.{Bool, true, false, ◌==◌, not, ◌&&◌, List, [], ◌∷◌}
use Rattle.std.specs.List.{list_all}
use Rattle.mig_schema.specs.declared.faults.Side.{Side}
use Rattle.mig_schema.specs.declared.faults.Side.TheVariants.{Old, New}
use Rattle.mig_schema.specs.declared.tables.ColId.{ColId}
use Rattle.mig_schema.specs.declared.tables.Schema.{Schema}
use Rattle.mig_schema.specs.declared.programs.Join.{Join}
use Rattle.mig_schema.specs.Columns.{has_table, has_column, kind_of, same_kind}
use Rattle.mig_schema.specs.Joins.{tables_of, is_among, all_join_on}
use Rattle.mig_schema.specs.Typed.{stands_twice}
use Rattle.mig_meaning.specs.declared.relating.View.{View}
use Rattle.mig_meaning.specs.declared.relating.Invariant.{Invariant}
use Rattle.mig_meaning.specs.declared.relating.Invariant.TheVariants.{Views, Unique, Apart, Within}

-- whether a join's tables and columns are in the schema, no table stands twice, and each equality joins its table to an earlier one
abbrev pub join_shaped : Schema → Join → Bool
join_shaped s j =
    list_all (has_table s) (tables_of j)
    && (list_all (λ m. has_column s m.left && has_column s m.right) j.more
    && (not (stands_twice (tables_of j))
    && all_join_on s (j.first ∷ []) j.more))

-- whether a view's outputs are columns of its join's tables
abbrev pub view_shaped : Schema → View → Bool
view_shaped s v = join_shaped s v.join && list_all (λ c. has_column s c && is_among c.table (tables_of v.join)) v.outs

-- whether two lists of outputs, each over its schema, are equally long and have equal kinds at each place
abbrev pub same_kinds : Schema → Schema → List ColId → List ColId → Bool
same_kinds s s' [] [] = true
same_kinds s s' (c ∷ cs) (d ∷ ds) = same_kind (kind_of s c) (kind_of s' d) && same_kinds s s' cs ds
same_kinds s s' _ _ = false

-- whether two columns of different tables are in the schema and have one kind
abbrev pub columns_shaped : Schema → (left right : ColId) → Bool
columns_shaped s c d = has_column s c && (has_column s d && (same_kind (kind_of s c) (kind_of s d) && not (c.table == d.table)))

-- the schema of a side
abbrev pub schema_at : Side → (old new : Schema) → Schema
schema_at Old s s' = s
schema_at New s s' = s'

-- whether an invariant between an old and a new schema is shaped
abbrev pub is_shaped : (old new : Schema) → Invariant → Bool
is_shaped s s' (Views source target) = view_shaped s source && (view_shaped s' target && same_kinds s s' source.outs target.outs)
is_shaped s s' (Unique side c) = has_column (schema_at side s s') c
is_shaped s s' (Apart side c d) = columns_shaped (schema_at side s s') c d
is_shaped s s' (Within side c d) = columns_shaped (schema_at side s s') c d
