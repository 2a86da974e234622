-- The pairs of an old and a new column of one kind.
use Rattle.std.specs.Prelude.{ℕ, List, map}
use Rattle.std.specs.List.{count_by, flat_map}
use Rattle.mig_schema.specs.Columns.{same_kind}
use Rattle.mig_schema.specs.declared.jobs.Job.{Job}
use Rattle.mig_schema.specs.declared.tables.Column.{Column}
use Rattle.mig_schema.specs.declared.tables.Kind.{Kind}
use Rattle.mig_schema.specs.declared.tables.Schema.{Schema}
use Rattle.mig_schema.specs.declared.tables.Table.{Table}

-- all columns of a schema, one table after the other
abbrev pub all_columns : Schema → List Column
all_columns s = flat_map (λ (t : Table). t.columns) s.tables

-- how many columns are of a kind
abbrev pub of_kind : Kind → List Column → ℕ
of_kind k cs = count_by (λ (c : Column). same_kind c.kind k) cs

-- each old column with each new one
abbrev pub column_pairs : Job → List (Column × Column)
column_pairs j = flat_map (λ (c : Column). map (λ (d : Column). (c, d)) (all_columns j.target)) (all_columns j.source)

-- how many of them are of one kind
abbrev pub pairs_of : Job → ℕ
pairs_of j = count_by (λ (p : Column × Column). same_kind p.0.kind p.1.kind) (column_pairs j)
