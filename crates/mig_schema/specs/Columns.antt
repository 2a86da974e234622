-- Tables and columns by their numbers.
use Rattle.std.specs.Prelude.{ℕ, ◌==◌, nat_lt, Bool, true, false, ◌&&◌, List, [], length, slice_index_or}
use Rattle.mig_base.specs.Lists.{numbered}
use Rattle.mig_schema.specs.declared.tables.ColId.{ColId}
use Rattle.mig_schema.specs.declared.tables.Column.{Column}
use Rattle.mig_schema.specs.declared.tables.Table.{Table}
use Rattle.mig_schema.specs.declared.tables.Schema.{Schema}
use Rattle.mig_schema.specs.declared.tables.Kind.{Kind}
use Rattle.mig_schema.specs.declared.tables.Kind.TheVariants as kind

-- what stands where a number is out of range
abbrev pub no_column : Column
no_column = record { name = []; kind = kind.Int }

abbrev pub no_table : Table
no_table = record { name = []; columns = [] }

-- the table of this number
abbrev pub table_at : Schema → ℕ → Table
table_at s t = slice_index_or s.tables t no_table

-- the columns of table t
abbrev pub columns_of : Schema → ℕ → List Column
columns_of s t = (table_at s t).columns

-- the column of these numbers
abbrev pub column_at : Schema → ColId → Column
column_at s c = slice_index_or (columns_of s c.table) c.column no_column

-- the kind of a column
abbrev pub kind_of : Schema → ColId → Kind
kind_of s c = (column_at s c).kind

-- the columns of table t, by their numbers
abbrev pub columns_in : Schema → ℕ → List ColId
columns_in s t = numbered (λ n (c : Column). record { table = t; column = n }) 0 (columns_of s t)

-- whether the schema has a table of this number
abbrev pub has_table : Schema → ℕ → Bool
has_table s t = nat_lt t (length s.tables)

-- whether the schema has a column of these numbers
abbrev pub has_column : Schema → ColId → Bool
has_column s c = has_table s c.table && nat_lt c.column (length (columns_of s c.table))

-- whether two columns are one
abbrev pub same_col : ColId → ColId → Bool
same_col a b = a.table == b.table && a.column == b.column

-- whether two kinds are one
abbrev pub same_kind : Kind → Kind → Bool
same_kind kind.Int kind.Int = true
same_kind kind.Text kind.Text = true
same_kind kind.Key kind.Key = true
same_kind _ _ = false
