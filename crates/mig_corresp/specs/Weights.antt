-- What pairs of columns weigh, and correspondences.
use Rattle.std.specs.Prelude.{ℕ, ◌+ℤ◌, ℤ, pos, negsuc, Bool, true, false, ◌&&◌, List, [], ◌∷◌, Option}
use Rattle.std.specs.List.{find}
use Rattle.std.specs.Option.{option_map_or}
use Rattle.std.specs.Str.{bytes_eq}
use Rattle.mig_schema.specs.declared.jobs.Job.{Job}
use Rattle.mig_schema.specs.declared.jobs.Hint.{Hint}
use Rattle.mig_schema.specs.Columns.{same_col, column_at, table_at}
use Rattle.mig_invariant.specs.declared.corresp.ColPair.{ColPair}

-- 12 where the names of table and column are the same, 8 where that of the column alone is, 3 where that of the table alone is, else 0
abbrev pub name_weight : (tables columns : Bool) → ℤ
name_weight true true = pos 12
name_weight false true = pos 8
name_weight true false = pos 3
name_weight false false = pos 0

-- whether the names of the tables are the same, and whether those of the columns are
abbrev pub same_tables : Job → ColPair → Bool
same_tables job p = bytes_eq (table_at job.source p.source.table).name (table_at job.target p.target.table).name

abbrev pub same_columns : Job → ColPair → Bool
same_columns job p = bytes_eq (column_at job.source p.source).name (column_at job.target p.target).name

-- whether a hint is of the pair
abbrev pub is_of : ColPair → Hint → Bool
is_of p h = same_col h.source p.source && same_col h.target p.target

-- the hint of a pair, if it has one
abbrev pub hint_of : List Hint → ColPair → Option Hint
hint_of hints p = find (is_of p) hints

-- its weight, 0 where there is none
abbrev pub hint_weight : List Hint → ColPair → ℕ
hint_weight hints p = option_map_or (λ (h : Hint). h.weight) (hint_of hints p) 0

-- by its names and its hint, less 9
abbrev pub pair_weight : Job → ColPair → ℤ
pair_weight job p = (name_weight (same_tables job p) (same_columns job p) +ℤ pos (hint_weight job.hints p)) +ℤ negsuc 8

-- the sum over these pairs
abbrev pub weight_of : Job → List ColPair → ℤ
weight_of job [] = pos 0
weight_of job (p ∷ ps) = pair_weight job p +ℤ weight_of job ps
