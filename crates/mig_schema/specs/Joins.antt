-- Joins: their tables and columns, the classes that their equalities make, and their shape.
use Rattle.std.specs.Prelude.{ℕ, ◌==◌, Bool, true, false, ◌&&◌, ◌||◌, cond, List, [], ◌∷◌, ◌++◌, map}
use Rattle.std.specs.List.{list_any, flat_map}
use Rattle.mig_schema.specs.declared.tables.ColId.{ColId}
use Rattle.mig_schema.specs.declared.tables.Schema.{Schema}
use Rattle.mig_schema.specs.declared.programs.Join.{Join}
use Rattle.mig_schema.specs.declared.programs.Joined.{Joined}
use Rattle.mig_schema.specs.Columns.{kind_of, columns_in, same_col, same_kind}

-- the tables of a join, in order
abbrev pub tables_of : Join → List ℕ
tables_of j = j.first ∷ map (λ m. m.table) j.more

-- the columns of its tables, in order
abbrev pub join_columns : Schema → Join → List ColId
join_columns s j = flat_map (columns_in s) (tables_of j)

-- one column of each class that these equalities make, for all columns of the class: two columns are in one class where theirs is the same
abbrev pub leader : List Joined → ColId → ColId
leader [] c = c
leader (m ∷ ms) c = cond (same_col (leader ms c) (leader ms m.right)) (leader ms m.left) (leader ms c)

-- whether the equalities of a join group two columns into one class
abbrev pub in_one_class : Join → ColId → ColId → Bool
in_one_class j a b = same_col (leader j.more a) (leader j.more b)

-- whether a table is among these
abbrev pub is_among : ℕ → List ℕ → Bool
is_among t ts = list_any (λ u. u == t) ts

-- whether a table stands twice among joined ones
abbrev pub twice_among : List Joined → Bool
twice_among [] = false
twice_among (m ∷ ms) = list_any (λ (n : Joined). n.table == m.table) ms || twice_among ms

-- whether an equality has a column of an earlier table left and one of the joined table right, of one kind
abbrev pub joins_on : Schema → (earlier : List ℕ) → Joined → Bool
joins_on s earlier m = is_among m.left.table earlier && (m.right.table == m.table && same_kind (kind_of s m.left) (kind_of s m.right))

-- the same of each further table, behind these
abbrev pub all_join_on : Schema → (earlier : List ℕ) → List Joined → Bool
all_join_on s earlier [] = true
all_join_on s earlier (m ∷ ms) = joins_on s earlier m && all_join_on s (earlier ++ m.table ∷ []) ms
