-- The lists that the functions build. That they are all link trees in order is proved, by what each part holds.
use Rattle.std.specs.Prelude.{ℕ, ◌+◌, ◌==◌, Bool, ◌||◌, List, length, map, filter}
use Rattle.std.specs.List.{list_any, list_all, flat_map}
use Rattle.mig_listing.specs.Choices.{numbers, choices}
use Rattle.mig_schema.specs.declared.tables.ColId.{ColId}
use Rattle.mig_schema.specs.declared.tables.Schema.{Schema}
use Rattle.mig_schema.specs.declared.programs.Join.{Join}
use Rattle.mig_schema.specs.declared.programs.Joined.{Joined}
use Rattle.mig_trees.specs.Trees.{Tree}
use Rattle.mig_trees.specs.Joining.{written}
use Rattle.mig_trees.specs.Inside.{inside, serves}

-- whether table n is joined
abbrev pub is_taken : ℕ → List Joined → Bool
is_taken n more = list_any (λ (j : Joined). j.table == n) more

-- whether the join has table n
abbrev pub has_joined : ℕ → Join → Bool
has_joined n join = (join.first == n) || is_taken n join.more

-- whether it has all of the tables
abbrev pub covers : List ℕ → Join → Bool
covers tables join = list_all (λ n. has_joined n join) tables

-- tables and links as a tree
abbrev pub tree_of : List ℕ → List ℕ → Tree
tree_of tables links = record { tables = tables; links = links }

-- whether the links connect the tables, which the join tells
abbrev pub is_tree : Schema → List ℕ → List ℕ → Bool
is_tree schema tables links = covers tables (written schema (tree_of tables links))

-- the trees of so many links over these tables
abbrev pub trees_over : Schema → ℕ → List ℕ → List Tree
trees_over schema count tables = map (tree_of tables) (filter (is_tree schema tables) (choices count (inside schema tables)))

-- the trees of so many links
abbrev pub trees_of : Schema → List (List ColId) → ℕ → List Tree
trees_of schema need count = flat_map (trees_over schema count) (filter (serves need) (choices (count + 1) (numbers (length schema.tables))))

-- the trees of fewer links than so many
abbrev pub trees_below : Schema → List (List ColId) → ℕ → List Tree
trees_below schema need n = flat_map (trees_of schema need) (numbers n)
