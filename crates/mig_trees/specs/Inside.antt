-- What the functions find out of a set of tables: its links, and whether it serves a need.
use Rattle.std.specs.Prelude.{ℕ, Bool, false, ◌&&◌, List, Option, Some, None, length, slice_get, filter}
use Rattle.std.specs.List.{list_any, list_all}
use Rattle.mig_listing.specs.Choices.{numbers}
use Rattle.mig_schema.specs.Joins.{is_among}
use Rattle.mig_schema.specs.declared.tables.ColId.{ColId}
use Rattle.mig_schema.specs.declared.tables.Link.{Link}
use Rattle.mig_schema.specs.declared.tables.Schema.{Schema}

-- whether there is such a link and both of its ends are in the tables
abbrev pub has_ends_in : List ℕ → Option Link → Bool
has_ends_in tables None = false
has_ends_in tables (Some l) = is_among l.left.table tables && is_among l.right.table tables

-- the same of link n
abbrev pub is_inside : Schema → List ℕ → ℕ → Bool
is_inside schema tables n = has_ends_in tables (slice_get schema.links n)

-- the links with both ends in the tables
abbrev pub inside : Schema → List ℕ → List ℕ
inside schema tables = filter (is_inside schema tables) (numbers (length schema.links))

-- whether the tables hold a column of the set
abbrev pub has_one : List ℕ → List ColId → Bool
has_one tables set = list_any (λ (c : ColId). is_among c.table tables) set

-- whether they hold one of each set
abbrev pub serves : List (List ColId) → List ℕ → Bool
serves need tables = list_all (has_one tables) need
