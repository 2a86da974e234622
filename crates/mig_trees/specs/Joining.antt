-- The join that the functions write for tables and links, whether or not the links connect the tables.
use Rattle.std.specs.Prelude.{ℕ, if◌then◌else◌, List, [], ◌∷◌, ◌++◌, Option, Some, None, length, slice_get, slice_index_or, zero, suc}
use Rattle.mig_schema.specs.Joins.{is_among}
use Rattle.mig_schema.specs.declared.tables.Link.{Link}
use Rattle.mig_schema.specs.declared.tables.Schema.{Schema}
use Rattle.mig_schema.specs.declared.programs.Join.{Join}
use Rattle.mig_schema.specs.declared.programs.Joined.{Joined}
use Rattle.mig_trees.specs.Trees.{Tree}

-- the table that the link joins to those taken; none where both of its ends are taken, or neither is
abbrev pub joining : List ℕ → Link → Option Joined
joining taken l = if is_among l.left.table taken
    then (if is_among l.right.table taken then None else Some (record { table = l.right.table; left = l.left; right = l.right }))
    else (if is_among l.right.table taken then Some (record { table = l.left.table; left = l.right; right = l.left }) else None)

-- the same of a link that may not be there
abbrev pub joining_at : List ℕ → Option Link → Option Joined
joining_at taken None = None
joining_at taken (Some l) = joining taken l

-- the first that is there
abbrev pub or_first : Option Joined → Option Joined → Option Joined
or_first None o = o
or_first (Some j) o = Some j

-- what the first of the links that joins a table joins
abbrev pub next_joined : Schema → List ℕ → List ℕ → Option Joined
next_joined schema taken [] = None
next_joined schema taken (n ∷ ns) = or_first (joining_at taken (slice_get schema.links n)) (next_joined schema taken ns)

-- again and again, at most so often
unfoldable pub more_joined : ℕ → Schema → List ℕ → List ℕ → List Joined
more_joined zero schema links taken = []
more_joined (suc n) schema links taken = elim (next_joined schema taken links) as (λ o. List Joined) [
  | None ↦ []
  | Some j ↦ j ∷ more_joined n schema links (taken ++ j.table ∷ [])
]

-- from the first table, as often as there are links
abbrev pub written : Schema → Tree → Join
written schema t = record { first = slice_index_or t.tables 0 0; more = more_joined (length t.links) schema t.links (slice_index_or t.tables 0 0 ∷ []) }
