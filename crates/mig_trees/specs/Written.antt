-- How a link tree is written as a join.
use Rattle.std.specs.Prelude.{◌≡◌, ◌⊎◌, ℕ, ◌<◌, List, [], ◌∷◌, ◌++◌, Some, slice_get}
use Rattle.mig_listing.specs.Listing.{IsIn}
use Rattle.mig_schema.specs.declared.tables.Link.{Link}
use Rattle.mig_schema.specs.declared.tables.Schema.{Schema}
use Rattle.mig_schema.specs.declared.programs.Join.{Join}
use Rattle.mig_schema.specs.declared.programs.Joined.{Joined}
use Rattle.mig_trees.specs.Trees.{Tree}

-- the link leads from a table taken to one that is not, which it joins, the taken table's column left
abbrev pub Joins : Link → (taken : List ℕ) → Joined → Type 0
Joins l taken j =
    (IsIn l.left.table taken × (IsIn l.right.table taken → ⊥) × (j ≡ record { table = l.right.table; left = l.left; right = l.right }))
    ⊎ (IsIn l.right.table taken × (IsIn l.left.table taken → ⊥) × (j ≡ record { table = l.left.table; left = l.right; right = l.left }))

-- link n of the schema is one of these, and it joins j
abbrev pub JoinsBy : Schema → (links taken : List ℕ) → Joined → (n : ℕ) → Type 0
JoinsBy schema links taken j n = IsIn n links × (l : Link) × (slice_get schema.links n ≡ Some l) × Joins l taken j

-- the least link that joins a table joins j
abbrev pub IsNextJoined : Schema → (links taken : List ℕ) → Joined → Type 0
IsNextJoined schema links taken j = (n : ℕ) × JoinsBy schema links taken j n × ((m : ℕ) (k : Joined) → JoinsBy schema links taken k m → m < n → ⊥)

-- the least link that joins a table, again and again until none does
abbrev pub AreJoined : Schema → (links taken : List ℕ) → List Joined → Type 0
AreJoined schema links taken [] = (n : ℕ) (j : Joined) → JoinsBy schema links taken j n → ⊥
AreJoined schema links taken (j ∷ more) = IsNextJoined schema links taken j × AreJoined schema links (taken ++ j.table ∷ []) more

-- the join begins with the tree's least table, and takes its links so
pub record IsWritten (schema : Schema) (t : Tree) (join : Join) : Type 0 where
  pub least : (rest : List ℕ) × (t.tables ≡ join.first ∷ rest)
  pub joined : AreJoined schema t.links (join.first ∷ []) join.more
