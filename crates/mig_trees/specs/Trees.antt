-- Link trees: what one is, which columns it holds, and which of two comes first.
use Rattle.std.specs.Prelude.{◌≡◌, ℕ, ◌<◌, ◌≤◌, ◌+◌, Bool, List, Some, length, slice_get}
use Rattle.mig_listing.specs.Listing.{IsIn, Rises}
use Rattle.mig_listing.specs.Orders.{Less, Lex, FirstBy}
use Rattle.mig_schema.specs.declared.tables.ColId.{ColId}
use Rattle.mig_schema.specs.declared.tables.Link.{Link}
use Rattle.mig_schema.specs.declared.tables.Schema.{Schema}

-- a set of tables and a set of links, as lists of their numbers by size
pub record Tree : Type 0 where
  pub tables : List ℕ
  pub links : List ℕ

-- the schema has a link of number n, and both of its ends are in the tables
abbrev pub IsWithin : Schema → (tables : List ℕ) → (n : ℕ) → Type 0
IsWithin schema tables n = (l : Link) × (slice_get schema.links n ≡ Some l) × IsIn l.left.table tables × IsIn l.right.table tables

-- none of the links leads out of the part
abbrev pub IsClosed : Schema → (links : List ℕ) → (part : ℕ → Bool) → Type 0
IsClosed schema links part = (n : ℕ) (l : Link) → IsIn n links → slice_get schema.links n ≡ Some l → part l.left.table ≡ part l.right.table

-- the links connect the tables: a part that none of them leads out of has all of the tables or none
abbrev pub Connects : Schema → (tables links : List ℕ) → Type 0
Connects schema tables links = (part : ℕ → Bool) → IsClosed schema links part → (a b : ℕ) → IsIn a tables → IsIn b tables → part a ≡ part b

-- one to four tables, and as many links less one, which connect them
pub record IsLinkTree (schema : Schema) (t : Tree) : Type 0 where
  pub rising : Rises Less t.tables
  pub known : (n : ℕ) → IsIn n t.tables → n < length schema.tables
  pub rising_links : Rises Less t.links
  pub within : (n : ℕ) → IsIn n t.links → IsWithin schema t.tables n
  pub few : length t.tables ≤ 4
  -- so there is a table
  pub one_less : length t.links + 1 ≡ length t.tables
  pub connects : Connects schema t.tables t.links

-- the tables hold a column of each set
abbrev pub Serves : (need : List (List ColId)) → (tables : List ℕ) → Type 0
Serves need tables = (set : List ColId) → IsIn set need → (c : ColId) × IsIn c set × IsIn c.table tables

-- fewer tables first, then by the rising numbers of the tables, then by those of the links
abbrev pub TreeBefore : Tree → Tree → Type 0
TreeBefore = FirstBy (λ (t : Tree). length t.tables) Less (FirstBy (λ (t : Tree). t.tables) (Lex Less) (λ s t. Lex Less s.links t.links))
