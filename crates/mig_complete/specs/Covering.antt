-- Which choices blocks cover, and the first one that none does.
use Rattle.std.specs.Prelude.{◌≡◌, ℕ, ◌<◌, ◌==◌, Bool, false, List, Option, Some, None, slice_get, slice_index_or}
use Rattle.std.specs.List.{list_any, list_all}
use Rattle.mig_listing.specs.Orders.{Less, Lex}
use Rattle.mig_sketch.specs.Choices.{IsChoice}
use Rattle.mig_complete.specs.declared.blocks.Pick.{Pick}
use Rattle.mig_complete.specs.declared.blocks.Block.{Block}

-- what a chooser is for those who ask it: how many options each hole has, and the blocks put so far
pub record Choices : Type 0 where
  pub sizes : List ℕ
  pub blocks : List Block

-- the hole has an option of this number
abbrev pub IsInSizes : List ℕ → Pick → Type 0
IsInSizes sizes p = p.option < slice_index_or sizes p.hole 0

-- whether it is this number
abbrev pub is_number : Option ℕ → ℕ → Bool
is_number None n = false
is_number (Some m) n = n == m

-- whether the choice has the pick
abbrev pub has_pick : List ℕ → Pick → Bool
has_pick picks p = is_number (slice_get picks p.hole) p.option

-- whether it has all picks of the block
abbrev pub covers : List ℕ → Block → Bool
covers picks b = list_all (has_pick picks) b.picks

-- whether some block covers it
abbrev pub is_covered : List Block → List ℕ → Bool
is_covered blocks picks = list_any (covers picks) blocks

-- a choice that no block covers, and none comes before it
pub record IsFirstChoice (sizes : List ℕ) (blocks : List Block) (picks : List ℕ) : Type 0 where
  pub choice : IsChoice sizes picks
  pub uncovered : is_covered blocks picks ≡ false
  pub first : (other : List ℕ) → IsChoice sizes other → is_covered blocks other ≡ false → Lex Less other picks → ⊥

-- each choice is covered
abbrev pub HasNoChoice : List ℕ → List Block → Type 0
HasNoChoice sizes blocks = (picks : List ℕ) → IsChoice sizes picks → is_covered blocks picks ≡ false → ⊥
