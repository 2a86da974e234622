-- Choices as clauses. Option k of a hole is variable offset + k. Behind all options stands a helper for each:
-- it is true where its option or an earlier one of the hole is picked.
use Rattle.std.specs.Prelude.{◌≡◌, ℕ, ◌+◌, ◌-◌, ◌<◌, ◌==◌, Bool, true, false, List, [], ◌∷◌, ◌++◌, map, take}
use Rattle.std.specs.List.{range_with_len, flat_map}
use Rattle.mig_sat.specs.declared.clauses.SatLit.{SatLit}
use Rattle.mig_sat.specs.Models.{value_of}
use Rattle.mig_sketch.specs.Choices.{total}
use Rattle.mig_complete.specs.declared.blocks.Pick.{Pick}
use Rattle.mig_complete.specs.declared.blocks.Block.{Block}

abbrev pub positive : ℕ → SatLit
positive v = record { var = v; positive = true }

abbrev pub negative : ℕ → SatLit
negative v = record { var = v; positive = false }

-- one of n variables is true
abbrev pub one_of : ℕ → ℕ → List SatLit
one_of first n = map (λ v. positive v) (range_with_len first n)

-- the variable reaches its helper, which reaches the next one's helper and forbids the next variable
abbrev pub link : ℕ → ℕ → List (List SatLit)
link helpers v = (negative v ∷ positive (helpers + v) ∷ []) ∷ (negative (helpers + v) ∷ positive (helpers + v + 1) ∷ []) ∷ (negative (helpers + v) ∷ negative (v + 1) ∷ []) ∷ []

-- links from one variable to the next
abbrev pub links : ℕ → ℕ → ℕ → List (List SatLit)
links helpers first n = flat_map (link helpers) (range_with_len first n)

-- exactly one of n variables is true
abbrev pub hole : ℕ → ℕ → ℕ → List (List SatLit)
hole helpers first n = one_of first n ∷ links helpers first (n - 1)

-- of each hole exactly one option is picked
abbrev pub holes : ℕ → ℕ → List ℕ → List (List SatLit)
holes helpers first [] = []
holes helpers first (n ∷ ns) = hole helpers first n ++ holes helpers (first + n) ns

-- the first variable of a hole
abbrev pub offset : List ℕ → ℕ → ℕ
offset sizes h = total (take h sizes)

-- the option is not picked
abbrev pub unpicked : List ℕ → Pick → SatLit
unpicked sizes p = negative (offset sizes p.hole + p.option)

-- some pick of the block is not picked
abbrev pub block_clause : List ℕ → Block → List SatLit
block_clause sizes b = map (unpicked sizes) b.picks

-- all clauses
abbrev pub clauses_of : List ℕ → List Block → List (List SatLit)
clauses_of sizes blocks = holes (total sizes) 0 sizes ++ map (block_clause sizes) blocks

-- of n variables the p-th is true, and no other
pub record IsPicked (m : List Bool) (first n p : ℕ) : Type 0 where
  pub within : p < n
  pub each : (k : ℕ) → k < n → value_of m (first + k) ≡ (k == p)

-- the values of the options stand for the choice
abbrev pub Codes : List Bool → ℕ → (sizes picks : List ℕ) → Type 0
Codes m first [] [] = Unit {0}
Codes m first [] (p ∷ ps) = ⊥
Codes m first (n ∷ ns) [] = ⊥
Codes m first (n ∷ ns) (p ∷ ps) = IsPicked m first n p × Codes m (first + n) ns ps
