-- Weights of variables by which a model weighs more just where it costs less.
use Rattle.std.specs.Prelude.{◌≡◌, ℕ, ◌≤◌, ◌+ℤ◌, ℤ, pos, neg_ℤ, Bool, if◌then◌else◌, List, [], length, slice_index_or, slice_set}
use Rattle.mig_maxsat.specs.Heaviest.{weight, magnitude}
use Rattle.mig_dimacs.specs.declared.soft.SoftLit.{SoftLit}
use Rattle.mig_dimacs.specs.Costs.{cost, total}

-- how much less it costs where the literal's variable is true
abbrev pub gain : SoftLit → ℤ
gain s = if s.lit.positive then pos s.weight else neg_ℤ (pos s.weight)

-- the variable of the literal weighs more by the gain
abbrev pub weighed : List ℤ → SoftLit → List ℤ
weighed ws s = slice_set ws s.lit.var (slice_index_or ws s.lit.var (pos 0) +ℤ gain s)

-- One weight for each variable, none too great. What an assignment weighs and costs is together always the same: what it costs that all is false.
pub record IsBalanced (vars : ℕ) (soft : List SoftLit) (ws : List ℤ) : Type 0 where
  pub sized : length ws ≡ vars
  pub small : magnitude ws ≤ total soft
  pub same : (m : List Bool) → (weight ws m +ℤ pos (cost soft m)) ≡ pos (cost soft [])
