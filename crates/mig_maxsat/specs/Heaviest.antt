-- What a model weighs, and which model is the heaviest.
use Rattle.std.specs.Prelude.{◌≡◌, ℕ, ◌<◌, ◌+◌, ◌^◌, ◌≤ℤ◌, ◌+ℤ◌, ℤ, pos, Bool, if◌then◌else◌, List, [], ◌∷◌, length}
use Rattle.std.specs.Int.RustNames.{unsigned_abs}
use Rattle.mig_sat.specs.Models.{IsModel, IsBefore, IsInRange}
use Rattle.mig_maxsat.specs.declared.weighted.Weighted.{Weighted}

-- what the true variables weigh
abbrev pub weight : List ℤ → List Bool → ℤ
weight [] m = pos 0
weight (w ∷ ws) [] = pos 0
weight (w ∷ ws) (b ∷ m) = (if b then w else pos 0) +ℤ weight ws m

-- the sum of the absolute values
abbrev pub magnitude : List ℤ → ℕ
magnitude [] = 0
magnitude (w ∷ ws) = unsigned_abs w + magnitude ws

-- literals are in range, each variable has a weight, and the absolute values sum below 2^62
pub record IsSound (p : Weighted) : Type 0 where
  pub range : IsInRange p.hard
  pub sized : length p.weights ≡ p.hard.vars
  pub fits : magnitude p.weights < 2 ^ 62

-- a model, no model weighs more, and none that weighs as much comes before it
pub record IsHeaviest (p : Weighted) (m : List Bool) : Type 0 where
  pub model : IsModel p.hard m
  pub heaviest : (o : List Bool) → IsModel p.hard o → weight p.weights o ≤ℤ weight p.weights m
  pub first : (o : List Bool) → IsModel p.hard o → weight p.weights o ≡ weight p.weights m → IsBefore o m → ⊥
