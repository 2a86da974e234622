-- Choices of one option for each hole, by the numbers of the options.
use Rattle.std.specs.Prelude.{ℕ, ◌<◌, ◌+◌, List, [], ◌∷◌, map, length}
use Rattle.mig_sketch.specs.declared.plans.Hole.{Hole}

-- how many options each hole has
abbrev pub sizes_of : List Hole → List ℕ
sizes_of holes = map (λ (h : Hole). length h.options) holes

-- how many there are over all holes
abbrev pub total : (sizes : List ℕ) → ℕ
total [] = 0
total (n ∷ ns) = n + total ns

-- for each hole a number below its number of options
abbrev pub IsChoice : (sizes picks : List ℕ) → Type 0
IsChoice [] [] = Unit {0}
IsChoice [] (p ∷ ps) = ⊥
IsChoice (n ∷ ns) [] = ⊥
IsChoice (n ∷ ns) (p ∷ ps) = (p < n) × IsChoice ns ps
