-- Which functions a list of calls blames, and whether two completions pick the same of those.
use Rattle.std.specs.Prelude.{ℕ, ◌==◌, Bool, true, ◌&&◌, ◌||◌, not, List, [], ◌∷◌}
use Rattle.std.specs.List.{list_any}
use Rattle.mig_meaning.specs.declared.calling.Invocation.{Invocation}
use Rattle.mig_sketch.specs.declared.plans.Hole.{Hole}

-- whether one of the calls is of function f
abbrev pub is_called : List Invocation → ℕ → Bool
is_called calls f = list_any (λ (c : Invocation). c.function == f) calls

-- whether both completions pick the same at all holes of these functions
abbrev pub agrees : List Hole → (these : ℕ → Bool) → (picks picks' : List ℕ) → Bool
agrees [] these ps qs = true
agrees (h ∷ hs) these [] qs = true
agrees (h ∷ hs) these (p ∷ ps) [] = true
agrees (h ∷ hs) these (p ∷ ps) (q ∷ qs) = (not (these h.function) || (p == q)) && agrees hs these ps qs
