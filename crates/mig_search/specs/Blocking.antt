-- Which picks are blocked with an entry.
use Rattle.std.specs.Prelude.{ℕ, ◌+◌, Bool, true, cond, List, [], ◌∷◌, Option, Some, None}
use Rattle.mig_schema.specs.Joins.{is_among}
use Rattle.mig_failing.specs.declared.blaming.Names.{Names}
use Rattle.mig_sketch.specs.declared.plans.Hole.{Hole}
use Rattle.mig_complete.specs.declared.blocks.Pick.{Pick}
use Rattle.mig_search.specs.declared.outcomes.Tried.{Tried}
use Rattle.mig_search.specs.declared.outcomes.Tried.TheVariants.{Refuted, Unproved, NoOption, Wide}
use Rattle.mig_search.specs.Blaming.{is_called}

-- the functions that are blocked with an entry: of a failing list those that it calls, else all
abbrev pub is_blocked : Tried → ℕ → Bool
is_blocked (Refuted calls) f = is_called calls.calls f
is_blocked (Unproved q) f = true
is_blocked (NoOption g) f = true
is_blocked (Wide g) f = true

-- these functions, or all
abbrev pub is_blocked_by : Option Names → ℕ → Bool
is_blocked_by (Some names) f = is_among f names.functions
is_blocked_by None f = true

-- the picks at the holes of these functions; the holes are numbered from n on
abbrev pub picks_at : ℕ → List Hole → (these : ℕ → Bool) → List ℕ → List Pick
picks_at n [] these ps = []
picks_at n (h ∷ hs) these [] = []
picks_at n (h ∷ hs) these (p ∷ ps) = cond (these h.function) (record { hole = n; option = p } ∷ picks_at (n + 1) hs these ps) (picks_at (n + 1) hs these ps)
