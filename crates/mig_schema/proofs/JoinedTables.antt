-- The tables of joined ones.
use Rattle.std.proofs.Common.{◌≡◌, ℕ, ◌||◌, List, [], ◌∷◌, map, refl, ap, ◌∙◌}
use Rattle.std.specs.Prelude.{◌==◌}
use Rattle.std.specs.List.{list_any}
use Rattle.mig_schema.specs.declared.programs.Joined.{Joined}
use Rattle.mig_schema.specs.Joins.{is_among, twice_among}
use Rattle.mig_schema.specs.Typed.{stands_twice}
use Rattle.mig_schema.proofs.Anys.{any-map}

-- a table is among them where one of them has it
pub joined_listed : (t : ℕ) (ms : List Joined) → is_among t (map (λ (m : Joined). m.table) ms) ≡ list_any (λ (m : Joined). m.table == t) ms
joined_listed t ms = any-map (λ u. u == t) (λ (m : Joined). m.table) ms

-- a table stands twice where one is among those behind it
twice_joined : (ms : List Joined) → stands_twice (map (λ (m : Joined). m.table) ms) ≡ twice_among ms
twice_joined [] = refl
twice_joined (m ∷ ms) =
    ap (λ b. b || stands_twice (map (λ (m : Joined). m.table) ms)) (joined_listed m.table ms)
    ∙ ap (λ b. list_any (λ (n : Joined). n.table == m.table) ms || b) (twice_joined ms)

-- the same with a first table before them
pub stands_joined : (t : ℕ) (ms : List Joined) → stands_twice (t ∷ map (λ (m : Joined). m.table) ms) ≡ (list_any (λ (m : Joined). m.table == t) ms || twice_among ms)
stands_joined t ms =
    ap (λ b. b || stands_twice (map (λ (m : Joined). m.table) ms)) (joined_listed t ms)
    ∙ ap (λ b. list_any (λ (m : Joined). m.table == t) ms || b) (twice_joined ms)
