-- The block of a completion that was looked at covers those that it passes over, and itself.
use Rattle.std.proofs.Common.{◌≡◌, ◌⊎◌, ℕ, ◌+◌, Bool, true, false, not, ◌&&◌, ◌||◌, List, [], ◌∷◌, map, eqb, refl, ap, sym, ◌∙◌, subst, inl, inr, arith, suc}
use Rattle.std.specs.Prelude.{slice_get, Some}
use Rattle.std.specs.List.{list_all}
use Rattle.std.proofs.lemmas.Bool.{cases_Bool, both_ways, and_parts, and_from, or_cases, or_left, or_right, eqb-true, eq-eqb}
use Rattle.mig_listing.specs.Listing.{IsIn}
use Rattle.mig_meaning.specs.declared.calling.Calls.{Calls}
use Rattle.mig_sketch.specs.declared.plans.Hole.{Hole}
use Rattle.mig_sketch.specs.Choices.{IsChoice}
use Rattle.mig_sketch.specs.Choices.{sizes_of}
use Rattle.mig_complete.specs.declared.blocks.Block.{Block}
use Rattle.mig_complete.specs.Covering.{is_number, has_pick, covers, is_covered}
use Rattle.mig_search.specs.declared.outcomes.Tried.{Tried}
use Rattle.mig_search.specs.declared.outcomes.Tried.TheVariants.{Refuted, Unproved, NoOption, Wide}
use Rattle.mig_search.specs.Blaming.{is_called, agrees}
use Rattle.mig_search.specs.Blocking.{is_blocked, picks_at}
use Rattle.mig_search.specs.Looking.{Looked}

-- the block of a completion
abbrev pub block_of : List Hole → Looked → Block
block_of holes l = record { picks = picks_at 0 holes (is_blocked l.entry) l.picks }

-- a choice has the picks of another at some holes exactly where they agree there
has_agreed : (n : ℕ) (hs : List Hole) (these : ℕ → Bool) (xs ys whole : List ℕ) → IsChoice (sizes_of hs) xs → IsChoice (sizes_of hs) ys → ((k : ℕ) → slice_get whole (n + k) ≡ slice_get ys k) → list_all (has_pick whole) (picks_at n hs these xs) ≡ agrees hs these xs ys
has_agreed n [] these xs ys whole ca cb at = refl
has_agreed n (h ∷ hs) these [] ys whole ca cb at = absurd ca
has_agreed n (h ∷ hs) these (a ∷ xs) [] whole ca cb at = absurd cb
has_agreed n (h ∷ hs) these (a ∷ xs) (b ∷ ys) whole ca cb at =
    let rest : list_all (has_pick whole) (picks_at (n + 1) hs these xs) ≡ agrees hs these xs ys = has_agreed (n + 1) hs these xs ys whole ca.1 cb.1 (λ k. subst (λ j. slice_get whole j ≡ slice_get ys k) (omega arith) (at (suc k))) in
    let here : slice_get whole n ≡ Some b = subst (λ j. slice_get whole j ≡ Some b) (omega arith) (at 0) in
    elim (cases_Bool (these h.function)) [
      | inl t ↦ rw t (ap (λ o. is_number o a && list_all (has_pick whole) (picks_at (n + 1) hs these xs)) here ∙ ap (λ r. eqb a b && r) rest)
      | inr f ↦ rw f rest
    ]

pub covers_agrees : (hs : List Hole) (l : Looked) (picks : List ℕ) → IsChoice (sizes_of hs) l.picks → IsChoice (sizes_of hs) picks → covers picks (block_of hs l) ≡ agrees hs (is_blocked l.entry) l.picks picks
covers_agrees hs l picks cl cp = has_agreed 0 hs (is_blocked l.entry) l.picks picks picks cl cp (λ k. ap (slice_get picks) (omega arith))

-- choices that agree at all holes are the same
agree_all : (hs : List Hole) (xs ys : List ℕ) → IsChoice (sizes_of hs) xs → IsChoice (sizes_of hs) ys → agrees hs (λ f. true) xs ys ≡ true → xs ≡ ys
agree_all [] [] [] ca cb h = refl
agree_all [] [] (b ∷ ys) ca cb h = absurd cb
agree_all [] (a ∷ xs) ys ca cb h = absurd ca
agree_all (x ∷ hs) [] ys ca cb h = absurd ca
agree_all (x ∷ hs) (a ∷ xs) [] ca cb h = absurd cb
agree_all (x ∷ hs) (a ∷ xs) (b ∷ ys) ca cb h =
    let parts = and_parts (eqb a b) (agrees hs (λ f. true) xs ys) h in
    ap (λ c. c ∷ xs) (eqb-true a b parts.0) ∙ ap (λ cs. b ∷ cs) (agree_all hs xs ys ca.1 cb.1 parts.1)

-- a choice agrees with itself
pub agrees_itself : (hs : List Hole) (these : ℕ → Bool) (xs : List ℕ) → agrees hs these xs xs ≡ true
agrees_itself [] these xs = refl
agrees_itself (h ∷ hs) these [] = refl
agrees_itself (h ∷ hs) these (a ∷ xs) = and_from (not (these h.function) || eqb a a) (agrees hs these xs xs) (or_right (not (these h.function)) (eqb a a) (eq-eqb a a refl)) (agrees_itself hs these xs)

-- who is refuted by a list on whose functions both agree
pub record IsRefutedAlike (hs : List Hole) (entry : Tried) (xs ys : List ℕ) : Type 0 where
  pub calls : Calls
  pub refuted : entry ≡ Refuted calls
  pub agree : agrees hs (is_called calls.calls) xs ys ≡ true

-- two that agree at what is blocked with the one's entry are refuted alike, or are the same
alike_or_same : (hs : List Hole) (entry : Tried) (xs ys : List ℕ) → IsChoice (sizes_of hs) xs → IsChoice (sizes_of hs) ys → agrees hs (is_blocked entry) xs ys ≡ true → IsRefutedAlike hs entry xs ys ⊎ (xs ≡ ys)
alike_or_same hs (Refuted calls) xs ys ca cb h = inl (record { calls = calls; refuted = refl; agree = h })
alike_or_same hs (Unproved q) xs ys ca cb h = inr (agree_all hs xs ys ca cb h)
alike_or_same hs (NoOption f) xs ys ca cb h = inr (agree_all hs xs ys ca cb h)
alike_or_same hs (Wide f) xs ys ca cb h = inr (agree_all hs xs ys ca cb h)

pub covered_cases : (hs : List Hole) (l : Looked) (picks : List ℕ) → IsChoice (sizes_of hs) l.picks → IsChoice (sizes_of hs) picks → covers picks (block_of hs l) ≡ true → IsRefutedAlike hs l.entry l.picks picks ⊎ (l.picks ≡ picks)
covered_cases hs l picks cl cp h = alike_or_same hs l.entry l.picks picks cl cp (sym (covers_agrees hs l picks cl cp) ∙ h)

-- those that are refuted alike are covered
alike_agrees : (hs : List Hole) (entry : Tried) (calls : Calls) (xs ys : List ℕ) → entry ≡ Refuted calls → agrees hs (is_called calls.calls) xs ys ≡ true → agrees hs (is_blocked entry) xs ys ≡ true
alike_agrees hs entry calls xs ys e h = subst (λ x. agrees hs (is_blocked x) xs ys ≡ true) (sym e) h

pub covers_alike : (hs : List Hole) (l : Looked) (picks : List ℕ) → IsChoice (sizes_of hs) l.picks → IsChoice (sizes_of hs) picks → (calls : Calls) → l.entry ≡ Refuted calls → agrees hs (is_called calls.calls) l.picks picks ≡ true → covers picks (block_of hs l) ≡ true
covers_alike hs l picks cl cp calls e h = covers_agrees hs l picks cl cp ∙ alike_agrees hs l.entry calls l.picks picks e h

-- and so is the completion itself
pub covers_itself : (hs : List Hole) (l : Looked) → IsChoice (sizes_of hs) l.picks → covers l.picks (block_of hs l) ≡ true
covers_itself hs l cl = covers_agrees hs l l.picks cl cl ∙ agrees_itself hs (is_blocked l.entry) l.picks

-- what some block covers, the block of one that was looked at does
pub covering : (hs : List Hole) (seen : List Looked) (picks : List ℕ) → is_covered (map (block_of hs) seen) picks ≡ true → (l : Looked) × IsIn l seen × (covers picks (block_of hs l) ≡ true)
covering hs [] picks h = absurd (both_ways false refl h)
covering hs (l ∷ seen) picks h = elim (or_cases (covers picks (block_of hs l)) (is_covered (map (block_of hs) seen) picks) h) [
  | inl here ↦ (l, inl refl, here)
  | inr more ↦ let t = covering hs seen picks more in (t.0, inr t.1, t.2)
]

pub covered_by : (hs : List Hole) (seen : List Looked) (picks : List ℕ) (l : Looked) → IsIn l seen → covers picks (block_of hs l) ≡ true → is_covered (map (block_of hs) seen) picks ≡ true
covered_by hs [] picks l i h = absurd i
covered_by hs (k ∷ seen) picks l i h = elim i [
  | inl e ↦ or_left (covers picks (block_of hs k)) (is_covered (map (block_of hs) seen) picks) (subst (λ x. covers picks (block_of hs x) ≡ true) e h)
  | inr more ↦ or_right (covers picks (block_of hs k)) (is_covered (map (block_of hs) seen) picks) (covered_by hs seen picks l more h)
]
