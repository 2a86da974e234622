-- The clause of a block is met exactly where the block does not cover the choice.
use Rattle.std.proofs.Common.{◌≡◌, ℕ, ◌+◌, ◌<◌, ◌<◌, Bool, true, false, List, [], ◌∷◌, map, eqb, refl, sym, ◌∙◌, subst, inl, inr, arith, suc, zero}
use Rattle.std.specs.Prelude.{slice_get, slice_index_or}
use Rattle.std.specs.List.{All, list_all}
use Rattle.std.proofs.lemmas.Bool.{both_ways, and_left, and_right, and_cases, or_parts, or_from}
use Rattle.std.proofs.lemmas.List.Elements.{All-head, All-tail}
use Rattle.mig_sat.specs.Models.{value_of}
use Rattle.mig_complete.specs.declared.blocks.Pick.{Pick}
use Rattle.mig_complete.specs.declared.blocks.Block.{Block}
use Rattle.mig_complete.specs.Covering.{IsInSizes, is_number, has_pick, covers, is_covered}
use Rattle.mig_complete.specs.Coding.{offset, unpicked, block_clause, Codes}
use Rattle.mig_complete.proofs.Meeting.{MeetsAny, MeetsAll}

-- the variable of an option is true exactly where the option is picked
pub option_value : (m : List Bool) (first : ℕ) (ns ps : List ℕ) (h o : ℕ) → Codes m first ns ps → o < slice_index_or ns h 0 → value_of m (first + (offset ns h + o)) ≡ is_number (slice_get ps h) o
option_value m first [] ps h o c lt = absurd (omega (arith, lt))
option_value m first (n ∷ ns) [] h o c lt = absurd c
option_value m first (n ∷ ns) (p ∷ ps) zero o c lt = subst (λ v. value_of m v ≡ eqb o p) (omega arith) (c.0.each o lt)
option_value m first (n ∷ ns) (p ∷ ps) (suc h) o c lt = subst (λ v. value_of m v ≡ is_number (slice_get ps h) o) (omega arith) (option_value m (first + n) ns ps h o c.1 lt)

-- the same of a pick, in an assignment that stands for a choice of all holes
pub pick_value : (m : List Bool) (sizes picks : List ℕ) (p : Pick) → Codes m 0 sizes picks → IsInSizes sizes p → value_of m (offset sizes p.hole + p.option) ≡ has_pick picks p
pick_value m sizes picks p c lt = subst (λ v. value_of m v ≡ has_pick picks p) (omega arith) (option_value m 0 sizes picks p.hole p.option c lt)

-- where some pick's variable is false, the choice has not all picks
pub unmet : (m : List Bool) (sizes picks : List ℕ) (ps : List Pick) → Codes m 0 sizes picks → All (IsInSizes sizes) ps → MeetsAny m (map (unpicked sizes) ps) → list_all (has_pick picks) ps ≡ false
unmet m sizes picks [] c small h = absurd h
unmet m sizes picks (p ∷ ps) c small h = elim h [
  | inl here ↦ and_left (has_pick picks p) (list_all (has_pick picks) ps) (sym (pick_value m sizes picks p c (All-head (IsInSizes sizes) p ps small)) ∙ here)
  | inr more ↦ and_right (has_pick picks p) (list_all (has_pick picks) ps) (unmet m sizes picks ps c (All-tail (IsInSizes sizes) p ps small) more)
]

-- and the other way round
pub met : (m : List Bool) (sizes picks : List ℕ) (ps : List Pick) → Codes m 0 sizes picks → All (IsInSizes sizes) ps → list_all (has_pick picks) ps ≡ false → MeetsAny m (map (unpicked sizes) ps)
met m sizes picks [] c small h = absurd (both_ways true h refl)
met m sizes picks (p ∷ ps) c small h = elim (and_cases (has_pick picks p) (list_all (has_pick picks) ps) h) [
  | inl here ↦ inl (pick_value m sizes picks p c (All-head (IsInSizes sizes) p ps small) ∙ here)
  | inr more ↦ inr (met m sizes picks ps c (All-tail (IsInSizes sizes) p ps small) more)
]

abbrev pub AreInSizes : List ℕ → List Block → Type 0
AreInSizes sizes blocks = All (λ (b : Block). All (IsInSizes sizes) b.picks) blocks

-- so it is with all blocks
pub uncovered : (m : List Bool) (sizes picks : List ℕ) (bs : List Block) → Codes m 0 sizes picks → AreInSizes sizes bs → MeetsAll m (map (block_clause sizes) bs) → is_covered bs picks ≡ false
uncovered m sizes picks [] c small h = refl
uncovered m sizes picks (b ∷ bs) c small h = or_from (covers picks b) (is_covered bs picks) (unmet m sizes picks b.picks c (All-head (λ (b : Block). All (IsInSizes sizes) b.picks) b bs small) h.0) (uncovered m sizes picks bs c (All-tail (λ (b : Block). All (IsInSizes sizes) b.picks) b bs small) h.1)

pub meets_blocks : (m : List Bool) (sizes picks : List ℕ) (bs : List Block) → Codes m 0 sizes picks → AreInSizes sizes bs → is_covered bs picks ≡ false → MeetsAll m (map (block_clause sizes) bs)
meets_blocks m sizes picks [] c small h = tt
meets_blocks m sizes picks (b ∷ bs) c small h =
    let parts = or_parts (covers picks b) (is_covered bs picks) h in
    (met m sizes picks b.picks c (All-head (λ (b : Block). All (IsInSizes sizes) b.picks) b bs small) parts.0, meets_blocks m sizes picks bs c (All-tail (λ (b : Block). All (IsInSizes sizes) b.picks) b bs small) parts.1)
