-- Each choice has an assignment that meets the clauses of its holes.
use Rattle.std.proofs.Common.{◌≡◌, ◌⊎◌, ℕ, ◌+◌, ◌-◌, ◌<◌, ◌≤◌, Bool, true, false, cond, List, [], ◌∷◌, map, length, eqb, ltb, leb, refl, ap, ◌∙◌, subst, inl, inr, arith, suc, zero}
use Rattle.std.specs.List.{range_with_len}
use Rattle.std.proofs.lemmas.Bool.{cases_eq, cases_lt, eq-eqb, ne_eqb, le-leb, lt-leb, lt-ltb, le-ltb, cond-true, cond-false}
use Rattle.std.proofs.lemmas.List.FromFn.{get_or-map-range_with_len, length-map-range_with_len}
use Rattle.mig_sat.specs.Models.{value_of}
use Rattle.mig_sketch.specs.Choices.{IsChoice}
use Rattle.mig_sketch.specs.Choices.{total}
use Rattle.mig_complete.specs.Coding.{one_of, links, hole, holes, IsPicked, Codes}
use Rattle.mig_complete.proofs.Meeting.{MeetsAny, MeetsAll, meets_append}

-- the values of the options and of the helpers show the pick of a hole
pub record IsShown (m : List Bool) (helpers first n p : ℕ) : Type 0 where
  pub picked : IsPicked m first n p
  pub reached : (k : ℕ) → k < n → value_of m (helpers + (first + k)) ≡ leb p k

-- and those of each hole
abbrev pub Shows : List Bool → ℕ → ℕ → (sizes picks : List ℕ) → Type 0
Shows m helpers first [] [] = Unit {0}
Shows m helpers first [] (p ∷ ps) = ⊥
Shows m helpers first (n ∷ ns) [] = ⊥
Shows m helpers first (n ∷ ns) (p ∷ ps) = IsShown m helpers first n p × Shows m helpers (first + n) ns ps

pub shown_codes : (m : List Bool) (helpers first : ℕ) (ns ps : List ℕ) → Shows m helpers first ns ps → Codes m first ns ps
shown_codes m helpers first [] [] h = tt
shown_codes m helpers first [] (p ∷ ps) h = h
shown_codes m helpers first (n ∷ ns) [] h = h
shown_codes m helpers first (n ∷ ns) (p ∷ ps) h = (h.0.picked, shown_codes m helpers (first + n) ns ps h.1)

-- a true variable is one of them
pub meets_one : (m : List Bool) (first n k : ℕ) → k < n → value_of m (first + k) ≡ true → MeetsAny m (one_of first n)
meets_one m first zero k lt h = absurd (omega (arith, lt))
meets_one m first (suc n) zero lt h = inl (subst (λ v. value_of m v ≡ true) (omega arith) h)
meets_one m first (suc n) (suc k) lt h = inr (meets_one m (first + 1) n k (omega (arith, lt)) (subst (λ v. value_of m v ≡ true) (omega arith) h))

module _ (m : List Bool) (helpers first n p : ℕ) (s : IsShown m helpers first n p) where
  -- the three clauses of a link
  pub meets_reach : (k : ℕ) → k < n → (value_of m (first + k) ≡ false) ⊎ ((value_of m (helpers + (first + k)) ≡ true) ⊎ ⊥)
  meets_reach k lt = elim (cases_eq k p) [
    | inl e ↦ inr (inl (s.reached k lt ∙ le-leb p k (omega (arith, e))))
    | inr ne ↦ inl (s.picked.each k lt ∙ ne_eqb k p ne)
  ]

  pub meets_on : (k : ℕ) → k + 1 < n → (value_of m (helpers + (first + k)) ≡ false) ⊎ ((value_of m (helpers + (first + k) + 1) ≡ true) ⊎ ⊥)
  meets_on k lt = elim (cases_lt k p) [
    | inl below ↦ inl (s.reached k (omega (arith, lt)) ∙ lt-leb p k below)
    | inr from ↦ inr (inl (subst (λ v. value_of m v ≡ true) (omega arith) (s.reached (k + 1) lt ∙ le-leb p (k + 1) (omega (arith, from)))))
  ]

  pub meets_once : (k : ℕ) → k + 1 < n → (value_of m (helpers + (first + k)) ≡ false) ⊎ ((value_of m (first + k + 1) ≡ false) ⊎ ⊥)
  meets_once k lt = elim (cases_lt k p) [
    | inl below ↦ inl (s.reached k (omega (arith, lt)) ∙ lt-leb p k below)
    | inr from ↦ inr (inl (subst (λ v. value_of m v ≡ false) (omega arith) (s.picked.each (k + 1) lt ∙ ne_eqb (k + 1) p (λ e. omega (arith, e, from)))))
  ]

  -- all links from a place on
  pub meets_links : (j k : ℕ) → k + j + 1 ≤ n → MeetsAll m (links helpers (first + k) j)
  meets_links zero k le = tt
  meets_links (suc j) k le = (
    meets_reach k (omega (arith, le)),
    (
      meets_on k (omega (arith, le)),
      (
        meets_once k (omega (arith, le)),
        subst (λ v. MeetsAll m (links helpers v j)) (omega arith) (meets_links j (k + 1) (omega (arith, le))),
      ),
    ),
  )

  pub meets_hole : MeetsAll m (hole helpers first n)
  meets_hole = (
    meets_one m first n p s.picked.within (s.picked.each p s.picked.within ∙ eq-eqb p p refl),
    subst (λ v. MeetsAll m (links helpers v (n - 1))) (omega arith) (meets_links (n - 1) 0 (omega (arith, s.picked.within))),
  )

pub meets_holes : (m : List Bool) (helpers first : ℕ) (ns ps : List ℕ) → Shows m helpers first ns ps → MeetsAll m (holes helpers first ns)
meets_holes m helpers first [] [] h = tt
meets_holes m helpers first [] (p ∷ ps) h = absurd h
meets_holes m helpers first (n ∷ ns) [] h = absurd h
meets_holes m helpers first (n ∷ ns) (p ∷ ps) h = meets_append m (hole helpers first n) (holes helpers (first + n) ns) (meets_hole m helpers first n p h.0) (meets_holes m helpers (first + n) ns ps h.1)

-- the value of an option's variable, and of its helper
abbrev pub bit_of : (ns ps : List ℕ) → ℕ → Bool
bit_of [] ps v = false
bit_of (n ∷ ns) [] v = false
bit_of (n ∷ ns) (p ∷ ps) v = cond (ltb v n) (eqb v p) (bit_of ns ps (v - n))

abbrev pub reach_of : (ns ps : List ℕ) → ℕ → Bool
reach_of [] ps v = false
reach_of (n ∷ ns) [] v = false
reach_of (n ∷ ns) (p ∷ ps) v = cond (ltb v n) (leb p v) (reach_of ns ps (v - n))

past_head : (n v : ℕ) → n + v - n ≡ v
past_head n v = omega arith

-- an assignment with these values shows the choice
pub shows_values : (m : List Bool) (helpers first : ℕ) (ns ps : List ℕ) → IsChoice ns ps
    → ((v : ℕ) → v < total ns → value_of m (first + v) ≡ bit_of ns ps v)
    → ((v : ℕ) → v < total ns → value_of m (helpers + (first + v)) ≡ reach_of ns ps v)
    → Shows m helpers first ns ps
shows_values m helpers first [] [] c bits reach = tt
shows_values m helpers first [] (p ∷ ps) c bits reach = absurd c
shows_values m helpers first (n ∷ ns) [] c bits reach = absurd c
shows_values m helpers first (n ∷ ns) (p ∷ ps) c bits reach = (
  record {
    picked = record { within = c.0; each = λ k lt. bits k (omega (arith, lt)) ∙ cond-true (ltb k n) (eqb k p) (bit_of ns ps (k - n)) (lt-ltb k n lt) };
    reached = λ k lt. reach k (omega (arith, lt)) ∙ cond-true (ltb k n) (leb p k) (reach_of ns ps (k - n)) (lt-ltb k n lt);
  },
  shows_values m helpers (first + n) ns ps c.1
      (λ v lt. subst (λ w. value_of m w ≡ bit_of ns ps v) (omega arith) (bits (n + v) (omega (arith, lt)) ∙ cond-false (ltb (n + v) n) (eqb (n + v) p) (bit_of ns ps (n + v - n)) (le-ltb (n + v) n (omega arith)) ∙ ap (bit_of ns ps) (past_head n v)))
      (λ v lt. subst (λ w. value_of m w ≡ reach_of ns ps v) (omega arith) (reach (n + v) (omega (arith, lt)) ∙ cond-false (ltb (n + v) n) (leb p (n + v)) (reach_of ns ps (n + v - n)) (le-ltb (n + v) n (omega arith)) ∙ ap (reach_of ns ps) (past_head n v))),
)

-- the assignment of a choice: its options, and then its helpers
abbrev pub value_in : ℕ → (ns ps : List ℕ) → ℕ → Bool
value_in t ns ps v = cond (ltb v t) (bit_of ns ps v) (reach_of ns ps (v - t))

abbrev pub assignment : (ns ps : List ℕ) → List Bool
assignment ns ps = map (value_in (total ns) ns ps) (range_with_len 0 (total ns + total ns))

pub length-assignment : (ns ps : List ℕ) → length (assignment ns ps) ≡ total ns + total ns
length-assignment ns ps = length-map-range_with_len (value_in (total ns) ns ps) 0 (total ns + total ns)

value-assignment : (ns ps : List ℕ) (v : ℕ) → v < total ns + total ns → value_of (assignment ns ps) v ≡ value_in (total ns) ns ps v
value-assignment ns ps v lt = get_or-map-range_with_len (value_in (total ns) ns ps) 0 (total ns + total ns) v v false lt (omega arith)

pub assignment_shows : (ns ps : List ℕ) → IsChoice ns ps → Shows (assignment ns ps) (total ns) 0 ns ps
assignment_shows ns ps c = shows_values (assignment ns ps) (total ns) 0 ns ps c
    (λ v lt. subst (λ w. value_of (assignment ns ps) w ≡ bit_of ns ps v) (omega arith) (value-assignment ns ps v (omega (arith, lt)) ∙ cond-true (ltb v (total ns)) (bit_of ns ps v) (reach_of ns ps (v - total ns)) (lt-ltb v (total ns) lt)))
    (λ v lt. subst (λ w. value_of (assignment ns ps) w ≡ reach_of ns ps v) (omega arith) (value-assignment ns ps (total ns + v) (omega (arith, lt)) ∙ cond-false (ltb (total ns + v) (total ns)) (bit_of ns ps (total ns + v)) (reach_of ns ps (total ns + v - total ns)) (le-ltb (total ns + v) (total ns) (omega arith)) ∙ ap (reach_of ns ps) (past_head (total ns) v)))
