-- A model of the clauses of holes picks one option of each.
use Rattle.std.proofs.Common.{◌≡◌, ℕ, ◌+◌, ◌-◌, ◌<◌, ◌≤◌, Bool, true, false, List, [], ◌∷◌, sym, ◌∙◌, subst, inl, inr, arith, suc, zero}
use Rattle.std.proofs.lemmas.Bool.{both_ways, cases_eq, cases_order, false_from_ne_true, eq-eqb, ne_eqb}
use Rattle.mig_sat.specs.Models.{value_of}
use Rattle.mig_sketch.specs.Choices.{IsChoice}
use Rattle.mig_complete.specs.Coding.{one_of, links, hole, holes, IsPicked, Codes}
use Rattle.mig_complete.proofs.Meeting.{MeetsAny, MeetsAll, meets_left, meets_right, implies_true, implies_false}

-- one of the variables is true
pub one_true : (m : List Bool) (first n : ℕ) → MeetsAny m (one_of first n) → (k : ℕ) × (k < n) × (value_of m (first + k) ≡ true)
one_true m first zero h = absurd h
one_true m first (suc n) h = elim h [
  | inl here ↦ (0, omega arith, subst (λ v. value_of m v ≡ true) (omega arith) here)
  | inr more ↦ let t = one_true m (first + 1) n more in (suc t.0, omega (arith, t.1), subst (λ v. value_of m v ≡ true) (omega arith) t.2)
]

-- what the clauses of one link say
pub record Links (m : List Bool) (helpers v : ℕ) : Type 0 where
  pub reach : value_of m v ≡ true → value_of m (helpers + v) ≡ true
  pub on : value_of m (helpers + v) ≡ true → value_of m (helpers + v + 1) ≡ true
  pub once : value_of m (helpers + v) ≡ true → value_of m (v + 1) ≡ false

-- each link says so
pub links_at : (m : List Bool) (helpers first n : ℕ) → MeetsAll m (links helpers first n) → (v : ℕ) → first ≤ v → v < first + n → Links m helpers v
links_at m helpers first zero h v low high = absurd (omega (arith, low, high))
links_at m helpers first (suc n) h v low high = elim (cases_eq v first) [
  | inl e ↦ subst (Links m helpers) (sym e) (record {
    reach = implies_true m first (helpers + first) h.0;
    on = implies_true m (helpers + first) (helpers + first + 1) h.1.0;
    once = implies_false m (helpers + first) (first + 1) h.1.1.0;
  })
  | inr ne ↦ links_at m helpers (first + 1) n h.1.1.1 v (omega (arith, low, ne)) (omega (arith, high))
]

module _ (m : List Bool) (helpers first n : ℕ) (all : (v : ℕ) → first ≤ v → v < first + n → Links m helpers v) (i : ℕ) (low : first ≤ i) (true_at : value_of m i ≡ true) where
  -- from a true variable on the helpers are true
  pub helper_true : (j : ℕ) → i ≤ j → j < first + n → value_of m (helpers + j) ≡ true
  helper_true zero le lt = let e : i ≡ 0 = omega (arith, le) in (all 0 (omega (arith, low, le)) lt).reach (subst (λ v. value_of m v ≡ true) e true_at)
  helper_true (suc j) le lt = elim (cases_eq i (suc j)) [
    | inl e ↦ (all (suc j) (omega (arith, low, le)) lt).reach (subst (λ v. value_of m v ≡ true) e true_at)
    | inr ne ↦ subst (λ v. value_of m v ≡ true) (omega arith) ((all j (omega (arith, low, le, ne)) (omega (arith, lt))).on (helper_true j (omega (arith, le, ne)) (omega (arith, lt))))
  ]

  -- and the variables after it false
  pub false_after : (j : ℕ) → i < j → j < first + n + 1 → value_of m j ≡ false
  false_after zero lt high = absurd (omega (arith, lt))
  false_after (suc j) lt high = subst (λ v. value_of m v ≡ false) (omega arith) ((all j (omega (arith, low, lt)) (omega (arith, high))).once (helper_true j (omega (arith, lt)) (omega (arith, high))))

-- of each hole one option is picked
pub one_picked : (m : List Bool) (helpers first n : ℕ) → MeetsAll m (hole helpers first n) → (p : ℕ) × IsPicked m first n p
one_picked m helpers first n h =
    let t = one_true m first n h.0 in
    let all = links_at m helpers first (n - 1) h.1 in (
      t.0,
      record {
        within = t.1;
        each = λ k lt. elim (cases_order k t.0) [
          | inl e ↦ subst (λ j. value_of m (first + j) ≡ true) (sym e) t.2 ∙ sym (eq-eqb k t.0 e)
          | inr order ↦ elim order [
            | inl before ↦ false_from_ne_true (value_of m (first + k)) (λ here. both_ways (value_of m (first + t.0)) (false_after m helpers first (n - 1) all (first + k) (omega arith) here (first + t.0) (omega (arith, before)) (omega (arith, t.1, lt))) t.2) ∙ sym (ne_eqb k t.0 (λ e. omega (arith, e, before)))
            | inr after ↦ false_after m helpers first (n - 1) all (first + t.0) (omega arith) t.2 (first + k) (omega (arith, after)) (omega (arith, t.1, lt)) ∙ sym (ne_eqb k t.0 (λ e. omega (arith, e, after)))
          ]
        ];
      },
    )

-- so a model stands for a choice
pub choice_coded : (m : List Bool) (helpers first : ℕ) (ns : List ℕ) → MeetsAll m (holes helpers first ns) → (picks : List ℕ) × IsChoice ns picks × Codes m first ns picks
choice_coded m helpers first [] h = ([], tt, tt)
choice_coded m helpers first (n ∷ ns) h =
    let here = one_picked m helpers first n (meets_left m (hole helpers first n) (holes helpers (first + n) ns) h) in
    let more = choice_coded m helpers (first + n) ns (meets_right m (hole helpers first n) (holes helpers (first + n) ns) h) in
    (here.0 ∷ more.0, (here.1.within, more.1), (here.1, more.2))
