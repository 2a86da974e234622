-- What is left of a list without some of its items.
use Rattle.std.proofs.Common.{◌≡◌, ◌≤◌, List, [], ◌∷◌, ◌++◌, length, refl, ap, sym, ◌∙◌, inl, inr, arith, suc, true, false}
use Rattle.mig_schema.specs.declared.programs.Program.{Program}
use Rattle.mig_schema.specs.declared.jobs.Job.{Job}
use Rattle.mig_meaning.specs.declared.relating.Invariant.{Invariant}
use Rattle.mig_prover.specs.Rounds.{Stays, IsWithout, IsRound, IsKept}

-- one more item, which stays or goes
pub without_more : {A : Type 0} (P : A → Type 0) (xs ys : List A) (x : A) → IsWithout P xs ys → P x → IsWithout P (xs ++ x ∷ []) (ys ++ x ∷ [])
without_more P [] ys x w p = inl (p, [], ap (λ t. t ++ x ∷ []) w, refl)
without_more P (z ∷ xs) ys x w p = elim w [
  | inl h ↦ inl (h.0, h.1 ++ x ∷ [], ap (λ t. t ++ x ∷ []) h.2, without_more P xs h.1 x h.3 p)
  | inr h ↦ inr (h.0, without_more P xs ys x h.1 p)
]

pub without_less : {A : Type 0} (P : A → Type 0) (xs ys : List A) (x : A) → IsWithout P xs ys → (P x → ⊥) → IsWithout P (xs ++ x ∷ []) ys
without_less P [] ys x w n = inr (n, w)
without_less P (z ∷ xs) ys x w n = elim w [
  | inl h ↦ inl (h.0, h.1, h.2, without_less P xs h.1 x h.3 n)
  | inr h ↦ inr (h.0, without_less P xs ys x h.1 n)
]

-- it is no longer
pub without_shorter : {A : Type 0} (P : A → Type 0) (xs ys : List A) → IsWithout P xs ys → length ys ≤ length xs
without_shorter P [] ys w = let e : length ys ≡ 0 = ap length w in omega (arith, e)
without_shorter P (x ∷ xs) ys w = elim w [
  | inl h ↦ let e : length ys ≡ length (x ∷ h.1) = ap length h.2 in let le = without_shorter P xs h.1 h.3 in omega (arith, e, le)
  | inr h ↦ let le = without_shorter P xs ys h.1 in omega (arith, le)
]

-- as long a list is the same
pub without_same : {A : Type 0} (P : A → Type 0) (xs ys : List A) → IsWithout P xs ys → length ys ≡ length xs → ys ≡ xs
without_same P [] ys w long = w
without_same P (x ∷ xs) ys w long = elim w [
  | inl h ↦ let e : length ys ≡ length (x ∷ h.1) = ap length h.2 in h.2 ∙ ap (λ t. x ∷ t) (without_same P xs h.1 h.3 (omega (arith, e, long)))
  | inr h ↦ let le = without_shorter P xs ys h.1 in absurd (omega (arith, le, long))
]

-- so it is with a round
pub round_shorter : (job : Job) (program : Program) (left next : List Invariant) → IsRound job program left next → length next ≤ length left
round_shorter job program left next r = elim r.then_views [
  | inl h ↦ let e : length next ≡ length r.plain = ap length h.0 in let le = without_shorter (Stays job program false left) left r.plain r.without_plain in omega (arith, e, le)
  | inr h ↦ without_shorter (Stays job program true left) left next h.1
]

pub round_same : (job : Job) (program : Program) (left next : List Invariant) → IsRound job program left next → length next ≡ length left → next ≡ left
round_same job program left next r long = elim r.then_views [
  | inl h ↦ absurd (h.1 (without_same (Stays job program false left) left r.plain r.without_plain (sym (ap length h.0) ∙ long)))
  | inr h ↦ without_same (Stays job program true left) left next h.1 long
]

-- a round that drops none ends the rounds
pub kept_here : (job : Job) (program : Program) (left next : List Invariant) → IsRound job program left next → next ≡ left → IsKept job program left left
kept_here job program left next r e = (1, (next, r, inl (e, refl)))

-- what is kept after a round that drops some is kept
pub kept_before : (job : Job) (program : Program) (left next stands : List Invariant) → IsRound job program left next → (next ≡ left → ⊥) → IsKept job program next stands → IsKept job program left stands
kept_before job program left next stands r ne k = (suc k.0, (next, r, inr (ne, k.1)))
