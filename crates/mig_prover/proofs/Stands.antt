-- What stands when no round drops any: some of the list, and all of it closed.
use Rattle.std.proofs.Common.{◌≡◌, ℕ, zero, suc, Bool, true, false, List, [], ◌∷◌, length, refl, sym, ap, ◌∙◌, subst, inl, inr, arith}
use Rattle.mig_schema.specs.declared.programs.Program.{Program}
use Rattle.mig_schema.specs.declared.jobs.Job.{Job}
use Rattle.mig_meaning.specs.declared.relating.Invariant.{Invariant}
use Rattle.mig_listing.specs.Listing.{IsIn}
use Rattle.mig_prover.specs.Closing.{AreClosed}
use Rattle.mig_prover.specs.Rounds.{is_view, Stays, IsWithout, IsRound, StandsAfter, IsKept}
use Rattle.mig_prover.proofs.Withouts.{without_shorter}

tail-same : {A : Type 0} (x : A) (xs ys : List A) → x ∷ xs ≡ x ∷ ys → xs ≡ ys
tail-same x xs ys e = cc

-- where none goes, P holds of all
all-stay : {A : Type 0} (P : A → Type 0) (xs ys : List A) → IsWithout P xs ys → ys ≡ xs → (x : A) → IsIn x xs → P x
all-stay P [] ys w e x i = absurd i
all-stay P (z ∷ xs) ys w e x i = elim w [
  | inl h ↦ let rest : h.1 ≡ xs = tail-same z h.1 xs (sym h.2 ∙ e) in elim i [ inl k ↦ subst P (sym k) h.0 | inr j ↦ all-stay P xs h.1 h.3 rest x j ]
  | inr h ↦ let le = without_shorter P xs ys h.1 in let long : length ys ≡ length (z ∷ xs) = ap length e in absurd (omega (arith, le, long))
]

-- what is left was there
some-stay : {A : Type 0} (P : A → Type 0) (xs ys : List A) → IsWithout P xs ys → (x : A) → IsIn x ys → IsIn x xs
some-stay P [] ys w x i = absurd (subst (IsIn x) w i)
some-stay P (z ∷ xs) ys w x i = elim w [
  | inl h ↦ elim (subst (IsIn x) h.2 i) [ inl k ↦ inl k | inr j ↦ inr (some-stay P xs h.1 h.3 x j) ]
  | inr h ↦ inr (some-stay P xs ys h.1 x i)
]

module _ (job : Job) (program : Program) where
  of-its-sort : (left : List Invariant) (i : Invariant) (b : Bool) → is_view i ≡ b → Stays job program b left i → AreClosed job program left i
  of-its-sort left i b e s = elim s [ inl n ↦ absurd (n e) | inr h ↦ h ]

  by-sort : (left : List Invariant) (i : Invariant) (b : Bool) → is_view i ≡ b → Stays job program true left i → Stays job program false left i → AreClosed job program left i
  by-sort left i true e s t = of-its-sort left i true e s
  by-sort left i false e s t = of-its-sort left i false e t

  -- after a round that drops none, all are closed
  round-closed : (left next : List Invariant) → IsRound job program left next → next ≡ left → (i : Invariant) → IsIn i left → AreClosed job program left i
  round-closed left next r e i k = elim r.then_views [
    | inl h ↦ absurd (h.1 (sym h.0 ∙ e))
    | inr h ↦ by-sort left i (is_view i) refl (all-stay (Stays job program true left) left next h.1 e i k) (all-stay (Stays job program false left) left r.plain r.without_plain h.0 i k)
  ]

  -- a round only drops
  round-drops : (left next : List Invariant) → IsRound job program left next → (i : Invariant) → IsIn i next → IsIn i left
  round-drops left next r i k = elim r.then_views [
    | inl h ↦ some-stay (Stays job program false left) left r.plain r.without_plain i (subst (IsIn i) h.0 k)
    | inr h ↦ some-stay (Stays job program true left) left next h.1 i k
  ]

  stands-closed : (n : ℕ) (list stands : List Invariant) → StandsAfter n job program list stands → (i : Invariant) → IsIn i stands → AreClosed job program stands i
  stands-closed zero list stands s i k = absurd s
  stands-closed (suc n) list stands s i k = elim s.2 [
    | inl h ↦ subst (λ xs. AreClosed job program xs i) (sym h.1) (round-closed list s.0 s.1 h.0 i (subst (IsIn i) h.1 k))
    | inr h ↦ stands-closed n s.0 stands h.1 i k
  ]

  stands-in : (n : ℕ) (list stands : List Invariant) → StandsAfter n job program list stands → (i : Invariant) → IsIn i stands → IsIn i list
  stands-in zero list stands s i k = absurd s
  stands-in (suc n) list stands s i k = elim s.2 [
    | inl h ↦ subst (IsIn i) h.1 k
    | inr h ↦ round-drops list s.0 s.1 i (stands-in n s.0 stands h.1 i k)
  ]

  -- what is kept is closed under what is kept
  pub kept-closed : (list stands : List Invariant) → IsKept job program list stands → (i : Invariant) → IsIn i stands → AreClosed job program stands i
  kept-closed list stands k = stands-closed k.0 list stands k.1

  -- what is kept was in the list
  pub kept-in : (list stands : List Invariant) → IsKept job program list stands → (i : Invariant) → IsIn i stands → IsIn i list
  kept-in list stands k = stands-in k.0 list stands k.1
