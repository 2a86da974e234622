-- There is one way at most to charge clauses.
use Rattle.std.proofs.Common.{◌≡◌, ℕ, ◌≤ℤ◌, ℤ, List, [], ◌∷◌, Option, Some, None, sym, ◌∙◌, subst, inl, inr, arith, All, Any}
use Rattle.std.proofs.lemmas.Int.{ints}
use Rattle.std.specs.Prelude.{slice_get}
use Rattle.mig_sat.specs.declared.clauses.SatLit.{SatLit}
use Rattle.mig_sat.specs.declared.steps.Step.{Step}
use Rattle.mig_sat.specs.Steps.{IsFalse}
use Rattle.mig_maxsat.specs.Bounds.{CostsLit, IsPayment, ArePaid}
use Rattle.mig_maxsat.specs.Losses.{IsLossless, IsLossy, LosesLit, Loses, IsCharge, IsChargeAt, IsSum, AreCharged}

-- two payments of one literal leave the same
pub one_payment : (steps : List Step) (l : SatLit) (cost : ℤ) (old a b : List ℤ) → IsPayment steps l cost old a → IsPayment steps l cost old b → a ≡ b
one_payment steps l cost old a b p q = elim p [
  | inl x ↦ elim q [ inl y ↦ x.1 ∙ sym y.1 | inr y ↦ elim y [ inl z ↦ absurd (z.0 x.0) | inr z ↦ absurd (z.0 x.0) ] ]
  | inr x ↦ elim x [
    | inl x ↦ elim q [ inl y ↦ absurd (x.0 y.0) | inr y ↦ elim y [ inl z ↦ x.2 ∙ sym z.2 | inr z ↦ let le = x.1 in let gt = z.1 in absurd (omega (arith, ints, le, gt)) ] ]
    | inr x ↦ elim q [ inl y ↦ absurd (x.0 y.0) | inr y ↦ elim y [ inl z ↦ let gt = x.1 in let le = z.1 in absurd (omega (arith, ints, le, gt)) | inr z ↦ x.2 ∙ sym z.2 ] ]
  ]
]

-- two payments of a clause leave the same
pub paid_once : (steps : List Step) (clause : List SatLit) (cost : ℤ) (old a b : List ℤ) → ArePaid steps clause cost old a → ArePaid steps clause cost old b → a ≡ b
paid_once steps [] cost old a b p q = p ∙ sym q
paid_once steps (l ∷ clause) cost old a b p q = paid_once steps clause cost p.0 a b p.2 (subst (λ ws. ArePaid steps clause cost ws b) (sym (one_payment steps l cost old p.0 q.0 p.1 q.1)) q.2)

-- a loss by one literal is no less than what each costs
pub least_loss : (steps : List Step) (ws : List ℤ) (a b : ℤ) (l : SatLit) → LosesLit steps ws a l → CostsLit steps ws b l → b ≤ℤ a
least_loss steps ws a b l loses costs = elim costs [
  | inl is_false ↦ absurd (loses.0 is_false)
  | inr costly ↦ let e = loses.1 in let le = costly.1 in omega (arith, ints, e, le)
]

-- a clause has one loss
pub one_loss : (steps : List Step) (clause : List SatLit) (ws : List ℤ) (a b : ℤ) → Loses steps clause ws a → All (CostsLit steps ws a) clause → Loses steps clause ws b → All (CostsLit steps ws b) clause → a ≡ b
one_loss steps clause ws a b p costs_a q costs_b = elim p [
  | inl x ↦ elim q [
    | inl y ↦
        let le = least_loss steps ws a b x.1 x.4 (subst (CostsLit steps ws b) x.3 (costs_b x.0 x.1 x.2)) in
        let ge = least_loss steps ws b a y.1 y.4 (subst (CostsLit steps ws a) y.3 (costs_a y.0 y.1 y.2)) in
        omega (arith, ints, le, ge)
    | inr y ↦ absurd (x.4.0 (subst (IsFalse steps) x.3 (y.0 x.0 x.1 x.2)))
  ]
  | inr x ↦ elim q [ inl y ↦ absurd (y.4.0 (subst (IsFalse steps) y.3 (x.0 y.0 y.1 y.2))) | inr y ↦ x.1 ∙ sym y.1 ]
]

-- where a literal is true or can be without loss, not all are true at a loss only
pub not_lossy : (steps : List Step) (clause : List SatLit) (ws : List ℤ) → Any (IsLossless steps ws) clause → All (IsLossy steps ws) clause → ⊥
not_lossy steps clause ws any lossy = (subst (IsLossy steps ws) any.3 (lossy any.0 any.1 any.2)) any.4

-- two charges of one clause lose the same, and leave the same
pub one_charge : (steps : List Step) (old a b : List ℤ) (la lb : ℤ) (clause : List SatLit) → IsCharge steps old a la clause → IsCharge steps old b lb clause → (a ≡ b) × (la ≡ lb)
one_charge steps old a b la lb clause p q = elim p [
  | inl x ↦ elim q [ inl y ↦ (x.1 ∙ sym y.1, x.2 ∙ sym y.2) | inr y ↦ absurd (not_lossy steps clause old x.0 y.0) ]
  | inr x ↦ elim q [
    | inl y ↦ absurd (not_lossy steps clause old y.0 x.0)
    | inr y ↦
        let same = one_loss steps clause old la lb x.1 x.2 y.1 y.2 in
        (paid_once steps clause la old a b x.3 (subst (λ k. ArePaid steps clause k old b) (sym same) y.3), same)
  ]
]

-- so it is with the clause, if there is one
pub one_charge_at : (steps : List Step) (old a b : List ℤ) (la lb : ℤ) (clause : Option (List SatLit)) → IsChargeAt steps old a la clause → IsChargeAt steps old b lb clause → (a ≡ b) × (la ≡ lb)
one_charge_at steps old a b la lb None p q = (p.0 ∙ sym q.0, p.1 ∙ sym q.1)
one_charge_at steps old a b la lb (Some clause) p q = one_charge steps old a b la lb clause p q

-- there is one sum
pub one_sum : (lost more a b : ℤ) → IsSum lost more a → IsSum lost more b → a ≡ b
one_sum lost more a b p q = elim p [
  | inl x ↦ elim q [ inl y ↦ x.1 ∙ sym y.1 | inr y ↦ absurd (y.0 x.0) ]
  | inr x ↦ elim q [ inl y ↦ absurd (x.0 y.0) | inr y ↦ x.1 ∙ sym y.1 ]
]

-- clauses that are charged twice from the same weights and loss lose the same, and leave the same
pub charged_once : (clauses : List (List SatLit)) (steps : List Step) (numbers : List ℕ) (old : List ℤ) (before : ℤ) (a b : List ℤ) (la lb : ℤ) → AreCharged clauses steps numbers old before a la → AreCharged clauses steps numbers old before b lb → (a ≡ b) × (la ≡ lb)
charged_once clauses steps [] old before a b la lb p q = (p.0 ∙ sym q.0, p.1 ∙ sym q.1)
charged_once clauses steps (n ∷ numbers) old before a b la lb p q =
    let one = one_charge_at steps old p.0 q.0 p.1 q.1 (slice_get clauses n) p.3 q.3 in
    let sum = one_sum before p.1 p.2 q.2 p.4 (subst (λ (k : ℤ). IsSum before k q.2) (sym one.1) q.4) in
    let rest = subst (λ (k : ℤ). AreCharged clauses steps numbers q.0 k b lb) (sym sum) q.5 in
    charged_once clauses steps numbers p.0 p.2 a b la lb p.5 (subst (λ ws. AreCharged clauses steps numbers ws p.2 b lb) (sym one.0) rest)
