-- What a charge leaves of clauses.
use Rattle.std.proofs.Common.{◌≡◌, ℕ, ◌+◌, ◌<◌, ◌≤◌, ◌^◌, ◌≤ℤ◌, ◌<ℤ◌, ◌+ℤ◌, ◌-ℤ◌, ◌⊎◌, ℤ, pos, List, [], ◌∷◌, ◌++◌, length, get_or, Option, Some, None, refl, sym, ◌∙◌, subst, inl, inr, arith, All, Any, below_more}
use Rattle.std.specs.Prelude.{IfSome, slice_get}
use Rattle.std.specs.Prelude.{int_lt}
use Rattle.std.specs.Int.{int_min}
use Rattle.std.proofs.lemmas.Bool.{cases_Bool}
use Rattle.std.proofs.lemmas.Int.{by_lt_z, ints}
use Rattle.mig_sat.specs.declared.clauses.SatLit.{SatLit}
use Rattle.mig_sat.specs.declared.steps.Step.{Step}
use Rattle.mig_sat.specs.Steps.{IsFalse, IsNotFalse}
use Rattle.mig_maxsat.specs.Heaviest.{magnitude}
use Rattle.mig_maxsat.specs.Bounds.{weight_of, CostsLit, IsPaid, IsRaised}
use Rattle.mig_maxsat.specs.Losses.{IsLossless, IsLossy, LosesLit, Loses, IsSpent, IsChargeAt, IsSum, AreCharged}
use Rattle.mig_maxsat.proofs.Absolute.{ge_abs}
use Rattle.mig_maxsat.proofs.Weights.{magnitude_at}

-- a literal of the clause can be true at this loss, or the loss is the greatest and the first i literals are false
abbrev pub LosesFirst : List Step → List SatLit → List ℤ → ℤ → ℕ → Type 0
LosesFirst steps clause ws loss i = Any (LosesLit steps ws loss) clause ⊎ ((loss ≡ pos (2 ^ 62)) × ((k : ℕ) (d : SatLit) → k < i → IsFalse steps (get_or clause k d)))

-- no literal yet
pub loses_none : (steps : List Step) (clause : List SatLit) (ws : List ℤ) → LosesFirst steps clause ws (pos (2 ^ 62)) 0
loses_none steps clause ws = inr (refl, λ k d lt. absurd (omega (arith, lt)))

-- the lesser of a cost and the loss by a literal that is not false
pub least_loses : (steps : List Step) (ws : List ℤ) (l : SatLit) (cost r : ℤ) → IsNotFalse steps l → r ≡ int_min cost (pos 0 -ℤ weight_of ws l.var) → (r ≡ cost) ⊎ LosesLit steps ws r l
least_loses steps ws l cost r is_not e = elim (cases_Bool (int_lt (pos 0 -ℤ weight_of ws l.var) cost)) [
  | inl less ↦
      let same : r ≡ pos 0 -ℤ weight_of ws l.var = rw less at e in
      inr (is_not, omega (arith, ints, same))
  | inr more ↦ inl (rw more at e)
]

-- no variable weighs so little
pub too_light : (ws : List ℤ) (v : ℕ) (loss : ℤ) → v < length ws → magnitude ws < 2 ^ 62 → loss ≡ pos (2 ^ 62) → (weight_of ws v +ℤ loss) ≤ℤ pos 0 → ⊥
too_light ws v loss lt fits e le =
    let small = magnitude_at ws v (pos 0) lt in
    let ge = ge_abs (weight_of ws v) in
    omega (arith, ints, small, fits, ge, e, le)

-- one more literal
pub loses_next : (steps : List Step) (clause : List SatLit) (ws : List ℤ) (i : ℕ) (a b : ℤ) (l : SatLit) → LosesFirst steps clause ws a i → (b ≡ a) ⊎ LosesLit steps ws b l → CostsLit steps ws b l → ((d : SatLit) → l ≡ get_or clause i d) → i < length clause → l.var < length ws → magnitude ws < 2 ^ 62 → LosesFirst steps clause ws b (i + 1)
loses_next steps clause ws i a b l before loses costs is lt within fits = elim loses [
  | inr here ↦ inl (i, l, lt, sym (is l), here)
  | inl same ↦ elim before [
    | inl any ↦ inl (subst (λ k. Any (LosesLit steps ws k) clause) (sym same) any)
    | inr all ↦ elim costs [
      | inl is_false ↦ inr (same ∙ all.0, λ k d less. below_more (λ (j : ℕ). (e : SatLit) → IsFalse steps (get_or clause j e)) i (λ j fewer e. all.1 j e fewer) (λ e. subst (IsFalse steps) (is e) is_false) k less d)
      | inr costly ↦ absurd (too_light ws l.var b within fits (same ∙ all.0) costly.1)
    ]
  ]
]

-- so it is with being true at a loss only
pub lossy_next : (steps : List Step) (ws : List ℤ) (clause : List SatLit) (i : ℕ) (l : SatLit) → ((k : ℕ) (d : SatLit) → k < i → IsLossy steps ws (get_or clause k d)) → ((d : SatLit) → l ≡ get_or clause i d) → IsLossy steps ws l → (k : ℕ) (d : SatLit) → k < i + 1 → IsLossy steps ws (get_or clause k d)
lossy_next steps ws clause i l before is here k d lt = below_more (λ (j : ℕ). (e : SatLit) → IsLossy steps ws (get_or clause j e)) i (λ j less e. before j e less) (λ e. subst (IsLossy steps ws) (is e) here) k lt d

-- all literals
pub loses_all : (steps : List Step) (clause : List SatLit) (ws : List ℤ) (loss : ℤ) (i : ℕ) → LosesFirst steps clause ws loss i → length clause ≤ i → Loses steps clause ws loss
loses_all steps clause ws loss i first whole = elim first [
  | inl any ↦ inl any
  | inr all ↦ inr ((λ k d lt. all.1 k d (omega (arith, lt, whole))), all.0)
]

-- a literal that is true at a loss only loses something
pub lossy_loses : (steps : List Step) (ws : List ℤ) (loss : ℤ) (l : SatLit) → LosesLit steps ws loss l → IsLossy steps ws l → pos 0 <ℤ loss
lossy_loses steps ws loss l loses lossy = by_lt_z (pos 0) loss (λ lt. lt) (λ le. absurd (lossy (inr (loses.0, inr (let e = loses.1 in omega (arith, ints, e, le))))))

-- and so does a clause of such literals
pub loses_some : (steps : List Step) (clause : List SatLit) (ws : List ℤ) (loss : ℤ) → Loses steps clause ws loss → All (IsLossy steps ws) clause → pos 0 <ℤ loss
loses_some steps clause ws loss loses lossy = elim loses [
  | inl any ↦ lossy_loses steps ws loss any.1 any.4 (subst (IsLossy steps ws) any.3 (lossy any.0 any.1 any.2))
  | inr all ↦ let e = all.1 in omega (arith, ints, e)
]

-- a literal that was paid for can be true without loss
pub lossless_paid : (steps : List Step) (old new : List ℤ) (loss : ℤ) (l : SatLit) → LosesLit steps old loss l → IsPaid steps old new loss l → IsLossless steps new l
lossless_paid steps old new loss l loses paid = elim paid [
  | inl is_false ↦ absurd (loses.0 is_false)
  | inr heavier ↦ inr (loses.0, inr (let e = loses.1 in let le = heavier.1 in omega (arith, ints, e, le)))
]

-- where the loss was paid, nothing is left to charge
pub spent_paid : (steps : List Step) (clause : List SatLit) (old new : List ℤ) (loss : ℤ) → IsRaised steps clause loss old new → Loses steps clause old loss → IsSpent steps new clause
spent_paid steps clause old new loss raised loses = elim loses [
  | inl any ↦ inl (any.0, any.1, any.2, any.3, lossless_paid steps old new loss any.1 any.4 (subst (IsPaid steps old new loss) any.3 (raised.paid any.0 any.1 any.2)))
  | inr all ↦ inr all.0
]

-- a literal that can be true without loss still can where no weight is lighter
pub lossless_still : (steps : List Step) (old new : List ℤ) (l : SatLit) → ((v : ℕ) → weight_of old v ≤ℤ weight_of new v) → IsLossless steps old l → IsLossless steps new l
lossless_still steps old new l up is = elim is [
  | inl true_now ↦ inl true_now
  | inr other ↦ inr (other.0, elim other.1 [ inl negative ↦ inl negative | inr least ↦ inr (let more = up l.var in omega (arith, ints, least, more)) ])
]

-- what was spent stays so where no weight is lighter
pub spent_still : (steps : List Step) (old new : List ℤ) → ((v : ℕ) → weight_of old v ≤ℤ weight_of new v) → (clause : Option (List SatLit)) → IfSome clause (IsSpent steps old) → IfSome clause (IsSpent steps new)
spent_still steps old new up None spent = tt
spent_still steps old new up (Some clause) spent = elim spent [
  | inl any ↦ inl (any.0, any.1, any.2, any.3, lossless_still steps old new any.1 up any.4)
  | inr all ↦ inr all
]

-- one more clause is spent
pub spent_next : (clauses : List (List SatLit)) (steps : List Step) (old new : List ℤ) (numbers : List ℕ) (i number : ℕ) → ((k d : ℕ) → k < i → IfSome (slice_get clauses (get_or numbers k d)) (IsSpent steps old)) → ((v : ℕ) → weight_of old v ≤ℤ weight_of new v) → IfSome (slice_get clauses number) (IsSpent steps new) → ((d : ℕ) → number ≡ get_or numbers i d) → (k d : ℕ) → k < i + 1 → IfSome (slice_get clauses (get_or numbers k d)) (IsSpent steps new)
spent_next clauses steps old new numbers i number before up here is k d lt = below_more (λ (j : ℕ). (e : ℕ) → IfSome (slice_get clauses (get_or numbers j e)) (IsSpent steps new)) i (λ j less e. spent_still steps old new up (slice_get clauses (get_or numbers j e)) (before j e less)) (λ e. subst (λ (n : ℕ). IfSome (slice_get clauses n) (IsSpent steps new)) (is e) here) k lt d

-- one more clause is charged
pub charged_next : (clauses : List (List SatLit)) (steps : List Step) (numbers : List ℕ) (number : ℕ) (old : List ℤ) (before : ℤ) (mid : List ℤ) (lost : ℤ) (new : List ℤ) (more sum : ℤ) → AreCharged clauses steps numbers old before mid lost → IsChargeAt steps mid new more (slice_get clauses number) → IsSum lost more sum → AreCharged clauses steps (numbers ++ number ∷ []) old before new sum
charged_next clauses steps [] number old before mid lost new more sum was here is = (new, more, sum, subst (λ ws. IsChargeAt steps ws new more (slice_get clauses number)) was.0 here, subst (λ (k : ℤ). IsSum k more sum) was.1 is, (refl, refl))
charged_next clauses steps (n ∷ numbers) number old before mid lost new more sum was here is = (was.0, was.1, was.2, was.3, was.4, charged_next clauses steps numbers number was.0 was.2 mid lost new more sum was.5 here is)
