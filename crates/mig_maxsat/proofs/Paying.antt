-- Weights become heavier by a cost, literal by literal.
use Rattle.std.proofs.Common.{◌≡◌, ℕ, ◌+◌, ◌<◌, ◌≤◌, ◌≤ℤ◌, ◌<ℤ◌, ◌+ℤ◌, ◌⊎◌, ℤ, pos, Bool, List, [], ◌∷◌, ◌++◌, length, get_or, set, refl, ap, sym, ◌∙◌, subst, inl, inr, arith, All, Any, below_more}
use Rattle.std.proofs.lemmas.Int.{ints}
use Rattle.std.proofs.lemmas.Bool.{cases_eq}
use Rattle.std.proofs.lemmas.List.{get_or-set_same, get_or-set_other, length-set}
use Rattle.mig_sat.specs.declared.clauses.SatLit.{SatLit}
use Rattle.mig_sat.specs.declared.steps.Step.{Step}
use Rattle.mig_sat.specs.Models.{HoldsLit}
use Rattle.mig_sat.specs.Steps.{IsFalse, FollowsAll}
use Rattle.mig_sat.proofs.Following.{false_not_held}
use Rattle.mig_maxsat.specs.Heaviest.{weight, magnitude}
use Rattle.mig_maxsat.specs.Bounds.{weight_of, CostsLit, IsPayment, ArePaid, IsPaid, IsRaised}
use Rattle.mig_maxsat.proofs.Absolute.{abs_raised}
use Rattle.mig_maxsat.proofs.Weights.{magnitude_set, heavier_at}

-- the weights of the first i literals have become heavier by the cost, and each weight has or has stayed
pub record Pays (steps : List Step) (clause : List SatLit) (cost : ℤ) (old now : List ℤ) (i : ℕ) : Type 0 where
  pub sized : length now ≡ length old
  pub small : magnitude now ≤ magnitude old
  pub each : (v : ℕ) → (weight_of now v ≡ weight_of old v) ⊎ ((weight_of old v +ℤ cost) ≤ℤ weight_of now v)
  pub paid : (k : ℕ) (d : SatLit) → k < i → IsPaid steps old now cost (get_or clause k d)

-- none of the literals yet
pub pays_none : (steps : List Step) (clause : List SatLit) (cost : ℤ) (old : List ℤ) → Pays steps clause cost old old 0
pays_none steps clause cost old = record {
  sized = refl;
  small = omega arith;
  each = λ v. inl refl;
  paid = λ k d lt. absurd (omega (arith, lt));
}

-- one more literal, for which the weights stay
pub pays_kept : (steps : List Step) (clause : List SatLit) (cost : ℤ) (old now : List ℤ) (i : ℕ) → Pays steps clause cost old now i → ((d : SatLit) → IsPaid steps old now cost (get_or clause i d)) → Pays steps clause cost old now (i + 1)
pays_kept steps clause cost old now i p here = record {
  sized = p.sized;
  small = p.small;
  each = p.each;
  paid = λ k d lt. below_more (λ (j : ℕ). (e : SatLit) → IsPaid steps old now cost (get_or clause j e)) i (λ j less e. p.paid j e less) here k lt d;
}

-- a weight that can't become heavier by the cost has become so before
pub paid_before : (steps : List Step) (cost : ℤ) (old now : List ℤ) (l : SatLit) → (IsFalse steps l → ⊥) → CostsLit steps old cost l → (weight_of now l.var ≡ weight_of old l.var) ⊎ ((weight_of old l.var +ℤ cost) ≤ℤ weight_of now l.var) → pos 0 <ℤ (weight_of now l.var +ℤ cost) → IsPaid steps old now cost l
paid_before steps cost old now l is_not costs each above = elim costs [
  | inl is_false ↦ absurd (is_not is_false)
  | inr costly ↦ elim each [
    | inl same ↦ let most = costly.1 in absurd (omega (arith, ints, same, most, above))
    | inr heavier ↦ inr (costly.0, heavier)
  ]
]

-- what a weight is behind the write
pub written : (now : List ℤ) (v u : ℕ) (x : ℤ) → v < length now → ((u ≡ v) × (weight_of (set now v x) u ≡ x)) ⊎ ((u ≡ v → ⊥) × (weight_of (set now v x) u ≡ weight_of now u))
written now v u x lt = elim (cases_eq u v) [
  | inl e ↦ inl (e, rw e (get_or-set_same now v x (pos 0) lt))
  | inr ne ↦ inr (ne, get_or-set_other now v u x (pos 0) ne)
]

-- no weight has become lighter
pub written_up : (now : List ℤ) (v u : ℕ) (cost : ℤ) → v < length now → pos 0 ≤ℤ cost → weight_of now u ≤ℤ weight_of (set now v (weight_of now v +ℤ cost)) u
written_up now v u cost lt least = elim (written now v u (weight_of now v +ℤ cost) lt) [
  | inl at ↦ let here = ap (weight_of now) at.0 in let e = at.1 in omega (arith, ints, here, e, least)
  | inr other ↦ let e = other.1 in omega (arith, ints, e)
]

-- the weight that is written
pub written_here : (now : List ℤ) (v : ℕ) (x : ℤ) → v < length now → weight_of (set now v x) v ≡ x
written_here now v x lt = get_or-set_same now v x (pos 0) lt

-- each weight has become heavier by the cost, or stayed, behind the write
pub written_each : (cost : ℤ) (old now : List ℤ) (v : ℕ) → v < length now → pos 0 ≤ℤ cost → ((u : ℕ) → (weight_of now u ≡ weight_of old u) ⊎ ((weight_of old u +ℤ cost) ≤ℤ weight_of now u)) → (u : ℕ) → (weight_of (set now v (weight_of now v +ℤ cost)) u ≡ weight_of old u) ⊎ ((weight_of old u +ℤ cost) ≤ℤ weight_of (set now v (weight_of now v +ℤ cost)) u)
written_each cost old now v lt least each u = elim (written now v u (weight_of now v +ℤ cost) lt) [
  | inl at ↦
      let here = ap (weight_of now) at.0 in
      let e = at.1 in
      inr (elim (each u) [ inl same ↦ omega (arith, ints, here, e, same) | inr heavier ↦ omega (arith, ints, here, e, heavier, least) ])
  | inr other ↦ elim (each u) [ inl same ↦ inl (other.1 ∙ same) | inr heavier ↦ let e = other.1 in inr (omega (arith, ints, e, heavier)) ]
]

-- what was paid stays so where no weight becomes lighter
pub paid_still : (steps : List Step) (cost : ℤ) (old now new : List ℤ) (l : SatLit) → ((u : ℕ) → weight_of now u ≤ℤ weight_of new u) → IsPaid steps old now cost l → IsPaid steps old new cost l
paid_still steps cost old now new l up paid = elim paid [
  | inl is_false ↦ inl is_false
  | inr heavier ↦ let le = heavier.1 in let more = up l.var in inr (heavier.0, omega (arith, ints, le, more))
]

-- the literal whose weight is written is paid
pub paid_here : (steps : List Step) (cost : ℤ) (old now : List ℤ) (l : SatLit) → l.var < length now → pos 0 ≤ℤ cost → CostsLit steps old cost l → (weight_of now l.var ≡ weight_of old l.var) ⊎ ((weight_of old l.var +ℤ cost) ≤ℤ weight_of now l.var) → IsPaid steps old (set now l.var (weight_of now l.var +ℤ cost)) cost l
paid_here steps cost old now l lt least costs each = elim costs [
  | inl is_false ↦ inl is_false
  | inr costly ↦
      let e = written_here now l.var (weight_of now l.var +ℤ cost) lt in
      inr (costly.0, elim each [ inl same ↦ omega (arith, ints, e, same) | inr heavier ↦ omega (arith, ints, e, heavier, least) ])
]

-- one more literal, whose weight becomes heavier
pub pays_more : (steps : List Step) (clause : List SatLit) (cost : ℤ) (old now : List ℤ) (i : ℕ) (l : SatLit) → Pays steps clause cost old now i → CostsLit steps old cost l → ((d : SatLit) → l ≡ get_or clause i d) → l.var < length now → pos 0 ≤ℤ cost → (weight_of now l.var +ℤ cost) ≤ℤ pos 0 → Pays steps clause cost old (set now l.var (weight_of now l.var +ℤ cost)) (i + 1)
pays_more steps clause cost old now i l p costs is within least most =
    let up : (u : ℕ) → weight_of now u ≤ℤ weight_of (set now l.var (weight_of now l.var +ℤ cost)) u = λ u. written_up now l.var u cost within least in
    let smaller = magnitude_set now l.var (weight_of now l.var +ℤ cost) (pos 0) within (abs_raised (weight_of now l.var) cost least most) in
    let before = p.small in
    let kept : Pays steps clause cost old (set now l.var (weight_of now l.var +ℤ cost)) i = record {
      sized = length-set now l.var (weight_of now l.var +ℤ cost) ∙ p.sized;
      small = omega (arith, smaller, before);
      each = written_each cost old now l.var within least p.each;
      paid = λ k d less. paid_still steps cost old now (set now l.var (weight_of now l.var +ℤ cost)) (get_or clause k d) up (p.paid k d less);
    } in
    pays_kept steps clause cost old (set now l.var (weight_of now l.var +ℤ cost)) i kept (λ d. subst (IsPaid steps old (set now l.var (weight_of now l.var +ℤ cost)) cost) (is d) (paid_here steps cost old now l within least costs (p.each l.var)))

-- one more literal, whatever is paid for it
pub pays_next : (steps : List Step) (clause : List SatLit) (cost : ℤ) (old now new : List ℤ) (i : ℕ) (l : SatLit) → Pays steps clause cost old now i → CostsLit steps old cost l → ((d : SatLit) → l ≡ get_or clause i d) → l.var < length now → pos 0 ≤ℤ cost → IsPayment steps l cost now new → Pays steps clause cost old new (i + 1)
pays_next steps clause cost old now new i l p costs is within least paid = elim paid [
  | inl a ↦ subst (λ ws. Pays steps clause cost old ws (i + 1)) (sym a.1) (pays_kept steps clause cost old now i p (λ d. inl (subst (IsFalse steps) (is d) a.0)))
  | inr other ↦ elim other [
    | inl a ↦ subst (λ ws. Pays steps clause cost old ws (i + 1)) (sym a.2) (pays_more steps clause cost old now i l p costs is within least a.1)
    | inr a ↦ subst (λ ws. Pays steps clause cost old ws (i + 1)) (sym a.2) (pays_kept steps clause cost old now i p (λ d. subst (IsPaid steps old now cost) (is d) (paid_before steps cost old now l a.0 costs (p.each l.var) a.1)))
  ]
]

-- all literals
pub pays_all : (steps : List Step) (clause : List SatLit) (cost : ℤ) (old now : List ℤ) (i : ℕ) → Pays steps clause cost old now i → length clause ≤ i → pos 0 ≤ℤ cost → IsRaised steps clause cost old now
pays_all steps clause cost old now i p whole least = record {
  sized = p.sized;
  small = p.small;
  each = λ v. elim (p.each v) [ inl same ↦ omega (arith, ints, same) | inr heavier ↦ omega (arith, ints, heavier, least) ];
  paid = λ k d lt. p.paid k d (omega (arith, lt, whole));
}

-- one more literal is paid for
pub paid_next : (steps : List Step) (clause : List SatLit) (l : SatLit) (cost : ℤ) (old now new : List ℤ) → ArePaid steps clause cost old now → IsPayment steps l cost now new → ArePaid steps (clause ++ l ∷ []) cost old new
paid_next steps [] l cost old now new was here = (new, subst (λ ws. IsPayment steps l cost ws new) was here, refl)
paid_next steps (x ∷ clause) l cost old now new was here = (was.0, was.1, paid_next steps clause l cost was.0 now new was.2 here)

-- a model that follows the steps and meets the clause is heavier by the cost
pub charged_by : (steps : List Step) (clause : List SatLit) (cost : ℤ) (old new : List ℤ) (m : List Bool) (size : ℕ) → IsRaised steps clause cost old new → All (λ (l : SatLit). l.var < size) clause → length old ≡ size → FollowsAll m steps → Any (HoldsLit m) clause → (weight old m +ℤ cost) ≤ℤ weight new m
charged_by steps clause cost old new m size r range sized f any =
    let l = any.1 in
    let paid : IsPaid steps old new cost l = subst (IsPaid steps old new cost) any.3 (r.paid any.0 l any.2) in
    let within : l.var < size = subst (λ (x : SatLit). x.var < size) any.3 (range any.0 l any.2) in
    elim paid [
      | inl is_false ↦ absurd (false_not_held m steps l f is_false any.4)
      | inr heavier ↦ heavier_at old new m l.var cost r.sized r.each (omega (arith, within, sized)) (any.4 ∙ heavier.0) heavier.1
    ]

-- what costs so much costs less
pub costs_less : (steps : List Step) (ws : List ℤ) (a b : ℤ) (l : SatLit) → b ≤ℤ a → CostsLit steps ws a l → CostsLit steps ws b l
costs_less steps ws a b l le costs = elim costs [
  | inl is_false ↦ inl is_false
  | inr costly ↦ let most = costly.1 in inr (costly.0, omega (arith, ints, le, most))
]

-- one more literal, and what all cost then
pub costs_next : (steps : List Step) (ws : List ℤ) (clause : List SatLit) (i : ℕ) (a b : ℤ) (l : SatLit) → ((k : ℕ) (d : SatLit) → k < i → CostsLit steps ws a (get_or clause k d)) → b ≤ℤ a → ((d : SatLit) → l ≡ get_or clause i d) → CostsLit steps ws b l → (k : ℕ) (d : SatLit) → k < i + 1 → CostsLit steps ws b (get_or clause k d)
costs_next steps ws clause i a b l before le is here k d lt = below_more (λ (j : ℕ). (e : SatLit) → CostsLit steps ws b (get_or clause j e)) i (λ j less e. costs_less steps ws a b (get_or clause j e) le (before j e less)) (λ e. subst (CostsLit steps ws b) (is e) here) k lt d
