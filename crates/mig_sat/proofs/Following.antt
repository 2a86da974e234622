-- What holds of an assignment that follows the steps.
use Rattle.std.proofs.Common.{◌≡◌, ℕ, ◌<◌, ◌⊎◌, Bool, true, false, not, List, [], ◌∷◌, length, get_or, Some, refl, ap, sym, ◌∙◌, subst, inl, inr, All, Any}
use Rattle.std.proofs.lemmas.Bool.{cases_eq, eq-eqb, ne_eqb, cases_Bool}
use Rattle.std.proofs.lemmas.Option.{same_Some, slice_get_within, get_or_from_slice_get}
use Rattle.std.specs.Prelude.{slice_get}
use Rattle.mig_sat.specs.declared.clauses.SatLit.{SatLit}
use Rattle.mig_sat.specs.declared.clauses.Cnf.{Cnf}
use Rattle.mig_sat.specs.declared.steps.Step.{Step}
use Rattle.mig_sat.specs.Models.{IsModel, HoldsLit, value_of, IsInRange}
use Rattle.mig_sat.specs.Steps.{value_at, IsFalse, IsNotFalse, FollowsAll, FollowsChoices, IsRight}

-- it gives each variable what the steps give it
pub value_followed : (m : List Bool) (steps : List Step) (v : ℕ) (b : Bool) → FollowsAll m steps → value_at v steps ≡ Some b → value_of m v ≡ b
value_followed m [] v b f e = cc
value_followed m (s ∷ older) v b f e = elim (cases_eq v s.lit.var) [
  | inl same ↦ ap (value_of m) same ∙ (f.0 ∙ same_Some s.lit.positive b (rw (eq-eqb v s.lit.var same) at e))
  | inr ne ↦ value_followed m older v b f.1 (rw (ne_eqb v s.lit.var ne) at e)
]

-- no truth value is its own opposite
pub not_both : (b : Bool) → b ≡ not b → ⊥
not_both true e = cc
not_both false e = cc

-- what differs from a truth value is its opposite
pub other_value : (a b : Bool) → (a ≡ b → ⊥) → a ≡ not b
other_value true true h = absurd (h refl)
other_value true false h = refl
other_value false true h = refl
other_value false false h = absurd (h refl)

-- what differs from the opposite is the truth value itself
pub this_value : (a b : Bool) → (a ≡ not b → ⊥) → a ≡ b
this_value true true h = refl
this_value true false h = absurd (h refl)
this_value false true h = absurd (h refl)
this_value false false h = refl

-- a literal that the steps make false is not true in it
pub false_not_held : (m : List Bool) (steps : List Step) (l : SatLit) → FollowsAll m steps → IsFalse steps l → HoldsLit m l → ⊥
false_not_held m steps l f e h = not_both l.positive (sym h ∙ value_followed m steps l.var (not l.positive) f e)

-- it makes no literal true of a clause that the steps make false
pub no_true_literal : (m : List Bool) (steps : List Step) (clause : List SatLit) → FollowsAll m steps → All (IsFalse steps) clause → Any (HoldsLit m) clause → ⊥
no_true_literal m steps clause f all any = false_not_held m steps any.1 f (subst (IsFalse steps) any.3 (all any.0 any.1 any.2)) any.4

-- where the steps make all literals false but one, it makes that one true
pub unit_holds : (m : List Bool) (steps : List Step) (clause : List SatLit) (l : SatLit) → FollowsAll m steps → All (λ k. IsFalse steps k ⊎ (k ≡ l)) clause → Any (HoldsLit m) clause → HoldsLit m l
unit_holds m steps clause l f all any = elim (all any.0 any.1 any.2) [
  | inl is_false ↦ absurd (false_not_held m steps any.1 f (subst (IsFalse steps) any.3 is_false) any.4)
  | inr same ↦ subst (HoldsLit m) same (subst (HoldsLit m) (sym any.3) any.4)
]

-- a model makes a literal of the i-th clause true
pub clause_met : (cnf : Cnf) (m : List Bool) (i : ℕ) (clause : List SatLit) → IsModel cnf m → i < length cnf.clauses → clause ≡ get_or cnf.clauses i clause → Any (HoldsLit m) clause
clause_met cnf m i clause is lt e = subst (Any (HoldsLit m)) (sym e) (is.meets i clause lt)

-- and so of the clause that stands at i
pub clause_got : (cnf : Cnf) (m : List Bool) (i : ℕ) (clause : List SatLit) → IsModel cnf m → slice_get cnf.clauses i ≡ Some clause → Any (HoldsLit m) clause
clause_got cnf m i clause is got = clause_met cnf m i clause is (slice_get_within cnf.clauses i clause got) (sym (get_or_from_slice_get cnf.clauses i clause clause got))

-- one of M that follows the choices follows all steps
pub follows_all : (n : ℕ) (M : List Bool → Type 0) (m : List Bool) (steps : List Step) → IsRight n M steps → M m → FollowsChoices m steps → FollowsAll m steps
follows_all n M m [] r is f = tt
follows_all n M m (s ∷ older) r is f = (
  elim (cases_Bool s.chosen) [ inl chosen ↦ f.0 chosen | inr forced ↦ r.0.follows forced m is f.1 ],
  follows_all n M m older r.1 is f.1,
)

-- a clause with a literal that is not false has one that is true, where each variable has its value
pub clause_true : (cnf : Cnf) (m : List Bool) (steps : List Step) → ((v : ℕ) → v < cnf.vars → value_at v steps ≡ Some (value_of m v)) → (k : ℕ) (d : List SatLit) → k < length cnf.clauses → IsInRange cnf → Any (IsNotFalse steps) (get_or cnf.clauses k d) → Any (HoldsLit m) (get_or cnf.clauses k d)
clause_true cnf m steps values k d lt range any =
    let l = any.1 in
    let in_range : l.var < cnf.vars = subst (λ (x : SatLit). x.var < cnf.vars) any.3 (range k d lt any.0 l any.2) in
    (any.0, l, any.2, any.3, this_value (value_of m l.var) l.positive (λ e. any.4 (values l.var in_range ∙ ap Some e)))

-- where each variable has its value and no clause is false, the values are a model
pub is_model : (cnf : Cnf) (m : List Bool) (steps : List Step) → IsInRange cnf → length m ≡ cnf.vars → ((v : ℕ) → v < cnf.vars → value_at v steps ≡ Some (value_of m v)) → All (Any (IsNotFalse steps)) cnf.clauses → IsModel cnf m
is_model cnf m steps range size values unbroken = record { sized = size; meets = λ k d lt. clause_true cnf m steps values k d lt range (unbroken k d lt) }
