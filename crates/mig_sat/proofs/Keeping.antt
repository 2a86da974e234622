-- A trail keeps its values where it grows and where it shrinks.
use Rattle.std.proofs.Common.{◌≡◌, ℕ, ◌+◌, ◌<◌, ◌≤◌, Bool, cond, List, [], ◌∷◌, length, get_or, set, Option, Some, None, is_none, refl, ap, sym, ◌∙◌, arith, reverse, inl, inr, replicate, count_by, All, suc, zero}
use Rattle.std.proofs.lemmas.List.{get_or-replicate, length-replicate, get_or-set_same, get_or-set_other, length-set, reverse-reverse}
use Rattle.std.proofs.lemmas.List.Sums.{sum_by-set, get_or-le-sum_by}
use Rattle.std.proofs.lemmas.List.Folds.{sum_by-replicate}
use Rattle.std.proofs.lemmas.Bool.{cases_eq, eq-eqb, ne_eqb}
use Rattle.mig_sat.specs.declared.steps.Step.{Step}
use Rattle.std.specs.Prelude.{option_map, slice_get}
use Rattle.mig_sat.specs.Steps.{value_at, lit_at}
use Rattle.mig_sat.specs.TrailInside.{Keeps}

abbrev free_at : Option Bool → ℕ
free_at o = cond (is_none o) 1 0

-- with no step each variable is free
pub Keeps-none : (n : ℕ) → Keeps (replicate n None) []
Keeps-none n = record {
  values_are = λ v d h. get_or-replicate n v None d (rw length-replicate at h);
  fresh = tt;
  in_range = λ k d h. absurd (omega arith);
  room = rw (sum_by-replicate free_at n None, length-replicate) (omega arith);
}

-- a variable with no value has room for one more step
pub room_for : (values : List (Option Bool)) (steps : List Step) (v : ℕ) → Keeps values steps → v < length values → value_at v steps ≡ None → length steps < length values
room_for values steps v k h free =
    let is : get_or values v None ≡ None = k.values_are v None h ∙ free in
    let le : free_at (get_or values v None) ≤ count_by is_none values = get_or-le-sum_by free_at values v None h in
    let one : 1 ≤ count_by is_none values = rw is at le in
    omega (arith, k.room)

push_value : (values : List (Option Bool)) (steps : List Step) (s : Step) → Keeps values steps → s.lit.var < length values → (v : ℕ) (d : Option Bool) → v < length values → get_or (set values s.lit.var (Some s.lit.positive)) v d ≡ value_at v (s ∷ steps)
push_value values steps s k h v d lt = elim (cases_eq v s.lit.var) [
  | inl e ↦ rw (e, get_or-set_same values s.lit.var (Some s.lit.positive) d h, eq-eqb s.lit.var s.lit.var refl) refl
  | inr ne ↦ rw (get_or-set_other values s.lit.var v (Some s.lit.positive) d ne, ne_eqb v s.lit.var ne) (k.values_are v d lt)
]

push_range : (values : List (Option Bool)) (steps : List Step) (s : Step) → Keeps values steps → s.lit.var < length values → All (λ (t : Step). t.lit.var < length (set values s.lit.var (Some s.lit.positive))) (s ∷ steps)
push_range values steps s k h zero d lt = rw length-set h
push_range values steps s k h (suc i) d lt = rw length-set (k.in_range i d (omega arith))

-- one more step
pub Keeps-push : (values : List (Option Bool)) (steps : List Step) (s : Step) → Keeps values steps → s.lit.var < length values → value_at s.lit.var steps ≡ None → Keeps (set values s.lit.var (Some s.lit.positive)) (s ∷ steps)
Keeps-push values steps s k h free = record {
  values_are = λ v d lt. push_value values steps s k h v d (rw length-set at lt);
  fresh = (free, k.fresh);
  in_range = push_range values steps s k h;
  room =
      let is : get_or values s.lit.var None ≡ None = k.values_are s.lit.var None h ∙ free in
      let change = sum_by-set free_at values s.lit.var (Some s.lit.positive) None h in
      let change' : count_by is_none (set values s.lit.var (Some s.lit.positive)) + 1 ≡ count_by is_none values + 0 = rw is at change in
      rw length-set (omega (arith, k.room, change'));
}

pop_value : (values : List (Option Bool)) (steps : List Step) (s : Step) → Keeps values (s ∷ steps) → s.lit.var < length values → (v : ℕ) (d : Option Bool) → v < length values → get_or (set values s.lit.var None) v d ≡ value_at v steps
pop_value values steps s k h v d lt = elim (cases_eq v s.lit.var) [
  | inl e ↦ rw (e, get_or-set_same values s.lit.var None d h) (sym k.fresh.0)
  | inr ne ↦ rw (get_or-set_other values s.lit.var v None d ne) (k.values_are v d lt ∙ rw (ne_eqb v s.lit.var ne) refl)
]

-- the newest step goes
pub Keeps-pop : (values : List (Option Bool)) (steps : List Step) (s : Step) → Keeps values (s ∷ steps) → Keeps (set values s.lit.var None) steps
Keeps-pop values steps s k =
    let h : s.lit.var < length values = k.in_range 0 s (omega arith) in
    record {
      values_are = λ v d lt. pop_value values steps s k h v d (rw length-set at lt);
      fresh = k.fresh.1;
      in_range = λ i d lt. rw length-set (k.in_range (suc i) d (omega arith));
      room =
          let is : get_or values s.lit.var None ≡ Some s.lit.positive = k.values_are s.lit.var None h ∙ rw (eq-eqb s.lit.var s.lit.var refl) refl in
          let change = sum_by-set free_at values s.lit.var None None h in
          let change' : count_by is_none (set values s.lit.var None) + 0 ≡ count_by is_none values + 1 = rw is at change in
          rw length-set (omega (arith, k.room, change'));
    }

-- the literal of a step, counted from the oldest
pub lit_kept : (items : List Step) (k : ℕ) → option_map (λ (s : Step). s.lit) (slice_get items k) ≡ lit_at (reverse items) k
lit_kept items k = ap (λ xs. option_map (λ (s : Step). s.lit) (slice_get xs k)) (sym (reverse-reverse items))
