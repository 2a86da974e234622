-- What is held, and the models that are heavier.
use Rattle.std.proofs.Common.{◌≡◌, ℕ, ◌<◌, ◌≤ℤ◌, ◌<ℤ◌, ℤ, Bool, List, [], ◌∷◌, length, Option, Some, None, refl, ap, sym, ◌∙◌, subst, inl, inr, arith, suc}
use Rattle.std.specs.Prelude.{IfSome, IfNone}
use Rattle.std.proofs.lemmas.Int.{ints, by_lt_z}
use Rattle.mig_sat.specs.declared.clauses.Model.{Model}
use Rattle.mig_sat.specs.declared.steps.Step.{Step}
use Rattle.mig_sat.specs.declared.steps.Found.TheVariants.{Full}
use Rattle.mig_sat.specs.Models.{IsModel, IsBefore, value_of}
use Rattle.mig_sat.specs.Steps.{IsRight, IsRefuted, value_at}
use Rattle.mig_sat.specs.Found.{IsFound}
use Rattle.mig_sat.proofs.Following.{value_followed, follows_all, is_model}
use Rattle.mig_sat.proofs.Firsts.{first_of}
use Rattle.mig_sat.proofs.Fewer.{right_fewer}
use Rattle.mig_maxsat.specs.declared.weighted.Weighted.{Weighted}
use Rattle.mig_maxsat.specs.declared.keeping.Held.{Held}
use Rattle.mig_maxsat.specs.Heaviest.{weight, IsHeaviest, IsSound}
use Rattle.mig_maxsat.specs.Rivals.{IsAbove, IsFloor, IsRival, IsFoundAbove, IsHeld, IsBetter, IsSettled}
use Rattle.mig_maxsat.proofs.Weights.{weight_small}

-- with equal values at all places
pub same_values : (xs ys : List Bool) → length xs ≡ length ys → ((v : ℕ) → v < length ys → value_of xs v ≡ value_of ys v) → xs ≡ ys
same_values [] [] e h = refl
same_values [] (y ∷ ys) e h = absurd (omega (arith, e))
same_values (x ∷ xs) [] e h = absurd (omega (arith, e))
same_values (x ∷ xs) (y ∷ ys) e h = ap (λ b. b ∷ xs) (h 0 (omega arith)) ∙ ap (λ t. y ∷ t) (same_values xs ys (omega (arith, e)) (λ v lt. h (suc v) (omega (arith, lt))))

-- what is no less than a number above the floor is above it
pub above_on : (floor : Option ℤ) (w x : ℤ) → IsAbove floor w → w ≤ℤ x → IsAbove floor x
above_on None w x above le = tt
above_on (Some k) w x above le = omega (arith, ints, above, le)

-- no number is above itself
pub not_above_itself : (w : ℤ) → w <ℤ w → ⊥
not_above_itself w lt = omega (arith, ints, lt)

-- what is more is no less
pub no_less : (w x : ℤ) → w <ℤ x → w ≤ℤ x
no_less w x lt = omega (arith, ints, lt)

-- a model above the next floor is above the one before
pub rival_before : (p : Weighted) (old : Held) (model : Model) (new : Held) → IsBetter p.weights old model new → (o : List Bool) → IsRival p new.floor o → IsRival p old.floor o
rival_before p old model new b o is = elim b [
  | inl a ↦ record {
    model = is.model;
    above = above_on old.floor (weight p.weights model.values) (weight p.weights o) a.0 (no_less (weight p.weights model.values) (weight p.weights o) (subst (λ (h : Held). IsAbove h.floor (weight p.weights o)) a.1 is.above));
  }
  | inr a ↦ subst (λ (h : Held). IsRival p h.floor o) a.1 is
]

-- where each variable has its value only the model follows the steps, and it is not above the next floor
pub full_refuted : (p : Weighted) (old : Held) (model : Model) (new : Held) (steps : List Step) → IsBetter p.weights old model new → IsRight p.hard.vars (IsRival p new.floor) steps → length model.values ≡ p.hard.vars → ((v : ℕ) → v < p.hard.vars → value_at v steps ≡ Some (value_of model.values v)) → IsRefuted (IsRival p new.floor) steps
full_refuted p old model new steps b right size values = λ o is f.
    let follows = follows_all p.hard.vars (IsRival p new.floor) o steps right is f in
    let same : o ≡ model.values = same_values o model.values (is.model.sized ∙ sym size) (λ v lt. value_followed o steps v (value_of model.values v) follows (values v (subst (λ k. v < k) size lt))) in
    let above : IsAbove new.floor (weight p.weights model.values) = subst (λ (m : List Bool). IsAbove new.floor (weight p.weights m)) same is.above in
    elim b [
      | inl a ↦ not_above_itself (weight p.weights model.values) (subst (λ (h : Held). IsAbove h.floor (weight p.weights model.values)) a.1 above)
      | inr a ↦ a.0 (subst (λ (h : Held). IsAbove h.floor (weight p.weights model.values)) a.1 above)
    ]

-- the model is held, and none that weighs as much comes before it; or what was held still is
pub better_held : (p : Weighted) (old : Held) (model : Model) (new : Held) → IsBetter p.weights old model new → IsModel p.hard model.values → ((o : List Bool) → IsRival p old.floor o → IsBefore o model.values → ⊥) → (start : Option ℤ) → IsHeld p start old → IsHeld p start new
better_held p old model new b is first start was = elim b [
  | inl a ↦ subst (IsHeld p start) (sym a.1) (
    refl,
    is,
    λ o io le before. first o (record { model = io; above = above_on old.floor (weight p.weights model.values) (weight p.weights o) a.0 le }) before,
  )
  | inr a ↦ subst (IsHeld p start) (sym a.1) was
]

-- whole steps are settled by the better of their model and what was held
pub full_settled : (p : Weighted) (old : Held) (model : Model) (new : Held) (steps : List Step) → IsSound p → IsBetter p.weights old model new → IsRight p.hard.vars (IsRival p old.floor) steps → IsFound p.hard.clauses p.hard.vars (IsRival p old.floor) steps Full → length model.values ≡ p.hard.vars → ((v : ℕ) → v < p.hard.vars → value_at v steps ≡ Some (value_of model.values v)) → IsSettled p old new steps Full
full_settled p old model new steps sound b right seen size values =
    let is : IsModel p.hard model.values = is_model p.hard model.values steps sound.range size values seen.1 in
    let first = first_of p.hard.vars (IsRival p old.floor) model.values steps right size (λ o rival. rival.model.sized) values in
    let right' = right_fewer p.hard.vars (IsRival p old.floor) (IsRival p new.floor) (rival_before p old model new b) steps right in
    record {
      right = right';
      so = seen;
      full = λ e. full_refuted p old model new steps b right' size values;
      kept = better_held p old model new b is first;
    }

-- the floor stays in size
pub held_floor : (p : Weighted) (start floor : Option ℤ) (model : Option Model) → IsSound p → IsFloor start → IsFoundAbove p start floor model → IsFloor floor
held_floor p start floor None sound small was = subst IsFloor (sym was) small
held_floor p start floor (Some b) sound small was =
    let weighs = weight_small p.weights b.values in
    let fits = sound.fits in
    subst IsFloor (sym was.0) (omega (arith, weighs, fits))

-- the answer, where nothing is above the floor
pub answer_some : (p : Weighted) (start floor : Option ℤ) (model : Option Model) → IsFoundAbove p start floor model → ((m : List Bool) → IsRival p floor m → ⊥) → IfSome model (λ m. IsHeaviest p m.values)
answer_some p start floor None was none = tt
answer_some p start floor (Some b) was none = record {
  model = was.1;
  heaviest = λ o io. by_lt_z {P = weight p.weights o ≤ℤ weight p.weights b.values} (weight p.weights b.values) (weight p.weights o) (λ lt. absurd (none o (record { model = io; above = subst (λ (k : Option ℤ). IsAbove k (weight p.weights o)) (sym was.0) lt }))) (λ le. le);
  first = λ o io e before. was.2 o io (omega (arith, ints, e)) before;
}

-- the answer, where nothing was found
pub answer_none : (p : Weighted) (start floor : Option ℤ) (model : Option Model) → IsFoundAbove p start floor model → ((m : List Bool) → IsRival p floor m → ⊥) → IfNone model ((m : List Bool) → IsRival p start m → ⊥)
answer_none p start floor None was none = subst (λ (k : Option ℤ). (m : List Bool) → IsRival p k m → ⊥) was none
answer_none p start floor (Some b) was none = tt
