-- What is done about what was found keeps the steps right, and leaves less to do.
use Rattle.std.proofs.Common.{◌≡◌, ℕ, ◌<◌, ◌≤◌, Bool, List, [], ◌∷◌, length, Some, None, refl, sym, subst, arith}
use Rattle.std.proofs.lemmas.Bool.{false≢true, true≢false}
use Rattle.std.proofs.lemmas.Option.{same_Some, none-some}
use Rattle.mig_sat.specs.declared.clauses.SatLit.{SatLit}
use Rattle.mig_sat.specs.declared.steps.Step.{Step}
use Rattle.mig_sat.specs.declared.steps.Found.{Found}
use Rattle.mig_sat.specs.declared.steps.Found.TheVariants.{Conflict, Forced, Free, Full}
use Rattle.mig_sat.specs.Steps.{IsRight, IsRightStep, IsRefuted}
use Rattle.mig_sat.specs.Found.{IsFound, IsPossible, advanced, forced, choice}
use Rattle.mig_sat.proofs.Following.{follows_all}
use Rattle.mig_sat.proofs.Refuting.{refuted, right_turned_back, none_left}
use Rattle.mig_sat.proofs.Measure.{work, work-push, work-turned}

-- what is found can be done
pub possible : (clauses : List (List SatLit)) (n : ℕ) (M : List Bool → Type 0) (steps : List Step) (found : Found) → IsFound clauses n M steps found → IsPossible n steps found
possible clauses n M steps Conflict f = tt
possible clauses n M steps (Forced l) f = (f.0, f.1)
possible clauses n M steps (Free v) f = (f.0, f.1)
possible clauses n M steps Full f = tt

-- a literal that holds in each of M that follows all steps is right as a step
pub right_forced : (n : ℕ) (M : List Bool → Type 0) (steps : List Step) (l : SatLit) → IsRight n M steps → l.var < n → IsFound [] n M steps (Forced l) → IsRightStep n M (forced l) steps
right_forced n M steps l r lt f = record {
  in_range = f.0;
  fresh = f.1;
  chosen = λ e. absurd (false≢true e);
  follows = λ e m is follows. f.2 m is (follows_all n M m steps r is follows);
}

-- the least free variable is right as a choice
pub right_choice : (n : ℕ) (M : List Bool → Type 0) (steps : List Step) (v : ℕ) → IsFound [] n M steps (Free v) → IsRightStep n M (choice v) steps
right_choice n M steps v f = record {
  in_range = f.0;
  fresh = f.1;
  chosen = λ e. (refl, f.2);
  follows = λ e. absurd (true≢false e);
}

-- Steps stay right. Full steps must have been refuted.
pub right_advanced : (clauses : List (List SatLit)) (n : ℕ) (M : List Bool → Type 0) (steps new : List Step) (found : Found) → IsRight n M steps → IsFound clauses n M steps found → (found ≡ Full → IsRefuted M steps) → advanced found steps ≡ Some new → IsRight n M new
right_advanced clauses n M steps new Conflict r f full e = right_turned_back n M steps new r (refuted n M steps r f) e
right_advanced clauses n M steps new (Forced l) r f full e = subst (IsRight n M) (same_Some (forced l ∷ steps) new e) (right_forced n M steps l r f.0 f, r)
right_advanced clauses n M steps new (Free v) r f full e = subst (IsRight n M) (same_Some (choice v ∷ steps) new e) (right_choice n M steps v f, r)
right_advanced clauses n M steps new Full r f full e = right_turned_back n M steps new r (full refl) e

-- where nothing can be done there is none of M
pub none_advanced : (clauses : List (List SatLit)) (n : ℕ) (M : List Bool → Type 0) (steps : List Step) (found : Found) → IsRight n M steps → IsFound clauses n M steps found → (found ≡ Full → IsRefuted M steps) → advanced found steps ≡ None → (m : List Bool) → M m → ⊥
none_advanced clauses n M steps Conflict r f full e = none_left M steps (refuted n M steps r f) e
none_advanced clauses n M steps (Forced l) r f full e = absurd (none-some (forced l ∷ steps) (sym e))
none_advanced clauses n M steps (Free v) r f full e = absurd (none-some (choice v ∷ steps) (sym e))
none_advanced clauses n M steps Full r f full e = none_left M steps (full refl) e

-- one more step leaves less to do
pub work-more : (n : ℕ) (s : Step) (steps new : List Step) → s ∷ steps ≡ new → length new ≤ n → work n new < work n steps
work-more n s steps new e room =
    let room' : length (s ∷ steps) ≤ n = subst (λ (t : List Step). length t ≤ n) (sym e) room in
    subst (λ (t : List Step). work n t < work n steps) e (work-push n s steps (omega (arith, room')))

-- whatever is done leaves less to do
pub work-advanced : (n : ℕ) (steps new : List Step) (found : Found) → length steps ≤ n → length new ≤ n → advanced found steps ≡ Some new → work n new < work n steps
work-advanced n steps new Conflict room room' e = (work-turned n steps new room e).1
work-advanced n steps new (Forced l) room room' e = work-more n (forced l) steps new (same_Some (forced l ∷ steps) new e) room'
work-advanced n steps new (Free v) room room' e = work-more n (choice v) steps new (same_Some (choice v ∷ steps) new e) room'
work-advanced n steps new Full room room' e = (work-turned n steps new room e).1
