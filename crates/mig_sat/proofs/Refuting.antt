-- Choices that none of M follows are turned.
use Rattle.std.proofs.Common.{◌≡◌, ℕ, Bool, false, List, [], ◌∷◌, Some, None, sym, ◌∙◌, subst, inl, inr}
use Rattle.std.proofs.lemmas.Bool.{cases_Bool, false≢true}
use Rattle.std.proofs.lemmas.Option.{same_Some, none-some}
use Rattle.mig_sat.specs.declared.steps.Step.{Step}
use Rattle.mig_sat.specs.Models.{value_of}
use Rattle.mig_sat.specs.Steps.{IsRight, IsRightStep, IsRefuted, turned, turned_back}
use Rattle.mig_sat.specs.Found.{IsUnfollowed}
use Rattle.mig_sat.proofs.Following.{follows_all, other_value}

-- where none follows all steps, none follows the choices
pub refuted : (n : ℕ) (M : List Bool → Type 0) (steps : List Step) → IsRight n M steps → IsUnfollowed M steps → IsRefuted M steps
refuted n M steps r h = λ m is f. h m is (follows_all n M m steps r is f)

-- a step that is no choice can go from refuted steps
pub refuted_older : (M : List Bool → Type 0) (s : Step) (older : List Step) → s.chosen ≡ false → IsRefuted M (s ∷ older) → IsRefuted M older
refuted_older M s older forced h = λ m is f. h m is ((λ chosen. absurd (false≢true (sym forced ∙ chosen))), f)

-- the turned step is right where the refuted choice stood
pub right_turned : (n : ℕ) (M : List Bool → Type 0) (s : Step) (older : List Step) → IsRightStep n M s older → IsRefuted M (s ∷ older) → IsRightStep n M (turned s) older
right_turned n M s older r h = record {
  in_range = r.in_range;
  fresh = r.fresh;
  chosen = λ e. absurd (false≢true e);
  follows = λ e m is f. other_value (value_of m s.lit.var) s.lit.positive (λ held. h m is ((λ chosen. held), f));
}

-- refuted steps with the newest choice turned are right
pub right_turned_back : (n : ℕ) (M : List Bool → Type 0) (steps new : List Step) → IsRight n M steps → IsRefuted M steps → turned_back steps ≡ Some new → IsRight n M new
right_turned_back n M [] new r h e = absurd (none-some new e)
right_turned_back n M (s ∷ older) new r h e = elim (cases_Bool s.chosen) [
  | inl chosen ↦ subst (IsRight n M) (same_Some (turned s ∷ older) new (rw chosen at e)) (right_turned n M s older r.0 h, r.1)
  | inr forced ↦ right_turned_back n M older new r.1 (refuted_older M s older forced h) (rw forced at e)
]

-- refuted steps without a choice: there is none of M
pub none_left : (M : List Bool → Type 0) (steps : List Step) → IsRefuted M steps → turned_back steps ≡ None → ((m : List Bool) → M m → ⊥)
none_left M [] h e = λ m is. h m is tt
none_left M (s ∷ older) h e = elim (cases_Bool s.chosen) [
  | inl chosen ↦ absurd (none-some (turned s ∷ older) (sym (rw chosen at e)))
  | inr forced ↦ none_left M older (refuted_older M s older forced h) (rw forced at e)
]
