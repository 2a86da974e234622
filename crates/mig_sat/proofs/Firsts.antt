-- Where each variable has a value, the values come before all others of M.
use Rattle.std.proofs.Common.{◌≡◌, ℕ, ◌<◌, Bool, false, List, [], ◌∷◌, length, Some, None, refl, ap, sym, ◌∙◌, inl, inr, All, Any}
use Rattle.std.proofs.lemmas.Bool.{cases_eq, eq-eqb, ne_eqb, cases_Bool, cases_order, cases_lt, false≢true}
use Rattle.std.proofs.lemmas.List.{get_or_past}
use Rattle.std.proofs.lemmas.Option.{same_Some, none-some}
use Rattle.mig_sat.specs.declared.steps.Step.{Step}
use Rattle.mig_sat.specs.declared.clauses.Cnf.{Cnf}
use Rattle.mig_sat.specs.Models.{value_of, IsBefore, IsModel, IsFirstModel, IsInRange}
use Rattle.mig_sat.specs.Steps.{value_at, FollowsAll, FollowsChoices, IsRight, IsNotFalse}
use Rattle.mig_sat.proofs.Following.{is_model}

-- only a variable in range has a value
pub value_in_range : (n : ℕ) (M : List Bool → Type 0) (steps : List Step) (v : ℕ) (b : Bool) → IsRight n M steps → value_at v steps ≡ Some b → v < n
value_in_range n M [] v b r e = absurd (none-some b e)
value_in_range n M (s ∷ older) v b r e = elim (cases_eq v s.lit.var) [
  | inl same ↦ rw same r.0.in_range
  | inr ne ↦ value_in_range n M older v b r.1 (rw (ne_eqb v s.lit.var ne) at e)
]

-- the value of an older step stands under a newer one
pub older_value : (s : Step) (older : List Step) (v : ℕ) (b : Bool) → value_at s.lit.var older ≡ None → value_at v older ≡ Some b → value_at v (s ∷ older) ≡ Some b
older_value s older v b fresh e = elim (cases_eq v s.lit.var) [
  | inl same ↦ absurd (none-some b (sym fresh ∙ rw same at e))
  | inr ne ↦ rw (ne_eqb v s.lit.var ne) e
]

-- an assignment with the values of the steps follows them
pub follows_from_values : (n : ℕ) (M : List Bool → Type 0) (m : List Bool) (steps : List Step) → IsRight n M steps → ((v : ℕ) (b : Bool) → value_at v steps ≡ Some b → value_of m v ≡ b) → FollowsAll m steps
follows_from_values n M m [] r h = tt
follows_from_values n M m (s ∷ older) r h = (
  h s.lit.var s.lit.positive (rw (eq-eqb s.lit.var s.lit.var refl) refl),
  follows_from_values n M m older r.1 (λ v b e. h v b (older_value s older v b r.0.fresh e)),
)

-- Where the steps give v no value, each choice is of a lesser variable. So an assignment that agrees below v follows the choices.
pub choices_below : (n : ℕ) (M : List Bool → Type 0) (m other : List Bool) (v : ℕ) (steps : List Step) → IsRight n M steps → value_at v steps ≡ None → FollowsAll m steps → ((w : ℕ) → w < v → value_of other w ≡ value_of m w) → FollowsChoices other steps
choices_below n M m other v [] r free f same = tt
choices_below n M m other v (s ∷ older) r free f same = elim (cases_eq v s.lit.var) [
  | inl eq ↦ absurd (none-some s.lit.positive (sym (rw (eq-eqb v s.lit.var eq) at free)))
  | inr ne ↦
      let free' : value_at v older ≡ None = rw (ne_eqb v s.lit.var ne) at free in (
        (λ chosen. elim (cases_order v s.lit.var) [
          | inl eq ↦ absurd (ne eq)
          | inr order ↦ elim order [
            | inl below ↦ absurd ((r.0.chosen chosen).1 v below free')
            | inr above ↦ same s.lit.var above ∙ f.0
          ]
        ]),
        choices_below n M m other v older r.1 free' f.1 same,
      )
]

-- a variable that the steps make false is false in each of M that agrees below it
pub false_there : (n : ℕ) (M : List Bool → Type 0) (m other : List Bool) (v : ℕ) (steps : List Step) → IsRight n M steps → FollowsAll m steps → M other → ((w : ℕ) → w < v → value_of other w ≡ value_of m w) → value_at v steps ≡ Some false → value_of other v ≡ false
false_there n M m other v [] r f is same e = absurd (none-some false e)
false_there n M m other v (s ∷ older) r f is same e = elim (cases_eq v s.lit.var) [
  | inl eq ↦
      let negative : s.lit.positive ≡ false = same_Some s.lit.positive false (rw (eq-eqb v s.lit.var eq) at e) in
      elim (cases_Bool s.chosen) [
        | inl chosen ↦ absurd (false≢true (sym negative ∙ (r.0.chosen chosen).0))
        | inr forced ↦
            let free : value_at v older ≡ None = rw eq r.0.fresh in
            let follows = choices_below n M m other v older r.1 free f.1 same in
            ap (value_of other) eq ∙ (r.0.follows forced other is follows ∙ negative)
      ]
  | inr ne ↦ false_there n M m other v older r.1 f.1 is same (rw (ne_eqb v s.lit.var ne) at e)
]

-- none of M comes before the values
pub first_of : (n : ℕ) (M : List Bool → Type 0) (m : List Bool) (steps : List Step) → IsRight n M steps → length m ≡ n → ((o : List Bool) → M o → length o ≡ n) → ((v : ℕ) → v < n → value_at v steps ≡ Some (value_of m v)) → (other : List Bool) → M other → IsBefore other m → ⊥
first_of n M m steps r size sized values other is before =
    let known : (v : ℕ) (b : Bool) → value_at v steps ≡ Some b → value_of m v ≡ b =
    λ v b e. same_Some (value_of m v) b (sym (values v (value_in_range n M steps v b r e)) ∙ e) in
    let follows = follows_from_values n M m steps r known in
    elim (cases_lt before.place n) [
      | inl within ↦ false≢true (sym (false_there n M m other before.place steps r follows is before.same (values before.place within ∙ ap Some before.there)) ∙ before.here)
      | inr past ↦ false≢true (sym (get_or_past other before.place false (rw (sized other is) past)) ∙ before.here)
    ]

-- where no clause is false either, the values are the first model
pub first_found : (cnf : Cnf) (m : List Bool) (steps : List Step) (n : ℕ) → n ≡ cnf.vars → IsInRange cnf → IsRight cnf.vars (IsModel cnf) steps → length m ≡ n → ((v : ℕ) → v < n → value_at v steps ≡ Some (value_of m v)) → All (Any (IsNotFalse steps)) cnf.clauses → IsFirstModel cnf m
first_found cnf m steps n e range right size values unbroken =
    let size' : length m ≡ cnf.vars = size ∙ e in
    let values' : (v : ℕ) → v < cnf.vars → value_at v steps ≡ Some (value_of m v) = λ v lt. values v (rw e lt) in
    record {
      model = is_model cnf m steps range size' values' unbroken;
      first = first_of cnf.vars (IsModel cnf) m steps right size' (λ o is. is.sized) values';
    }
