-- What a clause that said nothing says under one more step: still nothing, or it holds the opposite of the step's literal.
use Rattle.std.proofs.Common.{◌≡◌, ℕ, ◌+◌, ◌*◌, ◌<◌, ◌⊎◌, Bool, true, false, not, if◌then◌else◌, List, ◌∷◌, length, get_or, Option, Some, None, refl, ap, sym, ◌∙◌, subst, inl, inr, arith, Any}
use Rattle.std.specs.Prelude.{slice_get}
use Rattle.std.proofs.lemmas.Bool.{cases_eq, eq-eqb, ne_eqb}
use Rattle.std.proofs.lemmas.List.{get_or_default}
use Rattle.std.proofs.lemmas.Option.{slice_get_within}
use Rattle.mig_sat.specs.declared.clauses.SatLit.{SatLit}
use Rattle.mig_sat.specs.declared.steps.Step.{Step}
use Rattle.mig_sat.specs.Steps.{value_at}
use Rattle.mig_sat.specs.Saying.{IsTrueLit, IsFreeLit, HasTwoFree, IsOpen, IsSilent}
use Rattle.mig_sat.specs.Agendas.{list_number, list_at, IsListed, IsListedFor, ListsFirst}
use Rattle.mig_sat.proofs.Firsts.{older_value}
use Rattle.mig_sat.proofs.Places.{list_newest}

-- two signs agree or are opposite
pub cases_sign : (a b : Bool) → (a ≡ b) ⊎ (a ≡ not b)
cases_sign true true = inl refl
cases_sign true false = inr refl
cases_sign false true = inr refl
cases_sign false false = inl refl

-- a literal of a variable in range has a list
pub number_within : (b : Bool) (v n : ℕ) → v < n → (if b then 1 + 2 * v + 1 else 1 + 2 * v) < 1 + 2 * n
number_within true v n lt = omega (arith, lt)
number_within false v n lt = omega (arith, lt)

-- the literal at a place is true
pub any_true : (steps : List Step) (clause : List SatLit) (k : ℕ) (d : SatLit) → k < length clause → IsTrueLit steps (get_or clause k d) → Any (IsTrueLit steps) clause
any_true steps clause k d lt is = (k, get_or clause k d, lt, get_or_default clause k (get_or clause k d) d lt, is)

-- the literal is the opposite of the step's
abbrev pub IsOpposite : Step → SatLit → Type 0
IsOpposite s l = (l.var ≡ s.lit.var) × (l.positive ≡ not s.lit.positive)

-- a literal without a value stays so under one more step, becomes true, or is the opposite of the step's
pub literal_next : (s : Step) (older : List Step) (l : SatLit) → IsFreeLit older l → IsFreeLit (s ∷ older) l ⊎ (IsTrueLit (s ∷ older) l ⊎ IsOpposite s l)
literal_next s older l free = elim (cases_eq l.var s.lit.var) [
  | inl same ↦ elim (cases_sign l.positive s.lit.positive) [
    | inl agrees ↦ inr (inl (rw (eq-eqb l.var s.lit.var same) (ap Some (sym agrees))))
    | inr differs ↦ inr (inr (same, differs))
  ]
  | inr ne ↦ inl (rw (ne_eqb l.var s.lit.var ne) free)
]

-- a clause with the opposite of the step's literal stands in the list that the step queues
pub opposite_listed : (vars : ℕ) (lists : List (List ℕ)) (s : Step) (older : List Step) (n : ℕ) (l : SatLit) → length lists ≡ 1 + 2 * vars → s.lit.var < vars → (list_number l < length lists → IsListed lists (list_number l) n) → IsOpposite s l → IsListed lists (list_at (s ∷ older) (length (s ∷ older))) n
opposite_listed vars lists s older n l count range listed is =
    let lit : SatLit = record { var = s.lit.var; positive = not s.lit.positive } in
    let same : list_number l ≡ list_number lit = rw (is.0, is.1) refl in
    let within : list_number lit < length lists = rw count (number_within (not s.lit.positive) s.lit.var vars range) in
    subst (λ (k : ℕ). IsListed lists k n) (same ∙ sym (list_newest s older)) (listed (subst (λ (k : ℕ). k < length lists) (sym same) within))

-- a literal that has become true, or is the opposite of the step's
pub moved_next : (vars : ℕ) (lists : List (List ℕ)) (s : Step) (older : List Step) (n : ℕ) (clause : List SatLit) (k : ℕ) (d : SatLit) → length lists ≡ 1 + 2 * vars → s.lit.var < vars → IsListedFor lists clause n → k < length clause → IsTrueLit (s ∷ older) (get_or clause k d) ⊎ IsOpposite s (get_or clause k d) → IsOpen (s ∷ older) clause ⊎ IsListed lists (list_at (s ∷ older) (length (s ∷ older))) n
moved_next vars lists s older n clause k d count range listed lt moved = elim moved [
  | inl is ↦ inl (inl (any_true (s ∷ older) clause k d lt is))
  | inr is ↦ inr (opposite_listed vars lists s older n (get_or clause k d) count range (listed k d lt) is)
]

-- a clause with two literals without a value
pub two_next : (vars : ℕ) (lists : List (List ℕ)) (s : Step) (older : List Step) (n : ℕ) (clause : List SatLit) → length lists ≡ 1 + 2 * vars → s.lit.var < vars → IsListedFor lists clause n → HasTwoFree older clause → IsOpen (s ∷ older) clause ⊎ IsListed lists (list_at (s ∷ older) (length (s ∷ older))) n
two_next vars lists s older n clause count range listed two =
    let d : SatLit = record { var = 0; positive = false } in
    let second = two.within in
    let order = two.order in
    let first : two.first < length clause = omega (arith, second, order) in
    elim (literal_next s older (get_or clause two.first d) (two.first_free d)) [
      | inr moved ↦ moved_next vars lists s older n clause two.first d count range listed first moved
      | inl free ↦ elim (literal_next s older (get_or clause two.second d) (two.second_free d)) [
        | inr moved ↦ moved_next vars lists s older n clause two.second d count range listed second moved
        | inl also ↦ inl (inr (record {
          first = two.first;
          second = two.second;
          order = order;
          within = second;
          first_free = λ e. subst (IsFreeLit (s ∷ older)) (get_or_default clause two.first d e first) free;
          second_free = λ e. subst (IsFreeLit (s ∷ older)) (get_or_default clause two.second d e second) also;
        }))
      ]
    ]

-- a clause that said nothing
pub open_next : (vars : ℕ) (lists : List (List ℕ)) (s : Step) (older : List Step) (n : ℕ) (clause : List SatLit) → length lists ≡ 1 + 2 * vars → s.lit.var < vars → value_at s.lit.var older ≡ None → IsListedFor lists clause n → IsOpen older clause → IsOpen (s ∷ older) clause ⊎ IsListed lists (list_at (s ∷ older) (length (s ∷ older))) n
open_next vars lists s older n clause count range fresh listed is = elim is [
  | inl any ↦ inl (inl (any.0, any.1, any.2, any.3, older_value s older any.1.var any.1.positive fresh any.4))
  | inr two ↦ two_next vars lists s older n clause count range listed two
]

-- a clause that said nothing, if there is one
pub silent_at : (vars : ℕ) (lists : List (List ℕ)) (s : Step) (older : List Step) (n : ℕ) (o : Option (List SatLit)) → length lists ≡ 1 + 2 * vars → s.lit.var < vars → value_at s.lit.var older ≡ None → ((clause : List SatLit) → o ≡ Some clause → IsListedFor lists clause n) → IsSilent older o → IsSilent (s ∷ older) o ⊎ IsListed lists (list_at (s ∷ older) (length (s ∷ older))) n
silent_at vars lists s older n None count range fresh listed is = inl tt
silent_at vars lists s older n (Some clause) count range fresh listed is = open_next vars lists s older n clause count range fresh (listed clause refl) is

-- so of the clause of a number
pub silent_next : (vars : ℕ) (clauses : List (List SatLit)) (lists : List (List ℕ)) (s : Step) (older : List Step) (n : ℕ) → length lists ≡ 1 + 2 * vars → s.lit.var < vars → value_at s.lit.var older ≡ None → ListsFirst (length clauses) clauses lists → IsSilent older (slice_get clauses n) → IsSilent (s ∷ older) (slice_get clauses n) ⊎ IsListed lists (list_at (s ∷ older) (length (s ∷ older))) n
silent_next vars clauses lists s older n count range fresh first is = silent_at vars lists s older n (slice_get clauses n) count range fresh (λ clause e. first.each n clause (slice_get_within clauses n clause e) e) is
