-- One more step: which list it queues, and which literals get a value.
use Rattle.std.proofs.Common.{◌≡◌, ℕ, ◌-◌, ◌<◌, ◌≤◌, ◌++◌, not, List, [], ◌∷◌, length, reverse, get_or, Some, refl, ap, sym, ◌∙◌, subst, inl, inr, arith, suc, zero}
use Rattle.std.specs.Prelude.{slice_get, option_map}
use Rattle.std.proofs.lemmas.Bool.{cases_lt, ne_eqb}
use Rattle.std.proofs.lemmas.List.{length-reverse}
use Rattle.std.proofs.lemmas.Grind.{reverse_onto}
use Rattle.mig_sat.specs.declared.steps.Step.{Step}
use Rattle.mig_sat.specs.declared.agenda.Agenda.{Agenda}
use Rattle.mig_sat.specs.Steps.{lit_at}
use Rattle.mig_sat.specs.Agendas.{list_number, opposite_list, list_at, IsPending}
use Rattle.mig_sat.proofs.Growing.{got_last}

-- what stands in a list stands in a longer one too
pub got_within : {X : Type 0} (xs ys : List X) (i : ℕ) → i < length xs → slice_get (xs ++ ys) i ≡ slice_get xs i
got_within [] ys i lt = absurd (omega (arith, lt))
got_within (x ∷ xs) ys zero lt = refl
got_within (x ∷ xs) ys (suc i) lt = got_within xs ys i (omega (arith, lt))

-- the older steps keep their places
pub lit_older : (s : Step) (older : List Step) (k : ℕ) → k < length older → lit_at (s ∷ older) k ≡ lit_at older k
lit_older s older k lt = ap (λ o. option_map (λ (t : Step). t.lit) o) (ap (λ xs. slice_get xs k) (reverse_onto older s []) ∙ got_within (reverse older) (s ∷ []) k (rw length-reverse lt))

-- the newest step is the last
pub lit_newest : (s : Step) (older : List Step) → lit_at (s ∷ older) (length older) ≡ Some s.lit
lit_newest s older =
    ap (λ o. option_map (λ (t : Step). t.lit) o) (ap (λ xs. slice_get xs (length older)) (reverse_onto older s []) ∙ (ap (slice_get (reverse older ++ s ∷ [])) (sym (length-reverse older)) ∙ got_last (reverse older) s))

-- a place behind the first has the list of a step
pub list_behind : (steps : List Step) (place : ℕ) → 0 < place → list_at steps place ≡ opposite_list (lit_at steps (place - 1))
list_behind steps place lt =
    let ne : place ≡ 0 → ⊥ = λ e. omega (arith, lt, e) in
    rw (ne_eqb place 0 ne) refl

-- the places of the queue up to the older steps keep their lists
pub list_older : (s : Step) (older : List Step) (place : ℕ) → place ≤ length older → list_at (s ∷ older) place ≡ list_at older place
list_older s older place le = elim (cases_lt 0 place) [
  | inl behind ↦ list_behind (s ∷ older) place behind ∙ (ap opposite_list (lit_older s older (place - 1) (omega (arith, le, behind))) ∙ sym (list_behind older place behind))
  | inr first ↦ let zero : place ≡ 0 = omega (arith, first) in rw zero refl
]

-- the newest step queues the list of the opposite literal
pub list_newest : (s : Step) (older : List Step) → list_at (s ∷ older) (length (s ∷ older)) ≡ list_number (record { var = s.lit.var; positive = not s.lit.positive })
list_newest s older =
    let last : length (s ∷ older) - 1 ≡ length older = omega arith in
    list_behind (s ∷ older) (length (s ∷ older)) (omega arith) ∙ ap opposite_list (ap (lit_at (s ∷ older)) last ∙ lit_newest s older)

-- what is still to be looked at stays so under one more step
pub pending_more : (a : Agenda) (s : Step) (older : List Step) (n : ℕ) → IsPending a older n → IsPending a (s ∷ older) n
pending_more a s older n is = record {
  place = is.place;
  index = is.index;
  within = let within = is.within in omega (arith, within);
  later = is.later;
  here = subst (λ list. slice_get (get_or a.lists.items list []) is.index ≡ Some n) (sym (list_older s older is.place is.within)) is.here;
}
