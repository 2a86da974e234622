-- Each clause is still to be looked at, or says nothing: what a search keeps of its agenda.
use Rattle.std.proofs.Common.{◌≡◌, ℕ, ◌+◌, ◌*◌, ◌<◌, ◌⊎◌, Bool, true, List, [], ◌∷◌, length, Option, Some, None, refl, ap, sym, ◌∙◌, subst, inl, inr}
use Rattle.std.specs.Prelude.{slice_get}
use Rattle.std.proofs.lemmas.Bool.{cases_Bool, cases_lt, false≢true, eq-eqb}
use Rattle.std.proofs.lemmas.Option.{same_Some, none-some, slice_get_past}
use Rattle.mig_sat.specs.declared.clauses.SatLit.{SatLit}
use Rattle.mig_sat.specs.declared.clauses.Cnf.{Cnf}
use Rattle.mig_sat.specs.declared.steps.Step.{Step}
use Rattle.mig_sat.specs.declared.steps.Found.{Found}
use Rattle.mig_sat.specs.declared.steps.Found.TheVariants.{Conflict, Forced, Free, Full}
use Rattle.mig_sat.specs.declared.agenda.Agenda.{Agenda}
use Rattle.mig_sat.specs.Steps.{IsRight, turned, turned_back}
use Rattle.mig_sat.specs.Found.{advanced, forced, choice}
use Rattle.mig_sat.specs.Saying.{IsTrueLit, IsSilent, IsSaid}
use Rattle.mig_sat.specs.Agendas.{list_at, IsListed, IsPending, IsThrough, StopsAt, IsShortened, ListsFirst}
use Rattle.mig_sat.proofs.Places.{pending_more}
use Rattle.mig_sat.proofs.Opening.{silent_next}

-- no clause says anything
abbrev pub AreAllSilent : List (List SatLit) → List Step → Type 0
AreAllSilent clauses steps = (n : ℕ) → IsSilent steps (slice_get clauses n)

-- no clause said anything where a literal was chosen
abbrev pub IsCalm : List (List SatLit) → List Step → Type 0
IsCalm clauses [] = Unit {0}
IsCalm clauses (s ∷ older) = (s.chosen ≡ true → AreAllSilent clauses older) × IsCalm clauses older

-- the agenda lists the clauses, each is still to be looked at or says nothing, and none said anything where a literal was chosen
pub record IsHeeded (cnf : Cnf) (a : Agenda) (steps : List Step) : Type 0 where
  pub count : length a.lists.items ≡ 1 + 2 * cnf.vars
  pub lists : ListsFirst (length cnf.clauses) cnf.clauses a.lists.items
  pub each : (n : ℕ) → IsPending a steps n ⊎ IsSilent steps (slice_get cnf.clauses n)
  pub calm : IsCalm cnf.clauses steps

-- so it is at the start
pub heeded_first : (cnf : Cnf) (a : Agenda) → length a.lists.items ≡ 1 + 2 * cnf.vars → ListsFirst (length cnf.clauses) cnf.clauses a.lists.items → ((steps : List Step) (n : ℕ) → n < length cnf.clauses → IsPending a steps n) → IsHeeded cnf a []
heeded_first cnf a count lists all = record {
  count = count;
  lists = lists;
  each = λ n. elim (cases_lt n (length cnf.clauses)) [
    | inl lt ↦ inl (all [] n lt)
    | inr past ↦ inr (subst (IsSilent []) (sym (slice_get_past cnf.clauses n past)) tt)
  ];
  calm = tt;
}

-- one more step: a clause was still to be looked at, or said nothing, or says nothing now
pub heeded_step : (cnf : Cnf) (M : List Bool → Type 0) (a new : Agenda) (k : ℕ) (s : Step) (older : List Step) → length a.lists.items ≡ 1 + 2 * cnf.vars → ListsFirst (length cnf.clauses) cnf.clauses a.lists.items → IsRight cnf.vars M (s ∷ older) → ((n : ℕ) → IsPending a older n ⊎ (IsSilent older (slice_get cnf.clauses n) ⊎ IsSilent (s ∷ older) (slice_get cnf.clauses n))) → IsCalm cnf.clauses (s ∷ older) → new.lists.items ≡ a.lists.items → length (s ∷ older) ≡ k → IsShortened a new k → IsHeeded cnf new (s ∷ older)
heeded_step cnf M a new k s older count lists right each calm same is short = record {
  count = ap length same ∙ count;
  lists = subst (ListsFirst (length cnf.clauses) cnf.clauses) (sym same) lists;
  each = λ n. elim (each n) [
    | inl pending ↦ inl ((short (s ∷ older) n is).1 (inl (pending_more a s older n pending)))
    | inr silent ↦ elim silent [
      | inr now ↦ inr now
      | inl before ↦ elim (silent_next cnf.vars cnf.clauses a.lists.items s older n count right.0.in_range right.0.fresh lists before) [
        | inl still ↦ inr still
        | inr listed ↦ inl ((short (s ∷ older) n is).1 (inr (subst (λ (p : ℕ). IsListed a.lists.items (list_at (s ∷ older) p) n) is listed)))
      ]
    ]
  ];
  calm = calm;
}

-- a clause in which only this literal is left says nothing once it is true
pub said_then : (l : SatLit) (steps : List Step) (o : Option (List SatLit)) → IsSaid steps o (Forced l) → IsSilent (forced l ∷ steps) o
said_then l steps None said = absurd said
said_then l steps (Some clause) said =
    let any = said.2 in
    inl (any.0, any.1, any.2, any.3, subst (IsTrueLit (forced l ∷ steps)) (sym any.4) (rw (eq-eqb l.var l.var refl) refl))

-- no clause says that a variable is free
pub free_unsaid : (v : ℕ) (steps : List Step) (o : Option (List SatLit)) → IsSaid steps o (Free v) → ⊥
free_unsaid v steps None said = said
free_unsaid v steps (Some clause) said = said

-- a literal that follows
pub each_forced : (cnf : Cnf) (old a : Agenda) (steps : List Step) (l : SatLit) → IsHeeded cnf old steps → IsThrough cnf.clauses old steps ⊎ StopsAt cnf.clauses old a steps (Forced l) → (n : ℕ) → IsPending a steps n ⊎ (IsSilent steps (slice_get cnf.clauses n) ⊎ IsSilent (forced l ∷ steps) (slice_get cnf.clauses n))
each_forced cnf old a steps l heeded looked n = elim (heeded.each n) [
  | inr silent ↦ inr (inl silent)
  | inl pending ↦ elim looked [
    | inl through ↦ inr (inl (through n pending))
    | inr stops ↦ elim (stops.others n pending) [
      | inl still ↦ inl still
      | inr other ↦ elim other [
        | inl silent ↦ inr (inl silent)
        | inr this ↦ inr (inr (said_then l steps (slice_get cnf.clauses n) (subst (λ (k : ℕ). IsSaid steps (slice_get cnf.clauses k) (Forced l)) (sym this) stops.said)))
      ]
    ]
  ]
]

-- where a variable is free, no clause that was still to be looked at says anything
pub through_free : (clauses : List (List SatLit)) (old a : Agenda) (steps : List Step) (v : ℕ) → IsThrough clauses old steps ⊎ StopsAt clauses old a steps (Free v) → IsThrough clauses old steps
through_free clauses old a steps v looked = elim looked [
  | inl through ↦ through
  | inr stops ↦ absurd (free_unsaid v steps (slice_get clauses stops.number) stops.said)
]

-- and so no clause says anything
pub all_silent : (cnf : Cnf) (old a : Agenda) (steps : List Step) (v : ℕ) → IsHeeded cnf old steps → IsThrough cnf.clauses old steps ⊎ StopsAt cnf.clauses old a steps (Free v) → AreAllSilent cnf.clauses steps
all_silent cnf old a steps v heeded looked n = elim (heeded.each n) [
  | inr silent ↦ silent
  | inl pending ↦ through_free cnf.clauses old a steps v looked n pending
]

-- the newest choice turned: no clause said anything under the steps before
pub heeded_turned : (cnf : Cnf) (M : List Bool → Type 0) (a new : Agenda) (k : ℕ) (steps left : List Step) → length a.lists.items ≡ 1 + 2 * cnf.vars → ListsFirst (length cnf.clauses) cnf.clauses a.lists.items → IsCalm cnf.clauses steps → turned_back steps ≡ Some left → IsRight cnf.vars M left → new.lists.items ≡ a.lists.items → length left ≡ k → IsShortened a new k → IsHeeded cnf new left
heeded_turned cnf M a new k [] left count lists calm e right same is short = absurd (none-some left e)
heeded_turned cnf M a new k (s ∷ older) left count lists calm e right same is short = elim (cases_Bool s.chosen) [
  | inl chosen ↦
      let here : turned s ∷ older ≡ left = same_Some (turned s ∷ older) left (rw chosen at e) in
      subst (IsHeeded cnf new) here (heeded_step cnf M a new k (turned s) older count lists (subst (IsRight cnf.vars M) (sym here) right) (λ n. inr (inl (calm.0 chosen n))) ((λ turned. absurd (false≢true turned)), calm.1) same (ap length here ∙ is) short)
  | inr forced ↦ heeded_turned cnf M a new k older left count lists calm.1 (rw forced at e) right same is short
]

-- each clause stays to be looked at, or says nothing, where the search goes on
pub heeded_advanced : (cnf : Cnf) (M : List Bool → Type 0) (old a new : Agenda) (k : ℕ) (steps left : List Step) (found : Found) → IsHeeded cnf old steps → a.lists.items ≡ old.lists.items → IsThrough cnf.clauses old steps ⊎ StopsAt cnf.clauses old a steps found → advanced found steps ≡ Some left → IsRight cnf.vars M left → new.lists.items ≡ a.lists.items → length left ≡ k → IsShortened a new k → IsHeeded cnf new left
heeded_advanced cnf M old a new k steps left (Forced l) heeded kept looked e right same is short =
    let here = same_Some (forced l ∷ steps) left e in
    subst (IsHeeded cnf new) here (heeded_step cnf M a new k (forced l) steps (ap length kept ∙ heeded.count) (subst (ListsFirst (length cnf.clauses) cnf.clauses) (sym kept) heeded.lists) (subst (IsRight cnf.vars M) (sym here) right) (each_forced cnf old a steps l heeded looked) ((λ chosen. absurd (false≢true chosen)), heeded.calm) same (ap length here ∙ is) short)
heeded_advanced cnf M old a new k steps left (Free v) heeded kept looked e right same is short =
    let here = same_Some (choice v ∷ steps) left e in
    let silent = all_silent cnf old a steps v heeded looked in
    subst (IsHeeded cnf new) here (heeded_step cnf M a new k (choice v) steps (ap length kept ∙ heeded.count) (subst (ListsFirst (length cnf.clauses) cnf.clauses) (sym kept) heeded.lists) (subst (IsRight cnf.vars M) (sym here) right) (λ n. inr (inl (silent n))) ((λ chosen. silent), heeded.calm) same (ap length here ∙ is) short)
heeded_advanced cnf M old a new k steps left Conflict heeded kept looked e right same is short =
    heeded_turned cnf M a new k steps left (ap length kept ∙ heeded.count) (subst (ListsFirst (length cnf.clauses) cnf.clauses) (sym kept) heeded.lists) heeded.calm e right same is short
heeded_advanced cnf M old a new k steps left Full heeded kept looked e right same is short =
    heeded_turned cnf M a new k steps left (ap length kept ∙ heeded.count) (subst (ListsFirst (length cnf.clauses) cnf.clauses) (sym kept) heeded.lists) heeded.calm e right same is short
