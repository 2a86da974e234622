-- What is ahead in a queue of lists, where it is gone through and where steps are taken back.
use Rattle.std.proofs.Common.{◌≡◌, ℕ, ◌+◌, ◌<◌, ◌≤◌, ◌⊎◌, true, false, List, [], length, get_or, Option, Some, None, refl, ap, sym, ◌∙◌, subst, inl, inr, arith}
use Rattle.std.proofs.lemmas.Bool.{cases_order, cases_lt}
use Rattle.std.proofs.lemmas.Option.{same_Some, slice_get_within}
use Rattle.std.proofs.lemmas.Bool.{false≢true}
use Rattle.std.specs.Prelude.{slice_get, ◌↔◌, MatchOption}
use Rattle.std.specs.Option.{is_some}
use Rattle.mig_sat.specs.declared.clauses.SatLit.{SatLit}
use Rattle.mig_sat.specs.declared.steps.Step.{Step}
use Rattle.mig_sat.specs.declared.steps.Found.{Found}
use Rattle.mig_sat.specs.declared.agenda.Agenda.{Agenda}
use Rattle.mig_sat.specs.Saying.{IsSaid, IsSilent}
use Rattle.mig_sat.specs.Agendas.{IsListed, IsAhead, AreSilent, StopsBehind, StopsAt, IsPending, IsThrough, ListsFirst, list_at}

-- one more clause that says nothing
pub silent_more : (clauses : List (List SatLit)) (steps : List Step) (list : List ℕ) (from to number : ℕ) → AreSilent clauses steps list from to → slice_get list to ≡ Some number → IsSilent steps (slice_get clauses number) → AreSilent clauses steps list from (to + 1)
silent_more clauses steps list from to number before is silent index n le lt here = elim (cases_order index to) [
  | inl same ↦ subst (λ (k : ℕ). IsSilent steps (slice_get clauses k)) (same_Some number n (sym is ∙ subst (λ i. slice_get list i ≡ Some n) same here)) silent
  | inr order ↦ elim order [ inl less ↦ before index n le less here | inr more ↦ absurd (omega (arith, lt, more)) ]
]

-- where nothing is said
pub at_none : {X : Type 0} (o : Option X) (P : Type 0) (Q : X → Type 0) → MatchOption o P Q → is_some o ≡ false → P
at_none None P Q p e = p
at_none (Some x) P Q q e = absurd (false≢true (sym e))

-- a clause that says something, behind those that say nothing
pub stops_behind : (clauses : List (List SatLit)) (steps : List Step) (list : List ℕ) (from index number : ℕ) (found : Option Found) → AreSilent clauses steps list from index → from ≤ index → slice_get list index ≡ Some number → MatchOption found (IsSilent steps (slice_get clauses number)) (λ f. IsSaid steps (slice_get clauses number) f) → is_some found ≡ true → MatchOption found (AreSilent clauses steps list from (length list)) (λ f. StopsBehind clauses steps list from (index + 1) f)
stops_behind clauses steps list from index number None before le here said some = absurd (false≢true some)
stops_behind clauses steps list from index number (Some f) before le here said some = record { index = index; number = number; least = le; behind = refl; here = here; said = said; before = before }

-- a list that says nothing from an index on is no longer ahead
pub pass_list : (clauses : List (List SatLit)) (lists : List (List ℕ)) (queued at : ℕ) (steps : List Step) (n : ℕ) → AreSilent clauses steps (get_or lists (list_at steps queued) []) at (length (get_or lists (list_at steps queued) [])) → IsAhead lists queued at steps n → IsAhead lists (queued + 1) 0 steps n ⊎ IsSilent steps (slice_get clauses n)
pass_list clauses lists queued at steps n silent is = elim is.later [
  | inl later ↦ elim (cases_lt (queued + 1) is.place) [
    | inl beyond ↦ inl (record { place = is.place; index = is.index; within = is.within; later = inl beyond; here = is.here })
    | inr next ↦ inl (record { place = is.place; index = is.index; within = is.within; later = inr (omega (arith, later, next), omega arith); here = is.here })
  ]
  | inr same ↦
      let here : slice_get (get_or lists (list_at steps queued) []) is.index ≡ Some n = subst (λ p. slice_get (get_or lists (list_at steps p) []) is.index ≡ Some n) (sym same.0) is.here in
      inr (silent is.index n same.1 (slice_get_within (get_or lists (list_at steps queued) []) is.index n here) here)
]

-- behind a clause that says something, what was ahead still is, or says nothing, or is that clause
pub pass_clauses : (clauses : List (List SatLit)) (lists : List (List ℕ)) (queued at next : ℕ) (steps : List Step) (found : Found) (s : StopsBehind clauses steps (get_or lists (list_at steps queued) []) at next found) (n : ℕ) → IsAhead lists queued at steps n → IsAhead lists queued next steps n ⊎ (IsSilent steps (slice_get clauses n) ⊎ (n ≡ s.number))
pass_clauses clauses lists queued at next steps found s n is = elim is.later [
  | inl later ↦ inl (record { place = is.place; index = is.index; within = is.within; later = inl later; here = is.here })
  | inr same ↦
      let here : slice_get (get_or lists (list_at steps queued) []) is.index ≡ Some n = subst (λ p. slice_get (get_or lists (list_at steps p) []) is.index ≡ Some n) (sym same.0) is.here in
      elim (cases_order is.index s.index) [
        | inl e ↦ inr (inr (same_Some n s.number (sym here ∙ (ap (slice_get (get_or lists (list_at steps queued) [])) e ∙ s.here))))
        | inr order ↦ elim order [
          | inl less ↦ inr (inl (s.before is.index n same.1 less here))
          | inr more ↦ let behind = s.behind in inl (record { place = is.place; index = is.index; within = is.within; later = inr (same.0, omega (arith, more, behind)); here = is.here })
        ]
      ]
]

-- the agenda stops behind a clause that says something
pub stops_at : (clauses : List (List SatLit)) (old new : Agenda) (at : ℕ) (steps : List Step) (found : Option Found) (list : List ℕ) → new.lists.items ≡ old.lists.items → list ≡ get_or old.lists.items (list_at steps new.queued) [] → ((n : ℕ) → IsPending old steps n → IsAhead old.lists.items new.queued at steps n ⊎ IsSilent steps (slice_get clauses n)) → MatchOption found (AreSilent clauses steps list at (length list)) (λ f. StopsBehind clauses steps list at new.at f) → is_some found ≡ true → MatchOption found (IsThrough clauses old steps) (λ f. StopsAt clauses old new steps f)
stops_at clauses old new at steps None list same is through stops some = absurd (false≢true some)
stops_at clauses old new at steps (Some f) list same is through stops some =
    let here : StopsBehind clauses steps (get_or old.lists.items (list_at steps new.queued) []) at new.at f = subst (λ xs. StopsBehind clauses steps xs at new.at f) is stops in
    record {
      number = here.number;
      said = here.said;
      others = λ n pending. elim (through n pending) [
        | inl ahead ↦ elim (pass_clauses clauses old.lists.items new.queued at new.at steps f here n ahead) [
          | inl still ↦ inl (subst (λ ls. IsAhead ls new.queued new.at steps n) (sym same) still)
          | inr other ↦ inr other
        ]
        | inr silent ↦ inr (inl silent)
      ];
    }

-- nothing is ahead past the last step's list
pub none_ahead : (lists : List (List ℕ)) (queued at : ℕ) (steps : List Step) (n : ℕ) → length steps < queued → IsAhead lists queued at steps n → ⊥
none_ahead lists queued at steps n past is =
    let within = is.within in
    elim is.later [ inl later ↦ omega (arith, past, within, later) | inr same ↦ let e = same.0 in omega (arith, past, within, e) ]

-- each clause in list 0 is ahead at the start
pub all_ahead : (count : ℕ) (clauses : List (List SatLit)) (lists : List (List ℕ)) → ListsFirst count clauses lists → 0 < length lists → (steps : List Step) (n : ℕ) → n < count → IsAhead lists 0 0 steps n
all_ahead count clauses lists all some steps n lt =
    let is = all.all n lt some in
    record { place = 0; index = is.0; within = omega arith; later = inr (refl, omega arith); here = is.1 }

-- Where the queue goes on with the newest step's list from its start, the clauses of that list are ahead beside those that were.
pub ahead_again : (lists : List (List ℕ)) (queued at : ℕ) (left : List Step) (n : ℕ) → length left ≤ queued → IsAhead lists (length left) 0 left n ↔ (IsAhead lists queued at left n ⊎ IsListed lists (list_at left (length left)) n)
ahead_again lists queued at left n short = (
  (λ is.
      let within = is.within in
      elim is.later [
        | inl later ↦ absurd (omega (arith, within, later))
        | inr same ↦ inr (is.index, subst (λ p. slice_get (get_or lists (list_at left p) []) is.index ≡ Some n) (sym same.0) is.here)
      ]),
  (λ either. elim either [
    | inl is ↦ let within = is.within in elim is.later [
      | inl later ↦ absurd (omega (arith, short, within, later))
      | inr same ↦ let e = same.0 in record { place = is.place; index = is.index; within = is.within; later = inr (omega (arith, short, within, e), omega arith); here = is.here }
    ]
    | inr is ↦ record { place = length left; index = is.0; within = omega arith; later = inr (refl, omega arith); here = is.1 }
  ]),
)

-- They are ahead in any case where the queue has not come to that list.
pub ahead_still : (lists : List (List ℕ)) (queued at : ℕ) (left : List Step) (n : ℕ) → queued < length left → IsAhead lists queued at left n ↔ (IsAhead lists queued at left n ⊎ IsListed lists (list_at left (length left)) n)
ahead_still lists queued at left n long = (
  (λ is. inl is),
  (λ either. elim either [
    | inl is ↦ is
    | inr is ↦ record { place = length left; index = is.0; within = omega arith; later = inl long; here = is.1 }
  ]),
)
