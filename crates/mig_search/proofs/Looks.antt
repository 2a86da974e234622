-- The first choice that no block covers is the next completion that is looked at.
use Rattle.std.proofs.Common.{◌≡◌, ◌⊎◌, ℕ, true, false, List, [], ◌∷◌, ◌++◌, map, length, refl, ap, sym, subst, inl, inr, arith}
use Rattle.std.proofs.lemmas.Bool.{both_ways, false_from_ne_true, cases_order}
use Rattle.mig_schema.specs.declared.jobs.Job.{Job}
use Rattle.mig_listing.specs.Listing.{IsIn, IsListOf}
use Rattle.mig_listing.specs.Fronts.{IsFront, IsNext}
use Rattle.mig_listing.specs.Orders.{IsOrder, IsTotalOn, Less, Lex}
use Rattle.mig_listing.proofs.Members.{in_append, in_append_left, in_map, from_map}
use Rattle.mig_listing.proofs.Orders.{less_order, Lex-order, Lex-total}
use Rattle.mig_listing.proofs.Fronts.{front_none, front_more, front_whole}
use Rattle.mig_invariant.specs.declared.corresp.Corr.{Corr}
use Rattle.mig_sketch.specs.declared.plans.Hole.{Hole}
use Rattle.mig_sketch.specs.declared.plans.Plan.{Plan}
use Rattle.mig_sketch.specs.Choices.{IsChoice}
use Rattle.mig_sketch.specs.Choices.{sizes_of}
use Rattle.mig_sketch.specs.Filling.{filled}
use Rattle.mig_complete.specs.Covering.{covers, is_covered, IsFirstChoice, HasNoChoice}
use Rattle.mig_search.specs.declared.outcomes.Tried.{Tried}
use Rattle.mig_search.specs.Judging.{IsEntry}
use Rattle.mig_search.specs.Looking.{Looked, picks_of, entries_of, IsOpen, AreFirstLooked}
use Rattle.mig_search.proofs.Agreeing.{block_of, covered_cases, covers_alike, covers_itself, covering, covered_by}

pub lex_order : IsOrder (Lex Less)
lex_order = Lex-order less_order

-- choices of one plan have one length
pub choice_length : (ns ps : List ℕ) → IsChoice ns ps → length ps ≡ length ns
choice_length [] [] c = refl
choice_length [] (p ∷ ps) c = absurd c
choice_length (n ∷ ns) [] c = absurd c
choice_length (n ∷ ns) (p ∷ ps) c = let e = choice_length ns ps c.1 in omega (arith, e)

less_total : (a b : ℕ) → (a ≡ b) ⊎ (Less a b ⊎ Less b a)
less_total a b = cases_order a b

pub open_total : (hs : List Hole) (seen : List Looked) → IsTotalOn (IsOpen hs seen) (Lex Less)
open_total hs seen = Lex-total (length (sizes_of hs)) {P = IsOpen hs seen} {R = Less} (λ ps o. choice_length (sizes_of hs) ps o.choice) less_total

pub map_more : {A B : Type 0} (f : A → B) (xs : List A) (x : A) → map f (xs ++ x ∷ []) ≡ map f xs ++ f x ∷ []
map_more f [] x = refl
map_more f (y ∷ xs) x = ap (λ t. f y ∷ t) (map_more f xs x)

module _ (hs : List Hole) (seen : List Looked) (front : IsFront (IsOpen hs seen) (Lex Less) (picks_of seen)) where
  -- one that was looked at is a choice
  pub looked_choice : (l : Looked) → IsIn l seen → IsChoice (sizes_of hs) l.picks
  looked_choice l i = (front.holds l.picks (from_map (λ (x : Looked). x.picks) seen l i)).choice

  -- what is open and was not looked at comes after all that were
  pub after_all : (o : List ℕ) → IsOpen hs seen o → (IsIn o (picks_of seen) → ⊥) → (l : Looked) → IsIn l seen → Lex Less l.picks o
  after_all o p new l i = elim (front.first o p) [
    | inl there ↦ absurd (new there)
    | inr before ↦ before l.picks (from_map (λ (x : Looked). x.picks) seen l i)
  ]

  -- it is covered by no block
  pub open_uncovered : (o : List ℕ) → IsOpen hs seen o → (IsIn o (picks_of seen) → ⊥) → is_covered (map (block_of hs) seen) o ≡ false
  open_uncovered o p new = false_from_ne_true (is_covered (map (block_of hs) seen) o) (λ t.
      let by = covering hs seen o t in
      elim (covered_cases hs by.0 o (looked_choice by.0 by.1) p.choice by.2) [
        | inl alike ↦ p.open_yet (record { by = by.0; seen_before = by.1; earlier = after_all o p new by.0 by.1; calls = alike.calls; refuted = alike.refuted; agree = alike.agree })
        | inr same ↦ new (subst (λ x. IsIn x (picks_of seen)) same (from_map (λ (x : Looked). x.picks) seen by.0 by.1))
      ])

  -- a choice that no block covers is open
  pub uncovered_open : (o : List ℕ) → IsChoice (sizes_of hs) o → is_covered (map (block_of hs) seen) o ≡ false → IsOpen hs seen o
  uncovered_open o c free = record {
    choice = c;
    open_yet = λ p. both_ways (is_covered (map (block_of hs) seen) o) free (covered_by hs seen o p.by p.seen_before (covers_alike hs p.by o (looked_choice p.by p.seen_before) c p.calls p.refuted p.agree));
  }

  -- and was not looked at
  pub uncovered_new : (o : List ℕ) → is_covered (map (block_of hs) seen) o ≡ false → IsIn o (picks_of seen) → ⊥
  uncovered_new o free i =
      let there = in_map (λ (x : Looked). x.picks) seen o i in
      both_ways (is_covered (map (block_of hs) seen) o) free (covered_by hs seen o there.0 there.1 (subst (λ x. covers x (block_of hs there.0) ≡ true) (sym there.2) (covers_itself hs there.0 (looked_choice there.0 there.1))))

  -- the first choice that no block covers is the next
  pub next_choice : (picks : List ℕ) → IsFirstChoice (sizes_of hs) (map (block_of hs) seen) picks → IsNext (IsOpen hs seen) (Lex Less) (picks_of seen) picks
  next_choice picks f = record {
    holds = uncovered_open picks f.choice f.uncovered;
    new = uncovered_new picks f.uncovered;
    least = λ o p new before. f.first o p.choice (open_uncovered o p new) before;
  }

  -- where each choice is covered, all were looked at
  pub no_next : HasNoChoice (sizes_of hs) (map (block_of hs) seen) → IsListOf (IsOpen hs seen) (Lex Less) (picks_of seen)
  no_next none = front_whole (picks_of seen) front (λ o p new. none o p.choice (open_uncovered o p new)) lex_order

  module _ (l : Looked) (next : IsNext (IsOpen hs seen) (Lex Less) (picks_of seen) l.picks) where
    -- all that were looked at come before the next
    pub before_next : (x : List ℕ) → IsIn x (picks_of seen) → Lex Less x l.picks
    before_next x i = elim (front.first l.picks next.holds) [
      | inl there ↦ absurd (next.new there)
      | inr before ↦ before x i
    ]

    -- what is not passed over stays so, up to the next
    pub still_open : (x : List ℕ) → IsOpen hs seen x → (Lex Less l.picks x → ⊥) → IsOpen hs (seen ++ l ∷ []) x
    still_open x p late = record {
      choice = p.choice;
      open_yet = λ q. elim (in_append seen (l ∷ []) q.by q.seen_before) [
        | inl i ↦ p.open_yet (record { by = q.by; seen_before = i; earlier = q.earlier; calls = q.calls; refuted = q.refuted; agree = q.agree })
        | inr i ↦ elim i [ inl e ↦ late (subst (λ (y : Looked). Lex Less y.picks x) e q.earlier) | inr none ↦ absurd none ]
      ];
    }

    -- what is open with the next was open before
    pub was_open : (x : List ℕ) → IsOpen hs (seen ++ l ∷ []) x → IsOpen hs seen x
    was_open x p = record {
      choice = p.choice;
      open_yet = λ q. p.open_yet (record { by = q.by; seen_before = in_append_left seen (l ∷ []) q.by q.seen_before; earlier = q.earlier; calls = q.calls; refuted = q.refuted; agree = q.agree });
    }

    picks_more : picks_of (seen ++ l ∷ []) ≡ picks_of seen ++ l.picks ∷ []
    picks_more = map_more (λ (x : Looked). x.picks) seen l

    -- the next one looked at too
    pub front_looked : IsFront (IsOpen hs (seen ++ l ∷ [])) (Lex Less) (picks_of (seen ++ l ∷ []))
    front_looked =
        let more = front_more {P = IsOpen hs seen} {R = Lex Less} lex_order (open_total hs seen) (picks_of seen) l.picks front next in
        subst (IsFront (IsOpen hs (seen ++ l ∷ [])) (Lex Less)) (sym picks_more) (record {
          rises = more.rises;
          holds = λ x i. still_open x (more.holds x i) (λ late. elim (in_append (picks_of seen) (l.picks ∷ []) x i) [
            | inl j ↦ lex_order.never x (lex_order.on x l.picks x (before_next x j) late)
            | inr j ↦ elim j [ inl e ↦ lex_order.never x (subst (λ y. Lex Less y x) (sym e) late) | inr none ↦ absurd none ]
          ]);
          first = λ o p. more.first o (was_open o p);
        })

-- nothing was looked at
pub first_looked : (job : Job) (corr : Corr) (tests : ℕ) (plan : Plan) → AreFirstLooked job corr tests plan []
first_looked job corr tests plan = record { first = front_none; entries = λ l i. absurd i }

-- the next one with its entry
pub more_looked : (job : Job) (corr : Corr) (tests : ℕ) (plan : Plan) (seen : List Looked) (picks : List ℕ) (entry : Tried) → AreFirstLooked job corr tests plan seen → IsNext (IsOpen plan.holes seen) (Lex Less) (picks_of seen) picks → IsEntry job corr tests (filled plan picks) entry → AreFirstLooked job corr tests plan (seen ++ record { picks = picks; entry = entry } ∷ [])
more_looked job corr tests plan seen picks entry a n e = record {
  first = front_looked plan.holes seen a.first (record { picks = picks; entry = entry }) n;
  entries = λ l i. elim (in_append seen (record { picks = picks; entry = entry } ∷ []) l i) [
    | inl j ↦ a.entries l j
    | inr j ↦ elim j [ inl same ↦ subst (λ (x : Looked). IsEntry job corr tests (filled plan x.picks) x.entry) (sym same) e | inr none ↦ absurd none ]
  ];
}

pub entries_more : (seen : List Looked) (l : Looked) → entries_of (seen ++ l ∷ []) ≡ entries_of seen ++ l.entry ∷ []
entries_more seen l = map_more (λ (x : Looked). x.entry) seen l
