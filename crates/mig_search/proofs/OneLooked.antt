-- There is one list of the completions of a plan that are looked at.
use Rattle.std.proofs.Common.{◌≡◌, ◌⊎◌, ℕ, List, [], ◌∷◌, ◌++◌, refl, ap, sym, ◌∙◌, subst, inl, inr, append_assoc}
use Rattle.std.proofs.lemmas.List.{append-nil, map-append}
use Rattle.mig_schema.specs.declared.programs.Program.{Program}
use Rattle.mig_schema.specs.declared.jobs.Job.{Job}
use Rattle.mig_listing.specs.Listing.{IsIn, Rises}
use Rattle.mig_listing.specs.Fronts.{IsFront, IsNext}
use Rattle.mig_listing.specs.Orders.{Less, Lex}
use Rattle.mig_listing.proofs.Members.{in_append, in_append_left, in_append_right, from_map}
use Rattle.mig_listing.proofs.Rising.{rises_left, rises_across}
use Rattle.mig_invariant.specs.declared.corresp.Corr.{Corr}
use Rattle.mig_sketch.specs.declared.plans.Hole.{Hole}
use Rattle.mig_sketch.specs.declared.plans.Plan.{Plan}
use Rattle.mig_sketch.specs.Filling.{filled}
use Rattle.mig_search.specs.declared.outcomes.Tried.{Tried}
use Rattle.mig_search.specs.Judging.{IsEntry}
use Rattle.mig_search.specs.Looking.{Looked, picks_of, IsOpen, AreFirstLooked, AreAllLooked}
use Rattle.mig_search.proofs.Looks.{lex_order, open_total}
use Rattle.mig_search.proofs.Everywhere.{decide_passed}

-- each program has one entry
abbrev pub HasOneEntry : Job → Corr → (tests : ℕ) → Type 0
HasOneEntry job corr tests = (p : Program) (d e : Tried) → IsEntry job corr tests p d → IsEntry job corr tests p e → d ≡ e

rises_right : {A : Type 0} (R : A → A → Type 0) (xs ys : List A) → Rises R (xs ++ ys) → Rises R ys
rises_right R [] ys r = r
rises_right R (x ∷ xs) ys r = rises_right R xs ys r.1

module _ (hs : List Hole) (xs : List Looked) (l : Looked) (ys : List Looked) (front : IsFront (IsOpen hs (xs ++ l ∷ ys)) (Lex Less) (picks_of (xs ++ l ∷ ys))) where
  picks_are : picks_of (xs ++ l ∷ ys) ≡ picks_of xs ++ l.picks ∷ picks_of ys
  picks_are = map-append (λ (x : Looked). x.picks) xs (l ∷ ys)

  rises : Rises (Lex Less) (picks_of xs ++ l.picks ∷ picks_of ys)
  rises = subst (Rises (Lex Less)) picks_are front.rises

  -- what stands in the front stands before what follows
  across : (x y : List ℕ) → IsIn x (picks_of xs) → IsIn y (l.picks ∷ picks_of ys) → Lex Less x y
  across x y i j = rises_across (Lex Less) (picks_of xs) (l.picks ∷ picks_of ys) x y rises i j

  -- what stands behind is the next, or comes after it
  behind : (y : List ℕ) → IsIn y (l.picks ∷ picks_of ys) → (l.picks ≡ y) ⊎ Lex Less l.picks y
  behind y i = elim i [ inl e ↦ inl (sym e) | inr j ↦ inr ((rises_right (Lex Less) (picks_of xs) (l.picks ∷ picks_of ys) rises).0 y j) ]

  -- who passes over what comes after it, by the front alone where the other is no later than the next
  open_cut : (o : List ℕ) → IsOpen hs (xs ++ l ∷ ys) o → IsOpen hs xs o
  open_cut o p = record {
    choice = p.choice;
    open_yet = λ q. p.open_yet (record { by = q.by; seen_before = in_append_left xs (l ∷ ys) q.by q.seen_before; earlier = q.earlier; calls = q.calls; refuted = q.refuted; agree = q.agree });
  }

  -- one that is open for the front is among all, or comes after the front and after the next is not before it
  cases_open : (o : List ℕ) → IsOpen hs xs o → IsIn o (picks_of xs) ⊎ (((x : List ℕ) → IsIn x (picks_of xs) → Lex Less x o) × (Lex Less o l.picks → ⊥))
  cases_open o p = elim (decide_passed hs (xs ++ l ∷ ys) o) [
    | inl q ↦ elim (in_append xs (l ∷ ys) q.by q.seen_before) [
      | inl i ↦ absurd (p.open_yet (record { by = q.by; seen_before = i; earlier = q.earlier; calls = q.calls; refuted = q.refuted; agree = q.agree }))
      | inr j ↦ let there = from_map (λ (x : Looked). x.picks) (l ∷ ys) q.by j in inr (
        (λ x i. lex_order.on x q.by.picks o (across x q.by.picks i there) q.earlier),
        (λ before. elim (behind q.by.picks there) [
          | inl e ↦ lex_order.never o (lex_order.on o l.picks o before (subst (λ y. Lex Less y o) (sym e) q.earlier))
          | inr lt ↦ lex_order.never o (lex_order.on o l.picks o before (lex_order.on l.picks q.by.picks o lt q.earlier))
        ]),
      )
    ]
    | inr not_passed ↦ elim (front.first o (record { choice = p.choice; open_yet = not_passed })) [
      | inl i ↦ elim (in_append (picks_of xs) (l.picks ∷ picks_of ys) o (subst (IsIn o) picks_are i)) [
        | inl j ↦ inl j
        | inr j ↦ inr (
          (λ x k. across x o k j),
          (λ before. elim (behind o j) [
            | inl e ↦ lex_order.never o (subst (Lex Less o) e before)
            | inr lt ↦ lex_order.never o (lex_order.on o l.picks o before lt)
          ]),
        )
      ]
      | inr all ↦ inr (
        (λ x i. all x (subst (IsIn x) (sym picks_are) (in_append_left (picks_of xs) (l.picks ∷ picks_of ys) x i))),
        (λ before. lex_order.never o (lex_order.on o l.picks o before (all l.picks (subst (IsIn l.picks) (sym picks_are) (in_append_right (picks_of xs) (l.picks ∷ picks_of ys) l.picks (inl refl)))))),
      )
    ]
  ]

  holds_at : (x : List ℕ) → IsIn x (picks_of xs ++ l.picks ∷ picks_of ys) → IsOpen hs xs x
  holds_at x i = open_cut x (front.holds x (subst (IsIn x) (sym picks_are) i))

  -- the front is a front
  pub front_cut : IsFront (IsOpen hs xs) (Lex Less) (picks_of xs)
  front_cut = record {
    rises = rises_left (Lex Less) (picks_of xs) (l.picks ∷ picks_of ys) rises;
    holds = λ x i. holds_at x (in_append_left (picks_of xs) (l.picks ∷ picks_of ys) x i);
    first = λ o p. elim (cases_open o p) [ inl i ↦ inl i | inr h ↦ inr h.0 ];
  }

  -- and what stands behind it is the next
  pub next_cut : IsNext (IsOpen hs xs) (Lex Less) (picks_of xs) l.picks
  next_cut = record {
    holds = holds_at l.picks (in_append_right (picks_of xs) (l.picks ∷ picks_of ys) l.picks (inl refl));
    new = λ i. lex_order.never l.picks (across l.picks l.picks i (inl refl));
    least = λ o p new before. elim (cases_open o p) [ inl i ↦ new i | inr h ↦ h.1 before ];
  }

-- there is one next
pub next_one : (hs : List Hole) (xs : List Looked) (a b : List ℕ) → IsNext (IsOpen hs xs) (Lex Less) (picks_of xs) a → IsNext (IsOpen hs xs) (Lex Less) (picks_of xs) b → a ≡ b
next_one hs xs a b na nb = elim (open_total hs xs a b na.holds nb.holds) [
  | inl e ↦ e
  | inr order ↦ elim order [ inl lt ↦ absurd (nb.least a na.holds na.new lt) | inr lt ↦ absurd (na.least b nb.holds nb.new lt) ]
]

module _ (job : Job) (corr : Corr) (tests : ℕ) (plan : Plan) (one : HasOneEntry job corr tests) where
  -- what is looked at next is one
  looked_one : (xs : List Looked) (k l : Looked) (us vs : List Looked) → AreFirstLooked job corr tests plan (xs ++ k ∷ us) → AreFirstLooked job corr tests plan (xs ++ l ∷ vs) → k ≡ l
  looked_one xs k l us vs a b =
      let picks : k.picks ≡ l.picks = next_one plan.holes xs k.picks l.picks (next_cut plan.holes xs k us a.first) (next_cut plan.holes xs l vs b.first) in
      let ek = a.entries k (in_append_right xs (k ∷ us) k (inl refl)) in
      let el = b.entries l (in_append_right xs (l ∷ vs) l (inl refl)) in
      let entry : k.entry ≡ l.entry = one (filled plan l.picks) k.entry l.entry (subst (λ p. IsEntry job corr tests (filled plan p) k.entry) picks ek) el in
      ap (λ p. record { picks = p; entry = k.entry }) picks ∙ ap (λ e. record { picks = l.picks; entry = e }) entry

  -- two fronts: one begins with the other
  pub begins : (xs us vs : List Looked) → AreFirstLooked job corr tests plan (xs ++ us) → AreFirstLooked job corr tests plan (xs ++ vs) → ((more : List Looked) × (vs ≡ us ++ more)) ⊎ ((more : List Looked) × (us ≡ vs ++ more))
  begins xs [] vs a b = inl (vs, refl)
  begins xs (k ∷ us) [] a b = inr (k ∷ us, refl)
  begins xs (k ∷ us) (l ∷ vs) a b =
      let same : k ≡ l = looked_one xs k l us vs a b in
      let a' = subst (AreFirstLooked job corr tests plan) (sym (append_assoc xs (k ∷ []) us)) a in
      let b' = subst (AreFirstLooked job corr tests plan) (sym (append_assoc xs (k ∷ []) vs)) (subst (λ x. AreFirstLooked job corr tests plan (xs ++ x ∷ vs)) (sym same) b) in
      elim (begins (xs ++ k ∷ []) us vs a' b') [
        | inl h ↦ inl (h.0, ap (λ x. x ∷ vs) (sym same) ∙ ap (λ t. k ∷ t) h.1)
        | inr h ↦ inr (h.0, ap (λ x. x ∷ us) same ∙ ap (λ t. l ∷ t) h.1)
      ]

  -- nothing is looked at after all were
  pub nothing_after : (xs more : List Looked) → AreAllLooked job corr tests plan xs → AreFirstLooked job corr tests plan (xs ++ more) → more ≡ []
  nothing_after xs [] a b = refl
  nothing_after xs (l ∷ more) a b = let n = next_cut plan.holes xs l more b.first in absurd (n.new (a.all.has l.picks n.holds))

  pub first_of_all : (xs : List Looked) → AreAllLooked job corr tests plan xs → AreFirstLooked job corr tests plan xs
  first_of_all xs a = record { first = record { rises = a.all.rises; holds = a.all.holds; first = λ o p. inl (a.all.has o p) }; entries = a.entries }

  -- there is one list
  pub one_looked : (xs ys : List Looked) → AreAllLooked job corr tests plan xs → AreAllLooked job corr tests plan ys → xs ≡ ys
  one_looked xs ys a b = elim (begins [] xs ys (first_of_all xs a) (first_of_all ys b)) [
    | inl h ↦ let e = nothing_after xs h.0 a (subst (AreFirstLooked job corr tests plan) h.1 (first_of_all ys b)) in sym (h.1 ∙ (ap (λ t. xs ++ t) e ∙ append-nil xs))
    | inr h ↦ let e = nothing_after ys h.0 b (subst (AreFirstLooked job corr tests plan) h.1 (first_of_all xs a)) in h.1 ∙ (ap (λ t. ys ++ t) e ∙ append-nil ys)
  ]
