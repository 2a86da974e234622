-- The first place at which an entry is broken, from what its claim, its steps and its ends are.
use Rattle.std.proofs.Common.{◌≡◌, ℕ, ◌+◌, ◌-◌, ◌<◌, ◌≤◌, Bool, true, false, cond, not, List, [], ◌∷◌, length, take, ap, ◌∙◌, arith, inl, inr, ⊎_elim, Some, None}
use Rattle.std.specs.Option.{option_map_or}
use Rattle.std.specs.Ordering.{is_eq}
use Rattle.std.specs.Cmp.Lexicographic.{slice_cmp}
use Rattle.std.proofs.lemmas.Bool.{both_ways, cases_lt, le-ltb, lt-ltb}
use Rattle.std.proofs.lemmas.Option.{slice_get_past}
use Rattle.mig_typing.specs.First.{IsFirst, IsFirstBroken, Before}
use Rattle.mig_meaning.specs.declared.relating.Invariant.{Invariant}
use Rattle.mig_algebra.specs.declared.terms.Expr.{Expr}
use Rattle.mig_algebra.specs.Orders.{term_order}
use Rattle.mig_algebra.specs.Proper.{Sides}
use Rattle.mig_algebra.specs.Tidied.{tidied}
use Rattle.mig_obligations.specs.declared.proving.Obligation.{Obligation}
use Rattle.mig_rules.specs.Follow.{follow}
use Rattle.mig_obligations.specs.Replay.{replay}
use Rattle.mig_certificate.specs.declared.proofs.Claim.{Claim}
use Rattle.mig_certificate.specs.declared.proofs.Entry.{Entry}
use Rattle.mig_certificate.specs.BrokenPlace.{is_none, same_claim, step_fails, entry_fails, ends_differ}
use Rattle.mig_checker.specs.declared.places.InEntry.{InEntry}
use Rattle.mig_checker.specs.declared.places.InEntry.TheVariants.{Missing, Step as StepAt, Ends}
use Rattle.mig_checker.specs.Inside.{entry_numbers, entry_broken}
use Rattle.mig_checker.proofs.Walks.{none-fails}

module _ (p : Sides) (invs : List Invariant) (c : Claim) (o : Obligation) (e : Entry) where
  abbrev broken : InEntry → Bool
  broken q = entry_broken p invs c o e q

  -- a step of the old block
  old-step : (s : ℕ) → s < length e.source → entry_fails p invs o e s ≡ step_fails p invs e.source o.source s
  old-step s l = ap (λ b. cond b (step_fails p invs e.source o.source s) (step_fails p invs e.target o.target (s - length e.source))) (lt-ltb s (length e.source) l)

  -- a step of the new block
  new-step : (s : ℕ) → length e.source ≤ s → entry_fails p invs o e s ≡ step_fails p invs e.target o.target (s - length e.source)
  new-step s l = ap (λ b. cond b (step_fails p invs e.source o.source s) (step_fails p invs e.target o.target (s - length e.source))) (le-ltb s (length e.source) l)

  -- the claim is another one
  pub claim-first : same_claim e.claim c ≡ false → IsFirst entry_numbers broken (Some Missing)
  claim-first h = record { here = ap not h; before = earlier }
    where
      earlier : (q : InEntry) → Before (entry_numbers q) (entry_numbers Missing) → broken q ≡ false
      earlier Missing (inl l) = absurd (omega (arith, l))
      earlier Missing (inr r) = absurd r.1
      earlier (StepAt s) (inl l) = absurd (omega (arith, l))
      earlier (StepAt s) (inr r) = absurd r.1
      earlier Ends (inl l) = absurd (omega (arith, l))
      earlier Ends (inr r) = absurd r.1

  -- the claim is the right one, and the first step that fails is known
  step-first : (s : ℕ) → same_claim e.claim c ≡ true → entry_fails p invs o e s ≡ true → ((t : ℕ) → t < s → entry_fails p invs o e t ≡ false) → IsFirst entry_numbers broken (Some (StepAt s))
  step-first s h k b = record { here = k; before = earlier }
    where
      earlier : (q : InEntry) → Before (entry_numbers q) (entry_numbers (StepAt s)) → broken q ≡ false
      earlier Missing z = ap not h
      earlier (StepAt t) (inl l) = absurd (omega (arith, l))
      earlier (StepAt t) (inr r) = ⊎_elim (λ (l : t < s). b t l) (λ (w : (t ≡ s) × ⊥). absurd w.1) r.1
      earlier Ends (inl l) = absurd (omega (arith, l))
      earlier Ends (inr r) = absurd (let z = r.0 in omega (arith, z))

  -- a step that fails is there
  fails-within : (s : ℕ) → step_fails p invs e.source o.source s ≡ true → s < length e.source
  fails-within s h =
      ⊎_elim (λ (l : s < length e.source). l)
      (λ (l : length e.source ≤ s). absurd (both_ways (step_fails p invs e.source o.source s) (ap (λ x. option_map_or (λ t. option_map_or (λ y. is_none (follow p invs t y)) (replay (follow p invs) (take s e.source) o.source) false) x false) (slice_get_past e.source s l)) h))
      (cases_lt s (length e.source))

  -- the first step of the old block that fails
  pub old-first : (s : ℕ) → same_claim e.claim c ≡ true → IsFirstBroken (λ n. n ∷ []) (step_fails p invs e.source o.source) s → IsFirst entry_numbers broken (Some (StepAt s))
  old-first s h f = let l = fails-within s f.here in step-first s h (old-step s l ∙ f.here) (λ t m. old-step t (omega (arith, l, m)) ∙ f.before t (inl m))

  -- no step of the old block fails
  none-old : (a : Expr) → replay (follow p invs) e.source o.source ≡ Some a → (s : ℕ) → s < length e.source → entry_fails p invs o e s ≡ false
  none-old a r s l = old-step s l ∙ none-fails p invs e.source o.source a r s

  -- the first step of the new block that fails
  pub new-first : (a : Expr) (s : ℕ) → same_claim e.claim c ≡ true → replay (follow p invs) e.source o.source ≡ Some a → IsFirstBroken (λ n. n ∷ []) (step_fails p invs e.target o.target) s → IsFirst entry_numbers broken (Some (StepAt (length e.source + s)))
  new-first a s h r f =
      step-first (length e.source + s) h
      (new-step (length e.source + s) (omega arith) ∙ (let z : (length e.source + s) - length e.source ≡ s = omega arith in ap (step_fails p invs e.target o.target) z) ∙ f.here)
      (λ t m. ⊎_elim (λ (l : t < length e.source). none-old a r t l) (λ (l : length e.source ≤ t). new-step t l ∙ f.before (t - length e.source) (inl (omega (arith, l, m)))) (cases_lt t (length e.source)))

  -- both blocks come to an end
  module _ (a b : Expr) (h : same_claim e.claim c ≡ true) (r : replay (follow p invs) e.source o.source ≡ Some a) (t : replay (follow p invs) e.target o.target ≡ Some b) where
    pub none-at-all : (s : ℕ) → entry_fails p invs o e s ≡ false
    none-at-all s =
        ⊎_elim (λ (l : s < length e.source). none-old a r s l) (λ (l : length e.source ≤ s). new-step s l ∙ none-fails p invs e.target o.target b t (s - length e.source)) (cases_lt s (length e.source))

    pub ends-are : ends_differ p invs o e ≡ not (is_eq (slice_cmp term_order (tidied a).terms (tidied b).terms))
    ends-are =
        ap (λ x. option_map_or (λ l. option_map_or (λ r. not (is_eq (slice_cmp term_order (tidied l).terms (tidied r).terms))) (replay (follow p invs) e.target o.target) false) x false) r
        ∙ ap (λ x. option_map_or (λ r. not (is_eq (slice_cmp term_order (tidied a).terms (tidied r).terms))) x false) t

    -- they differ
    pub ends-first : is_eq (slice_cmp term_order (tidied a).terms (tidied b).terms) ≡ false → IsFirst entry_numbers broken (Some Ends)
    ends-first d = record { here = ends-are ∙ ap not d; before = earlier }
      where
        earlier : (q : InEntry) → Before (entry_numbers q) (entry_numbers Ends) → broken q ≡ false
        earlier Missing z = ap not h
        earlier (StepAt s) z = none-at-all s
        earlier Ends (inl l) = absurd (omega (arith, l))
        earlier Ends (inr w) = absurd w.1

    -- they are equal
    pub none-first : is_eq (slice_cmp term_order (tidied a).terms (tidied b).terms) ≡ true → IsFirst entry_numbers broken None
    none-first d Missing = ap not h
    none-first d (StepAt s) = none-at-all s
    none-first d Ends = ends-are ∙ ap not d
