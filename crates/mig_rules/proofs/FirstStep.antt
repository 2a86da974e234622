-- What is found by going through rules, terms, paths and arguments in order is the least step that follows.
use Rattle.std.proofs.Common.{◌≡◌, ℕ, zero, suc, ◌+◌, ◌<◌, ◌≤◌, Bool, true, ◌&&◌, List, [], ◌∷◌, Option, Some, None, length, refl, sym, ap, ◌∙◌, subst, inl, inr, arith}
use Rattle.std.specs.Prelude.{slice_get, nat_lt}
use Rattle.std.specs.Option.{option_map, option_and_then}
use Rattle.std.proofs.lemmas.Bool.{and_parts, ltb-true}
use Rattle.mig_meaning.specs.declared.relating.Invariant.{Invariant}
use Rattle.mig_algebra.specs.declared.terms.Term.{Term}
use Rattle.mig_algebra.specs.declared.terms.Expr.{Expr}
use Rattle.mig_algebra.specs.Proper.{Sides}
use Rattle.mig_listing.specs.Choices.{numbers}
use Rattle.mig_listing.specs.Listing.{IsIn, Rises}
use Rattle.mig_listing.specs.Orders.{IsOrder, Less}
use Rattle.mig_listing.proofs.Choices.{in_numbers, numbers_rise}
use Rattle.mig_listing.proofs.Orders.{less_order, before_order}
use Rattle.mig_steps.specs.declared.steps.Rule.{Rule}
use Rattle.mig_steps.specs.declared.steps.Rule.TheVariants.{Stage, StageIn, Dead, Same, Implied, Lift, Split, Found, Alone, Inside, Never, Merge, Apart, Lossless, Fold, FoldIn, Rejoin}
use Rattle.mig_steps.specs.declared.steps.Step.{Step}
use Rattle.mig_listing.specs.Orders.{Before, BeforePair}
use Rattle.mig_listing.specs.Finding.{Finds}
use Rattle.mig_listing.proofs.Found.{none-by, finds-offered, finds-nested, finds-as}
use Rattle.mig_rules.specs.Follow.{by_rule, follow}
use Rattle.mig_rules.specs.Offered.{paths_for, args_for}
use Rattle.mig_rules.specs.First.{number_of, StepBefore, FindsFirst, step_of, tried, behind, first_at, first_in, first_of, first_by, all_rules, first_step}
use Rattle.mig_rules.proofs.FollowSound.{Followed, followed}
use Rattle.mig_rules.proofs.RulesOffered.{rule-offers}
use Rattle.mig_steps.proofs.Options.{map-some, map-none, get-within}

-- rules by their numbers
abbrev Lower : Rule → Rule → Type 0
Lower r s = number_of r < number_of s

lower-order : IsOrder Lower
lower-order = record { never = λ r h. omega arith; on = λ r s t h k. omega arith }

-- whether the numbers of these climb from n on
abbrev climbs : ℕ → List Rule → Bool
climbs n [] = true
climbs n (r ∷ rs) = nat_lt n (number_of r + 1) && climbs (number_of r + 1) rs

climb-above : (n : ℕ) (rs : List Rule) (r : Rule) → climbs n rs ≡ true → IsIn r rs → n ≤ number_of r
climb-above n [] r h i = absurd i
climb-above n (q ∷ rs) r h i =
    let k = and_parts (nat_lt n (number_of q + 1)) (climbs (number_of q + 1) rs) h in
    let l = ltb-true n (number_of q + 1) k.0 in
    elim i [
      | inl e ↦ omega (arith, l, ap number_of e)
      | inr j ↦ omega (arith, l, climb-above (number_of q + 1) rs r k.1 j)
    ]

climbing-rises : (n : ℕ) (rs : List Rule) → climbs n rs ≡ true → Rises Lower rs
climbing-rises n [] h = tt
climbing-rises n (q ∷ rs) h =
    let k = and_parts (nat_lt n (number_of q + 1)) (climbs (number_of q + 1) rs) h in
    ((λ r i. omega (arith, climb-above (number_of q + 1) rs r k.1 i)), climbing-rises (number_of q + 1) rs k.1)

rules-rise : Rises Lower all_rules
rules-rise = climbing-rises 0 all_rules refl

get-in : {A : Type 0} (xs : List A) (i : ℕ) (x : A) → slice_get xs i ≡ Some x → IsIn x xs
get-in [] i x h = cc
get-in (y ∷ ys) zero x h = inl (cc)
get-in (y ∷ ys) (suc i) x h = inr (get-in ys i x h)

-- each rule stands at its number
pub at-number : (r : Rule) → slice_get all_rules (number_of r) ≡ Some r
at-number Stage = refl
at-number StageIn = refl
at-number Dead = refl
at-number Same = refl
at-number Implied = refl
at-number Lift = refl
at-number Split = refl
at-number Found = refl
at-number Alone = refl
at-number Inside = refl
at-number Never = refl
at-number Merge = refl
at-number Apart = refl
at-number Lossless = refl
at-number Fold = refl
at-number FoldIn = refl
at-number Rejoin = refl

each-rule : (r : Rule) → IsIn r all_rules
each-rule r = get-in all_rules (number_of r) r (at-number r)

module _ (p : Sides) (invs : List Invariant) (e : Expr) where
  -- a step that is tried with success follows
  tried-follows : (r : Rule) (n : ℕ) (path args : List ℕ) (s : Step) → tried p invs e r n path args ≡ Some s → (x : Expr) × Followed p invs (step_of r n path args) e x
  tried-follows r n path args s h =
      let k = map-some (λ x. step_of r n path args) (follow p invs (step_of r n path args) e) s h in
      (k.0, followed p invs (step_of r n path args) e k.0 k.1)

  -- its term is that of its number
  pub same-term : (r : Rule) (n : ℕ) (path args : List ℕ) (s : Step) (t : Term) → slice_get e.terms n ≡ Some t → tried p invs e r n path args ≡ Some s → (us : List Term) × (by_rule p invs r n path args t (behind e n) ≡ Some us)
  same-term r n path args s t own h =
      let f = tried-follows r n path args s h in
      let same : f.1.term ≡ t = cc (f.1.there) in
      (f.1.terms, subst (λ u. by_rule p invs r n path args u (behind e n) ≡ Some f.1.terms) same f.1.given)

  -- by arguments
  finds-at : (r : Rule) (n : ℕ) (t : Term) → slice_get e.terms n ≡ Some t → (path : List ℕ) → Finds Before (tried p invs e r n path) (first_at p invs e r n t path)
  finds-at r n t own path =
      finds-offered (tried p invs e r n path) (args_for invs r n path t (behind e n)) before_order (record {
        rises = (rule-offers p invs r).args_rise n path t (behind e n);
        has = λ args s h. let k = same-term r n path args s t own h in (rule-offers p invs r).args_in n path args t (behind e n) k.0 k.1;
      })

  -- by paths and arguments
  finds-in : (r : Rule) (n : ℕ) (t : Term) → slice_get e.terms n ≡ Some t → Finds (BeforePair Before Before) (λ (q : List ℕ × List ℕ). tried p invs e r n q.0 q.1) (first_in p invs e r n t)
  finds-in r n t own =
      finds-nested Before Before (λ path args. tried p invs e r n path args) (first_at p invs e r n t) (paths_for r t) before_order ((rule-offers p invs r).paths_rise t)
      (λ path args s h. let k = same-term r n path args s t own h in (rule-offers p invs r).path_in n path args t (behind e n) k.0 k.1)
      (finds-at r n t own)

  -- at a number
  finds-of : (r : Rule) (n : ℕ) → Finds (BeforePair Before Before) (λ (q : List ℕ × List ℕ). tried p invs e r n q.0 q.1) (first_of p invs e r n)
  finds-of r n = go (slice_get e.terms n) refl
    where
      go : (o : Option Term) → slice_get e.terms n ≡ o → Finds (BeforePair Before Before) (λ (q : List ℕ × List ℕ). tried p invs e r n q.0 q.1) (option_and_then (first_in p invs e r n) o)
      go None g = λ q. none-by (tried p invs e r n q.0 q.1) (λ s h. let f = tried-follows r n q.0 q.1 s h in let bad : None ≡ Some f.1.term = sym g ∙ f.1.there in cc)
      go (Some t) g = finds-in r n t g

  -- by terms
  finds-by : (r : Rule) → Finds (BeforePair Less (BeforePair Before Before)) (λ (q : ℕ × (List ℕ × List ℕ)). tried p invs e r q.0 q.1.0 q.1.1) (first_by p invs e r)
  finds-by r =
      finds-nested Less (BeforePair Before Before) (λ (n : ℕ) (q : List ℕ × List ℕ). tried p invs e r n q.0 q.1) (first_of p invs e r) (numbers (length e.terms)) less_order (numbers_rise (length e.terms))
      (λ n q s h. let f = tried-follows r n q.0 q.1 s h in in_numbers (length e.terms) n (get-within e.terms n f.1.term f.1.there))
      (finds-of r)

  -- by rules
  finds-all : Finds (BeforePair Lower (BeforePair Less (BeforePair Before Before))) (λ (q : Rule × (ℕ × (List ℕ × List ℕ))). tried p invs e q.0 q.1.0 q.1.1.0 q.1.1.1) (first_step p invs e)
  finds-all =
      finds-nested Lower (BeforePair Less (BeforePair Before Before)) (λ (r : Rule) (q : ℕ × (List ℕ × List ℕ)). tried p invs e r q.0 q.1.0 q.1.1) (first_by p invs e) all_rules lower-order rules-rise
      (λ r q s h. each-rule r)
      finds-by

  -- a step, if it follows
  abbrev itself : Step → Option Step
  itself s = option_map (λ x. s) (follow p invs s e)

  finds-steps : Finds StepBefore itself (first_step p invs e)
  finds-steps =
      finds-as (BeforePair Lower (BeforePair Less (BeforePair Before Before))) StepBefore (λ (q : Rule × (ℕ × (List ℕ × List ℕ))). tried p invs e q.0 q.1.0 q.1.1.0 q.1.1.1) itself
      (λ q. step_of q.0 q.1.0 q.1.1.0 q.1.1.1)
      (λ (s : Step). (s.rule, (s.term, (s.path, s.args))))
      (first_step p invs e) (λ s. refl) (λ q. refl) (λ s q b. b) finds-all

  pub finds-first : FindsFirst p invs e (first_step p invs e)
  finds-first = go (first_step p invs e) finds-steps
    where
      go : (o : Option Step) → Finds StepBefore itself o → FindsFirst p invs e o
      go None h = λ t. map-none (λ x. t) (follow p invs t e) (h t)
      go (Some s) h =
          let k = map-some (λ x. h.key) (follow p invs h.key e) s h.gives_it in
          record {
            leads_to = k.0;
            follows = ap (λ t. follow p invs t e) (sym k.2) ∙ k.1;
            least = λ t b. map-none (λ x. t) (follow p invs t e) (h.least t (subst (StepBefore t) (sym k.2) b));
          }
