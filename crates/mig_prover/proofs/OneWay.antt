-- Of all steps that follow one is the least, so an expression has one trail.
use Rattle.std.proofs.Common.{◌≡◌, ◌⊎◌, ℕ, zero, suc, ◌≤◌, List, [], ◌∷◌, length, Some, None, refl, sym, ap, ◌∙◌, subst, inl, inr, arith}
use Rattle.mig_meaning.specs.declared.relating.Invariant.{Invariant}
use Rattle.mig_algebra.specs.declared.terms.Expr.{Expr}
use Rattle.mig_algebra.specs.Proper.{Sides}
use Rattle.mig_listing.specs.Orders.{Before}
use Rattle.mig_listing.proofs.Orders.{less_total, FrontFirst-total}
use Rattle.mig_steps.specs.declared.steps.Step.{Step}
use Rattle.mig_rules.specs.Follow.{follow}
use Rattle.mig_rules.specs.First.{number_of, StepBefore, IsFirst, step_of}
use Rattle.mig_rules.proofs.Silent.{one-number}
use Rattle.mig_prover.specs.declared.trails.Trail.{Trail}
use Rattle.mig_prover.specs.Simplified.{AreLeast, IsStill, OneTrail}

abbrev trail_of : List Step → Expr → Trail
trail_of ss e = record { steps = ss; end = e }

before-total : (xs ys : List ℕ) → (xs ≡ ys) ⊎ (Before xs ys ⊎ Before ys xs)
before-total xs ys = FrontFirst-total less_total xs ys

-- of two steps one stands before the other
step-total : (s t : Step) → (s ≡ t) ⊎ (StepBefore s t ⊎ StepBefore t s)
step-total s t = elim (less_total (number_of s.rule) (number_of t.rule)) [
  | inr d ↦ elim d [ inl l ↦ inr (inl (inl l)) | inr l ↦ inr (inr (inl l)) ]
  | inl r ↦ let rule : s.rule ≡ t.rule = one-number t.rule s.rule r in
      elim (less_total s.term t.term) [
        | inr d ↦ elim d [ inl l ↦ inr (inl (inr (rule, inl l))) | inr l ↦ inr (inr (inr (sym rule, inl l))) ]
        | inl n ↦ elim (before-total s.path t.path) [
          | inr d ↦ elim d [ inl l ↦ inr (inl (inr (rule, inr (n, inl l)))) | inr l ↦ inr (inr (inr (sym rule, inr (sym n, inl l)))) ]
          | inl k ↦ elim (before-total s.args t.args) [
            | inr d ↦ elim d [ inl l ↦ inr (inl (inr (rule, inr (n, inr (k, l))))) | inr l ↦ inr (inr (inr (sym rule, inr (sym n, inr (sym k, l))))) ]
            | inl a ↦ inl (same-step s t rule n k a)
          ]
        ]
      ]
]
  where
    same-step : (s t : Step) → s.rule ≡ t.rule → s.term ≡ t.term → s.path ≡ t.path → s.args ≡ t.args → s ≡ t
    same-step s t a b c d = ap (λ r. step_of r s.term s.path s.args) a ∙ (ap (λ n. step_of t.rule n s.path s.args) b ∙ (ap (λ q. step_of t.rule t.term q s.args) c ∙ ap (λ q. step_of t.rule t.term t.path q) d))

module _ (p : Sides) (invs : List Invariant) where
  some-none : (e : Expr) (s : Step) (x : Expr) → follow p invs s e ≡ Some x → follow p invs s e ≡ None → ⊥
  some-none e s x h n = cc

  one-first : (e : Expr) (s t : Step) → IsFirst p invs e s → IsFirst p invs e t → s ≡ t
  one-first e s t a b = elim (step-total s t) [
    | inl h ↦ h
    | inr d ↦ elim d [
      | inl l ↦ absurd (some-none e s a.leads_to a.follows (b.least s l))
      | inr l ↦ absurd (some-none e t b.leads_to b.follows (a.least t l))
    ]
  ]

  one-next : (e : Expr) (s t : Step) (x y : Expr) → s ≡ t → follow p invs s e ≡ Some x → follow p invs t e ≡ Some y → x ≡ y
  one-next e s t x y h a b = cc

  -- steps that end where another list of steps goes on are the shorter list
  still-ends : (ss : List Step) (e a : Expr) → AreLeast p invs e ss a → IsStill p invs e → ss ≡ []
  still-ends [] e a l h = refl
  still-ends (s ∷ ss) e a l h = absurd (some-none e s l.0 l.2 (h s))

  one-trail : (m : ℕ) (ss ts : List Step) (e a b : Expr) → AreLeast p invs e ss a → AreLeast p invs e ts b → length ss ≤ m → length ts ≤ m → (length ss ≡ m) ⊎ IsStill p invs a → (length ts ≡ m) ⊎ IsStill p invs b → (ss ≡ ts) × (a ≡ b)
  one-trail m [] [] e a b k l f g w v = (refl, sym k ∙ l)
  one-trail m [] (t ∷ ts) e a b k l f g w v = elim w [
    | inl z ↦ absurd (omega (arith, z, g))
    | inr h ↦ absurd (some-none e t l.0 l.2 (subst (IsStill p invs) (sym k) h t))
  ]
  one-trail m (s ∷ ss) [] e a b k l f g w v = elim v [
    | inl z ↦ absurd (omega (arith, z, f))
    | inr h ↦ absurd (some-none e s k.0 k.2 (subst (IsStill p invs) (sym l) h s))
  ]
  one-trail zero (s ∷ ss) (t ∷ ts) e a b k l f g w v = absurd (omega (arith, f))
  one-trail (suc m) (s ∷ ss) (t ∷ ts) e a b k l f g w v =
      let st = one-first e s t k.1 l.1 in
      let next = one-next e s t k.0 l.0 st k.2 l.2 in
      let rest = one-trail m ss ts l.0 a b (subst (λ x. AreLeast p invs x ss a) next k.3) l.3 (omega (arith, f)) (omega (arith, g)) (less m ss a w) (less m ts b v) in
      (cons s t ss ts st rest.0, rest.1)
    where
      cons : (s t : Step) (ss ts : List Step) → s ≡ t → ss ≡ ts → (s ∷ ss) ≡ (t ∷ ts)
      cons s t ss ts h k = cc

      less : (m : ℕ) (us : List Step) (c : Expr) → (suc (length us) ≡ suc m) ⊎ IsStill p invs c → (length us ≡ m) ⊎ IsStill p invs c
      less m us c d = elim d [ inl z ↦ inl (omega (arith, z)) | inr h ↦ inr h ]

-- an expression has one trail
pub one-way : OneTrail
one-way p invs e t u a b =
    let k = one-trail p invs 4000 t.steps u.steps e t.end u.end a.steps b.steps a.few b.few a.whole b.whole in
    same t u k.0 k.1
  where
    same : (t u : Trail) → t.steps ≡ u.steps → t.end ≡ u.end → t ≡ u
    same t u h k = ap (λ ss. trail_of ss t.end) h ∙ ap (λ e. trail_of u.steps e) k
