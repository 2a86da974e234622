-- An obligation is closed where the ends of its two trails meet, since there are no other trails.
use Rattle.std.proofs.Common.{◌≡◌, ◌↔◌, ℕ, ◌+◌, ◌<◌, Bool, true, List, sym, ap, ◌∙◌, subst, inl, inr, arith}
use Rattle.std.proofs.lemmas.Bool.{cases_from_iff}
use Rattle.mig_meaning.specs.declared.relating.Invariant.{Invariant}
use Rattle.mig_listing.proofs.Orders.{less_total}
use Rattle.mig_algebra.specs.Proper.{Sides}
use Rattle.mig_algebra.specs.Tidied.{tidied}
use Rattle.mig_obligations.specs.declared.proving.Obligation.{Obligation}
use Rattle.mig_prover.specs.declared.trails.Trail.{Trail}
use Rattle.mig_prover.specs.Simplified.{IsTrail}
use Rattle.mig_prover.specs.Closing.{Tells, IsClosed}
use Rattle.mig_prover.proofs.OneWay.{one-way}

module _ (p : Sides) (facts : List Invariant) where
  -- the ends of any two trails of a closed obligation meet
  pub closed-ends : (o : Obligation) (s t : Trail) → IsTrail p facts o.source s → IsTrail p facts o.target t → IsClosed p facts o → tidied s.end ≡ tidied t.end
  closed-ends o s t old new c =
      ap (λ (x : Trail). tidied x.end) (one-way p facts o.source s c.source old c.old) ∙ (c.one ∙ ap (λ (x : Trail). tidied x.end) (one-way p facts o.target c.target t c.new new))

  -- a test whether the ends meet tells
  pub closed-by : (o : Obligation) (s t : Trail) (b : Bool) → IsTrail p facts o.source s → IsTrail p facts o.target t → ((b ≡ true) ↔ (tidied s.end ≡ tidied t.end)) → Tells b (IsClosed p facts o)
  closed-by o s t b old new e =
      cases_from_iff ((λ h. record { source = s; target = t; old = old; new = new; one = e.0 h }), (λ c. e.1 (closed-ends o s t old new c)))

-- what holds below n and at n holds below the next number
pub holds-below : (P : ℕ → Type 0) (n : ℕ) → ((k : ℕ) → k < n → P k) → P n → (k : ℕ) → k < n + 1 → P k
holds-below P n h g k l = elim (less_total k n) [ inl e ↦ subst P (sym e) g | inr d ↦ elim d [ inl lt ↦ h k lt | inr gt ↦ absurd (omega (arith, gt, l)) ] ]
