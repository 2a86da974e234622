-- There is one verdict on a certificate.
use Rattle.std.proofs.Common.{◌≡◌, ℕ, zero, suc, ◌<◌, List, [], ◌∷◌, ◌++◌, refl, sym, ap, ◌∙◌, inl, inr, ◌⊎◌, ⊎_elim}
use Rattle.std.proofs.lemmas.Bool.{cases_order, both_ways}
use Rattle.mig_schema.specs.declared.programs.Program.{Program}
use Rattle.mig_schema.specs.declared.jobs.Job.{Job}
use Rattle.mig_typing.specs.First.{IsFirstBroken, Before}
use Rattle.mig_certificate.specs.declared.proofs.Certificate.{Certificate}
use Rattle.mig_certificate.specs.BrokenPlace.{Place, FunctionDiffers, InvariantUnshaped, PairMissing, EntryMissing, StepFails, EndsDiffer, EntryExtra, PairExtra, numbers, broken}
use Rattle.mig_checker.specs.declared.verdicts.Verdict.{Verdict}
use Rattle.mig_checker.specs.declared.verdicts.Verdict.TheVariants.{Accepted, Rejected}
use Rattle.mig_checker.specs.Verdict.{verdict_at, IsVerdict}
use Rattle.mig_checker.proofs.NowhereBroken.{valid-unbroken}

-- the place that has these numbers, whatever stands behind them
abbrev place_of : List ℕ → Place
place_of (zero ∷ (n ∷ ns)) = FunctionDiffers n
place_of (suc zero ∷ (k ∷ ns)) = InvariantUnshaped k
place_of (suc (suc zero) ∷ (i ∷ (zero ∷ ns))) = PairMissing i
place_of (suc (suc zero) ∷ (i ∷ (suc zero ∷ (k ∷ (zero ∷ ns))))) = EntryMissing i k
place_of (suc (suc zero) ∷ (i ∷ (suc zero ∷ (k ∷ (suc zero ∷ (s ∷ ns)))))) = StepFails i k s
place_of (suc (suc zero) ∷ (i ∷ (suc zero ∷ (k ∷ (suc (suc zero) ∷ ns))))) = EndsDiffer i k
place_of (suc (suc zero) ∷ (i ∷ (suc (suc zero) ∷ ns))) = EntryExtra i
place_of _ = PairExtra

place-is : (o : Place) (ns : List ℕ) → place_of (numbers o ++ ns) ≡ o
place-is (FunctionDiffers n) ns = refl
place-is (InvariantUnshaped k) ns = refl
place-is (PairMissing i) ns = refl
place-is (EntryMissing i k) ns = refl
place-is (StepFails i k s) ns = refl
place-is (EndsDiffer i k) ns = refl
place-is (EntryExtra i) ns = refl
place-is PairExtra ns = refl

-- of two lists one is before the other, or one begins with the other
abbrev Compared : List ℕ → List ℕ → Type 0
Compared xs ys = Before xs ys ⊎ (Before ys xs ⊎ (((zs : List ℕ) × (ys ≡ xs ++ zs)) ⊎ ((zs : List ℕ) × (xs ≡ ys ++ zs))))

compared : (xs ys : List ℕ) → Compared xs ys
compared [] ys = inr (inr (inl (ys, refl)))
compared (x ∷ xs) [] = inr (inr (inr (x ∷ xs, refl)))
compared (x ∷ xs) (y ∷ ys) = ⊎_elim (λ e. same e (compared xs ys)) other (cases_order x y)
  where
    same : x ≡ y → Compared xs ys → Compared (x ∷ xs) (y ∷ ys)
    same e (inl b) = inl (inr (e, b))
    same e (inr (inl b)) = inr (inl (inr (sym e, b)))
    same e (inr (inr (inl z))) = inr (inr (inl (z.0, ap (λ a. a ∷ ys) (sym e) ∙ ap (λ ts. x ∷ ts) z.1)))
    same e (inr (inr (inr z))) = inr (inr (inr (z.0, ap (λ a. a ∷ xs) e ∙ ap (λ ts. y ∷ ts) z.1)))

    other : (x < y) ⊎ (y < x) → Compared (x ∷ xs) (y ∷ ys)
    other (inl l) = inl (inl l)
    other (inr l) = inr (inl (inl l))

begins : (xs : List ℕ) → xs ++ [] ≡ xs
begins [] = refl
begins (x ∷ xs) = ap (λ ys. x ∷ ys) (begins xs)

own-place : (o : Place) → place_of (numbers o) ≡ o
own-place o = ap place_of (sym (begins (numbers o))) ∙ place-is o []

module _ (j : Job) (p : Program) (c : Certificate) where
  -- there is one first broken place
  one-place : (a b : Place) → IsFirstBroken numbers (broken j p c) a → IsFirstBroken numbers (broken j p c) b → a ≡ b
  one-place a b f g = go (compared (numbers a) (numbers b))
    where
      go : Compared (numbers a) (numbers b) → a ≡ b
      go (inl l) = absurd (both_ways (broken j p c a) (g.before a l) f.here)
      go (inr (inl l)) = absurd (both_ways (broken j p c b) (f.before b l) g.here)
      go (inr (inr (inl z))) = sym (sym (own-place b) ∙ ap place_of z.1 ∙ place-is a z.0)
      go (inr (inr (inr z))) = sym (own-place a) ∙ ap place_of z.1 ∙ place-is b z.0

  -- and one verdict
  pub one-verdict : (v w : Verdict) → IsVerdict j p c v → IsVerdict j p c w → v ≡ w
  one-verdict Accepted Accepted h k = refl
  one-verdict Accepted (Rejected a b s y) h k = absurd (both_ways (broken j p c k.0) (valid-unbroken j p c h k.0) k.1.0.here)
  one-verdict (Rejected a b s y) Accepted h k = absurd (both_ways (broken j p c h.0) (valid-unbroken j p c k h.0) h.1.0.here)
  one-verdict (Rejected a b s y) (Rejected a' b' s' y') h k = sym h.1.1 ∙ ap (verdict_at j p c) (one-place h.0 k.0 h.1.0 k.1.0) ∙ k.1.1
