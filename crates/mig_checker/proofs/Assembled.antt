-- The verdict from the first broken place of each part.
use Rattle.std.proofs.Common.{◌≡◌, ℕ, true, false, not, [], ◌∷◌, length, refl, sym, arith, inl, inr, subst, Option, Some, None}
use Rattle.std.specs.Prelude.{nat_lt, slice_get}
use Rattle.mig_schema.specs.declared.programs.Program.{Program}
use Rattle.mig_schema.specs.declared.jobs.Job.{Job}
use Rattle.mig_typing.specs.First.{IsFirst, IsFirstBroken, Before}
use Rattle.mig_typing.specs.Broken.{item_has}
use Rattle.mig_meaning.specs.declared.relating.Invariant.{Invariant}
use Rattle.mig_meaning.specs.Meeting.{AreTyped}
use Rattle.mig_rules.specs.Keeping.{FollowLaw}
use Rattle.mig_obligations.specs.Shaped.{is_shaped}
use Rattle.mig_certificate.specs.declared.proofs.Certificate.{Certificate}
use Rattle.mig_certificate.specs.Valid.{IsValid}
use Rattle.mig_certificate.specs.BrokenPlace.{Place, FunctionDiffers, InvariantUnshaped, PairMissing, EntryMissing, StepFails, EndsDiffer, EntryExtra, PairExtra, numbers, differ, broken}
use Rattle.mig_certificate.proofs.Unbroken.{unbroken-valid}
use Rattle.mig_certificate.proofs.Shown.{valid-alike, valid-equivalent}
use Rattle.mig_checker.specs.declared.verdicts.Verdict.{Verdict}
use Rattle.mig_checker.specs.declared.verdicts.Verdict.TheVariants.{Accepted, Rejected}
use Rattle.mig_checker.specs.declared.places.InEntry.TheVariants.{Missing, Step as StepAt, Ends}
use Rattle.mig_checker.specs.declared.places.InPair.{InPair}
use Rattle.mig_checker.specs.declared.places.InPair.TheVariants as pair
use Rattle.mig_checker.specs.Accepted.{AcceptedMeans}
use Rattle.mig_checker.specs.Inside.{pair_numbers, at_pair}
use Rattle.mig_checker.specs.Verdict.{verdict_at, IsVerdict}

-- the numbers of a place of pair i
numbers-at : (i : ℕ) (q : InPair) → numbers (at_pair i q) ≡ 2 ∷ (i ∷ pair_numbers q)
numbers-at i pair.Missing = refl
numbers-at i (pair.Entry k Missing) = refl
numbers-at i (pair.Entry k (StepAt s)) = refl
numbers-at i (pair.Entry k Ends) = refl
numbers-at i pair.Extra = refl

module _ (j : Job) (p : Program) (c : Certificate) where
  -- the first function that differs
  abbrev pub Functions : Option ℕ → Type 0
  Functions r = IsFirst (λ n. n ∷ []) (λ n. differ j.source j.target (slice_get j.program.functions n) (slice_get p.functions n)) r

  -- the first invariant that isn't shaped
  abbrev pub Unshaped : Option ℕ → Type 0
  Unshaped r = IsFirst (λ k. k ∷ []) (item_has (λ (i : Invariant). not (is_shaped j.source j.target i)) c.invariants.list) r

  -- the first place in a pair
  abbrev pub Pairs : Option (ℕ × InPair) → Type 0
  Pairs r = IsFirst (λ (q : ℕ × InPair). q.0 ∷ pair_numbers q.1) (λ q. broken j p c (at_pair q.0 q.1)) r

  pub functions-first : (n : ℕ) → Functions (Some n) → IsFirstBroken numbers (broken j p c) (FunctionDiffers n)
  functions-first n f = record { here = f.here; before = earlier }
    where
      earlier : (o : Place) → Before (numbers o) (numbers (FunctionDiffers n)) → broken j p c o ≡ false
      earlier (FunctionDiffers m) (inl l) = absurd (omega (arith, l))
      earlier (FunctionDiffers m) (inr r) = f.before m r.1
      earlier (InvariantUnshaped k) (inl l) = absurd (omega (arith, l))
      earlier (InvariantUnshaped k) (inr r) = absurd (let e = r.0 in omega (arith, e))
      earlier (PairMissing i) (inl l) = absurd (omega (arith, l))
      earlier (PairMissing i) (inr r) = absurd (let e = r.0 in omega (arith, e))
      earlier (EntryMissing i k) (inl l) = absurd (omega (arith, l))
      earlier (EntryMissing i k) (inr r) = absurd (let e = r.0 in omega (arith, e))
      earlier (StepFails i k s) (inl l) = absurd (omega (arith, l))
      earlier (StepFails i k s) (inr r) = absurd (let e = r.0 in omega (arith, e))
      earlier (EndsDiffer i k) (inl l) = absurd (omega (arith, l))
      earlier (EndsDiffer i k) (inr r) = absurd (let e = r.0 in omega (arith, e))
      earlier (EntryExtra i) (inl l) = absurd (omega (arith, l))
      earlier (EntryExtra i) (inr r) = absurd (let e = r.0 in omega (arith, e))
      earlier PairExtra (inl l) = absurd (omega (arith, l))
      earlier PairExtra (inr r) = absurd (let e = r.0 in omega (arith, e))

  -- no place of a pair is before an invariant
  late : (k : ℕ) (i : ℕ) (q : InPair) → Before (numbers (at_pair i q)) (1 ∷ (k ∷ [])) → ⊥
  late k i q b = go (subst (λ ns. Before ns (1 ∷ (k ∷ []))) (numbers-at i q) b)
    where
      go : Before (2 ∷ (i ∷ pair_numbers q)) (1 ∷ (k ∷ [])) → ⊥
      go (inl l) = omega (arith, l)
      go (inr r) = let e = r.0 in omega (arith, e)

  module _ (f : Functions None) where
    pub unshaped-first : (k : ℕ) → Unshaped (Some k) → IsFirstBroken numbers (broken j p c) (InvariantUnshaped k)
    unshaped-first k u = record { here = u.here; before = earlier }
      where
        earlier : (o : Place) → Before (numbers o) (numbers (InvariantUnshaped k)) → broken j p c o ≡ false
        earlier (FunctionDiffers m) l = f m
        earlier (InvariantUnshaped m) (inl l) = absurd (omega (arith, l))
        earlier (InvariantUnshaped m) (inr r) = u.before m r.1
        earlier (PairMissing i) b = absurd (late k i pair.Missing b)
        earlier (EntryMissing i m) b = absurd (late k i (pair.Entry m Missing) b)
        earlier (StepFails i m s) b = absurd (late k i (pair.Entry m (StepAt s)) b)
        earlier (EndsDiffer i m) b = absurd (late k i (pair.Entry m Ends) b)
        earlier (EntryExtra i) b = absurd (late k i pair.Extra b)
        earlier PairExtra (inl l) = absurd (omega (arith, l))
        earlier PairExtra (inr r) = absurd (let e = r.0 in omega (arith, e))

    module _ (u : Unshaped None) where
      pub pair-first : (i : ℕ) (q : InPair) → Pairs (Some (i, q)) → IsFirstBroken numbers (broken j p c) (at_pair i q)
      pair-first i q w = record { here = w.here; before = λ o b. earlier o (subst (λ ns. Before (numbers o) ns) (numbers-at i q) b) }
        where
          among : (m : ℕ) (o : InPair) → Before (numbers (at_pair m o)) (2 ∷ (i ∷ pair_numbers q)) → broken j p c (at_pair m o) ≡ false
          among m o b = go (subst (λ ns. Before ns (2 ∷ (i ∷ pair_numbers q))) (numbers-at m o) b)
            where
              go : Before (2 ∷ (m ∷ pair_numbers o)) (2 ∷ (i ∷ pair_numbers q)) → broken j p c (at_pair m o) ≡ false
              go (inl l) = absurd (omega (arith, l))
              go (inr r) = w.before (m, o) r.1

          earlier : (o : Place) → Before (numbers o) (2 ∷ (i ∷ pair_numbers q)) → broken j p c o ≡ false
          earlier (FunctionDiffers m) b = f m
          earlier (InvariantUnshaped m) b = u m
          earlier (PairMissing m) b = among m pair.Missing b
          earlier (EntryMissing m k) b = among m (pair.Entry k Missing) b
          earlier (StepFails m k s) b = among m (pair.Entry k (StepAt s)) b
          earlier (EndsDiffer m k) b = among m (pair.Entry k Ends) b
          earlier (EntryExtra m) b = among m pair.Extra b
          earlier PairExtra (inl l) = absurd (omega (arith, l))
          earlier PairExtra (inr r) = absurd (let e = r.0 in omega (arith, e))

      module _ (w : Pairs None) where
        pub extra-last : nat_lt (length j.program.functions) (length c.pairs) ≡ true → IsFirstBroken numbers (broken j p c) PairExtra
        extra-last h = record { here = h; before = earlier }
          where
            earlier : (o : Place) → Before (numbers o) (numbers PairExtra) → broken j p c o ≡ false
            earlier (FunctionDiffers m) b = f m
            earlier (InvariantUnshaped m) b = u m
            earlier (PairMissing m) b = w (m, pair.Missing)
            earlier (EntryMissing m k) b = w (m, pair.Entry k Missing)
            earlier (StepFails m k s) b = w (m, pair.Entry k (StepAt s))
            earlier (EndsDiffer m k) b = w (m, pair.Entry k Ends)
            earlier (EntryExtra m) b = w (m, pair.Extra)
            earlier PairExtra (inl l) = absurd (omega (arith, l))
            earlier PairExtra (inr r) = absurd r.1

        pub all-clear : nat_lt (length j.program.functions) (length c.pairs) ≡ false → IsValid j p c
        all-clear h = unbroken-valid j p c nowhere
          where
            nowhere : (o : Place) → broken j p c o ≡ false
            nowhere (FunctionDiffers m) = f m
            nowhere (InvariantUnshaped m) = u m
            nowhere (PairMissing m) = w (m, pair.Missing)
            nowhere (EntryMissing m k) = w (m, pair.Entry k Missing)
            nowhere (StepFails m k s) = w (m, pair.Entry k (StepAt s))
            nowhere (EndsDiffer m k) = w (m, pair.Entry k Ends)
            nowhere (EntryExtra m) = w (m, pair.Extra)
            nowhere PairExtra = h

  -- a verdict at the first broken place
  pub at-first : (o : Place) (v : Verdict) → IsFirstBroken numbers (broken j p c) o → v ≡ verdict_at j p c o → IsVerdict j p c v
  at-first o v f e = subst (IsVerdict j p c) (sym e) (go o f)
    where
      go : (o : Place) → IsFirstBroken numbers (broken j p c) o → IsVerdict j p c (verdict_at j p c o)
      go (FunctionDiffers n) f = (FunctionDiffers n, (f, refl))
      go (InvariantUnshaped k) f = (InvariantUnshaped k, (f, refl))
      go (PairMissing i) f = (PairMissing i, (f, refl))
      go (EntryMissing i k) f = (EntryMissing i k, (f, refl))
      go (StepFails i k s) f = (StepFails i k s, (f, refl))
      go (EndsDiffer i k) f = (EndsDiffer i k, (f, refl))
      go (EntryExtra i) f = (EntryExtra i, (f, refl))
      go PairExtra f = (PairExtra, (f, refl))

  -- what a verdict means
  pub verdict-means : FollowLaw → (v : Verdict) → IsVerdict j p c v → AcceptedMeans j p c v
  verdict-means law Accepted v = λ t.
      let typed : AreTyped j.source j.target j.program p = record { source = t.source; target = t.target; source_labels = t.source_labels; target_labels = t.target_labels; functions = v.functions; no_keys = t.no_keys } in
      record { alike = valid-alike j p c v typed law; equivalent = valid-equivalent j p c v typed law }
  verdict-means law (Rejected pair obligation step why) v = tt
