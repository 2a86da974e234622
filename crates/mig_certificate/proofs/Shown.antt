-- A valid certificate meets every obligation, where steps keep bags: so the new program answers as the old one does.
use Rattle.std.proofs.Common.{ℕ, zero, suc, ◌+◌, ◌<◌, List, [], ◌∷◌, length, get_or, arith}
use Rattle.mig_schema.specs.declared.tables.Schema.{Schema}
use Rattle.mig_schema.specs.declared.programs.Function.{Function}
use Rattle.mig_schema.specs.declared.programs.Program.{Program}
use Rattle.mig_schema.specs.declared.jobs.Job.{Job}
use Rattle.mig_meaning.specs.declared.relating.Invariant.{Invariant}
use Rattle.mig_meaning.specs.Lists.{Each}
use Rattle.mig_meaning.specs.Run.{no_function, function_at}
use Rattle.mig_meaning.specs.Equivalent.{AnswersAlike, IsEquivalent}
use Rattle.mig_meaning.specs.Meeting.{AreTyped}
use Rattle.mig_algebra.specs.Proper.{Sides}
use Rattle.mig_obligations.specs.declared.proving.Obligation.{Obligation}
use Rattle.mig_steps.specs.declared.steps.Step.{Step}
use Rattle.mig_rules.specs.Follow.{follow}
use Rattle.mig_obligations.specs.Obligations.{obligations, pair_at, AllMet}
use Rattle.mig_rules.specs.Keeping.{FollowLaw}
use Rattle.mig_obligations.specs.Replay.{EndsMeet}
use Rattle.mig_obligations.proofs.Reached.{met-alike, met-equivalent}
use Rattle.mig_obligations.proofs.Replayed.{all-ends-met}
use Rattle.mig_rules.proofs.StepsSound.{steps-sound}
use Rattle.mig_obligations.proofs.ProperObligations.{fit-at, all-proper}
use Rattle.mig_certificate.specs.declared.proofs.Entry.{Entry}
use Rattle.mig_certificate.specs.declared.proofs.PairProof.{PairProof}
use Rattle.mig_certificate.specs.declared.proofs.Certificate.{Certificate}
use Rattle.mig_certificate.specs.Valid.{sides, AreEntriesFor, AreProofsOf, IsValid}

-- the steps of a pair's entries show its obligations
entries-show : (p : Sides) (invs : List Invariant) (k : ℕ) (os : List Obligation) (es : List Entry) → AreEntriesFor p invs k os es → Each (λ (o : Obligation). (ts us : List Step) × EndsMeet (follow p invs) o ts us) os
entries-show p invs k [] [] h = tt
entries-show p invs k (o ∷ os) (e ∷ es) h = ((e.source, e.target, h.0.ends), entries-show p invs (k + 1) os es h.1)
entries-show p invs k [] (e ∷ es) h = absurd h
entries-show p invs k (o ∷ os) [] h = absurd h

-- those of each pair, by its number
proofs-show : (s s' : Schema) (invs : List Invariant) (fs gs : List Function) (xs : List PairProof) → AreProofsOf s s' invs fs gs xs → (n : ℕ) → n < length fs → Each (λ (o : Obligation). (ts us : List Step) × EndsMeet (follow (sides s s' (get_or fs n no_function) (get_or gs n no_function)) invs) o ts us) (obligations invs (get_or fs n no_function).body (get_or gs n no_function).body)
proofs-show s s' invs [] gs xs h n l = absurd (omega arith)
proofs-show s s' invs (f ∷ fs) [] xs h n l = absurd h
proofs-show s s' invs (f ∷ fs) (g ∷ gs) [] h n l = absurd h
proofs-show s s' invs (f ∷ fs) (g ∷ gs) (x ∷ xs) h zero l = entries-show (sides s s' f g) invs 0 (obligations invs f.body g.body) x.entries h.0.entries
proofs-show s s' invs (f ∷ fs) (g ∷ gs) (x ∷ xs) h (suc n) l = proofs-show s s' invs fs gs xs h.1 n (omega (arith, l))

module _ (j : Job) (p : Program) (c : Certificate) (v : IsValid j p c) (t : AreTyped j.source j.target j.program p) (law : FollowLaw) where
  -- every obligation is met
  pub valid-met : AllMet j.source j.target j.program p c.invariants.list
  valid-met = record {
    by = λ n l.
        all-ends-met (pair_at j.source j.target j.program p n) c.invariants.list (follow (pair_at j.source j.target j.program p n) c.invariants.list)
        (steps-sound law (pair_at j.source j.target j.program p n) c.invariants.list (fit-at j.source j.target j.program p c.invariants.list t v.shaped n l))
        (obligations c.invariants.list (function_at j.program n).body (function_at p n).body)
        (all-proper j.source j.target j.program p c.invariants.list t v.shaped n l)
        (proofs-show j.source j.target c.invariants.list j.program.functions p.functions c.pairs v.proofs n l);
  }

  -- so both programs answer alike by one supply
  pub valid-alike : AnswersAlike j.source j.target j.program p c.invariants.list
  valid-alike = met-alike j.source j.target j.program p c.invariants.list t valid-met

  -- and are equivalent
  pub valid-equivalent : IsEquivalent j.source j.target j.program p c.invariants.list
  valid-equivalent = met-equivalent j.source j.target j.program p c.invariants.list t valid-met
