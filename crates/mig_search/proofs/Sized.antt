-- A certificate of the prover is within its limits.
use Rattle.std.proofs.Common.{◌≡◌, ℕ, zero, suc, ◌+◌, ◌≤◌, true, false, Bool, List, [], ◌∷◌, take, length, refl, ap, sym, subst, inl, inr, arith}
use Rattle.std.specs.Prelude.{Option, Some, None, cond}
use Rattle.std.specs.List.{AllByRecursion}
use Rattle.std.proofs.lemmas.Option.{none-some}
use Rattle.mig_schema.specs.declared.jobs.Job.{Job}
use Rattle.mig_schema.specs.declared.programs.Function.{Function}
use Rattle.mig_schema.specs.declared.programs.Program.{Program}
use Rattle.mig_schema.specs.declared.tables.Schema.{Schema}
use Rattle.mig_listing.specs.Listing.{IsIn}
use Rattle.mig_meaning.specs.declared.relating.Invariant.{Invariant}
use Rattle.mig_algebra.specs.declared.terms.Expr.{Expr}
use Rattle.mig_algebra.specs.Proper.{Sides}
use Rattle.mig_obligations.specs.declared.proving.Obligation.{Obligation}
use Rattle.mig_obligations.specs.Obligations.{obligations}
use Rattle.mig_steps.specs.declared.steps.Step.{Step}
use Rattle.mig_steps.specs.Limits.{is_short}
use Rattle.mig_rules.specs.Follow.{follow}
use Rattle.mig_certificate.specs.declared.proofs.Certificate.{Certificate}
use Rattle.mig_certificate.specs.declared.proofs.Entry.{Entry}
use Rattle.mig_certificate.specs.declared.proofs.PairProof.{PairProof}
use Rattle.mig_certificate.specs.Valid.{IsValid, sides}
use Rattle.mig_invariant.specs.declared.corresp.Corr.{Corr}
use Rattle.mig_invariant.specs.Columns.{all_columns}
use Rattle.mig_invariant.specs.Candidates.{candidates, facts, joins_of, listed, once}
use Rattle.mig_sketch.specs.Completed.{IsCompletion}
use Rattle.mig_prover.specs.declared.proving.Proof.TheVariants.{Closed}
use Rattle.mig_prover.specs.Proving.{IsProof, KeepsKinds}
use Rattle.mig_prover.specs.Rounds.{IsWithout, IsRound, Stays, StandsAfter}
use Rattle.mig_prover.specs.Simplified.{AreLeast}
use Rattle.mig_prover.specs.Tracing.{AreTraced, AreTracesOf, IsTraced}
use Rattle.mig_search.proofs.Outputs.{listed_outputs}
use Rattle.mig_search.specs.Finds.{HasOutputs, IsCertificateWithin, IsEntryWithin, IsRightFind, IsShortStep}

-- ---- what is kept are some of the candidates

without_in : {A : Type 0} (P : A → Type 0) (xs ys : List A) → IsWithout P xs ys → (z : A) → IsIn z ys → IsIn z xs
without_in P [] ys h z i = subst (IsIn z) h i
without_in P (x ∷ xs) ys h z i = elim h [
  | inl k ↦ elim (subst (IsIn z) k.2 i) [ inl e ↦ inl e | inr j ↦ inr (without_in P xs k.1 k.3 z j) ]
  | inr k ↦ inr (without_in P xs ys k.1 z i)
]

without_few : {A : Type 0} (P : A → Type 0) (xs ys : List A) → IsWithout P xs ys → length ys ≤ length xs
without_few P [] ys h = let e : length ys ≡ 0 = ap length h in omega (arith, e)
without_few P (x ∷ xs) ys h = elim h [
  | inl k ↦ let le = without_few P xs k.1 k.3 in let e : length ys ≡ suc (length k.1) = ap length k.2 in omega (arith, le, e)
  | inr k ↦ let le = without_few P xs ys k.1 in omega (arith, le)
]

-- some of them, and no more
pub record AreSome (list some : List Invariant) : Type 0 where
  pub among : (z : Invariant) → IsIn z some → IsIn z list
  pub few : length some ≤ length list

some_on : (xs ys zs : List Invariant) → AreSome xs ys → AreSome ys zs → AreSome xs zs
some_on xs ys zs a b = record { among = λ z i. a.among z (b.among z i); few = omega (arith, a.few, b.few) }

without_some : (P : Invariant → Type 0) (xs ys : List Invariant) → IsWithout P xs ys → AreSome xs ys
without_some P xs ys h = record { among = without_in P xs ys h; few = without_few P xs ys h }

module _ (job : Job) (p : Program) where
  round_some : (left next : List Invariant) → IsRound job p left next → AreSome left next
  round_some left next r = elim r.then_views [
    | inl h ↦ subst (AreSome left) (sym h.0) (without_some (Stays job p false left) left r.plain r.without_plain)
    | inr h ↦ without_some (Stays job p true left) left next h.1
  ]

  stands_some : (n : ℕ) (list stands : List Invariant) → StandsAfter n job p list stands → AreSome list stands
  stands_some zero list stands h = absurd h
  stands_some (suc n) list stands h = elim h.2 [
    | inl k ↦ subst (AreSome list) (sym k.1) (record { among = λ z i. i; few = omega arith })
    | inr k ↦ some_on list h.0 stands (round_some list h.0 h.1) (stands_some n h.0 stands k.1)
  ]

take_few : {A : Type 0} (n : ℕ) (xs : List A) → length (take n xs) ≤ n
take_few zero xs = omega arith
take_few (suc n) [] = omega arith
take_few (suc n) (x ∷ xs) = let le = take_few n xs in omega (arith, le)

-- ---- steps

each_from : {A : Type 0} (P : A → Type 0) (xs : List A) → ((x : A) → IsIn x xs → P x) → AllByRecursion P xs
each_from P [] h = tt
each_from P (x ∷ xs) h = (h x (inl refl), each_from P xs (λ y i. h y (inr i)))

short_where : (b : Bool) (x : Option Expr) (next : Expr) → cond b x None ≡ Some next → b ≡ true
short_where true x next h = refl
short_where false x next h = absurd (none-some next h)

-- a step that follows is short
follows_short : (p : Sides) (invs : List Invariant) (s : Step) (e next : Expr) → follow p invs s e ≡ Some next → IsShortStep s
follows_short p invs s e next h = short_where (is_short s) _ next h

steps_short : (p : Sides) (invs : List Invariant) (e : Expr) (ss : List Step) (last : Expr) → AreLeast p invs e ss last → AllByRecursion IsShortStep ss
steps_short p invs e [] last h = tt
steps_short p invs e (s ∷ ss) last h = (follows_short p invs s e h.0 h.2, steps_short p invs h.0 ss last h.3)

entry_within : (p : Sides) (facts : List Invariant) (k : ℕ) (o : Obligation) (e : Entry) → IsTraced p facts k o e → IsEntryWithin e
entry_within p facts k o e h = record {
  source = subst (λ (ss : List Step). length ss ≤ 4000) (sym h.old_steps) h.old.few;
  target = subst (λ (ss : List Step). length ss ≤ 4000) (sym h.new_steps) h.new.few;
  source_steps = subst (AllByRecursion IsShortStep) (sym h.old_steps) (steps_short p facts o.source h.source.steps h.source.end h.old.steps);
  target_steps = subst (AllByRecursion IsShortStep) (sym h.new_steps) (steps_short p facts o.target h.target.steps h.target.end h.new.steps);
}

entries_within : (p : Sides) (facts : List Invariant) (k : ℕ) (os : List Obligation) (es : List Entry) → AreTraced p facts k os es → AllByRecursion IsEntryWithin es
entries_within p facts k [] [] h = tt
entries_within p facts k [] (e ∷ es) h = absurd h
entries_within p facts k (o ∷ os) [] h = absurd h
entries_within p facts k (o ∷ os) (e ∷ es) h = (entry_within p facts k o e h.0, entries_within p facts (k + 1) os es h.1)

pairs_within : (s s' : Schema) (facts : List Invariant) (fs gs : List Function) (xs : List PairProof) → AreTracesOf s s' facts fs gs xs → AllByRecursion (λ (x : PairProof). AllByRecursion IsEntryWithin x.entries) xs
pairs_within s s' facts [] [] [] h = tt
pairs_within s s' facts [] [] (x ∷ xs) h = absurd h
pairs_within s s' facts [] (g ∷ gs) xs h = absurd h
pairs_within s s' facts (f ∷ fs) [] xs h = absurd h
pairs_within s s' facts (f ∷ fs) (g ∷ gs) [] h = absurd h
pairs_within s s' facts (f ∷ fs) (g ∷ gs) (x ∷ xs) h = (entries_within (sides s s' f g) facts 0 (obligations facts f.body g.body) x.entries h.0.entries, pairs_within s s' facts fs gs xs h.1)

-- ---- the certificate

certificate_within : (job : Job) (corr : Corr) (p : Program) (c : Certificate) → KeepsKinds job corr → IsProof job corr p (Closed c) → IsCertificateWithin job c
certificate_within job corr p c kinds h =
    let some = stands_some job p h.kept.0 (candidates job corr p) h.facts h.kept.1 in
    let le = take_few 4096 (once (listed job corr (all_columns job.source) (all_columns job.target) (joins_of job.program) (joins_of p))) in
    record {
      invariants = subst (λ (is : List Invariant). length is ≤ 4096) (sym h.so.invariants) (omega (arith, le, some.few));
      outputs = subst (AllByRecursion (HasOutputs job)) (sym h.so.invariants) (each_from (HasOutputs job) h.facts (λ z i. listed_outputs job corr p kinds z (some.among z i)));
      entries = pairs_within job.source job.target h.facts job.program.functions p.functions c.pairs h.so.traces;
    }

pub right_find : (job : Job) (corr : Corr) (p : Program) (c : Certificate) → KeepsKinds job corr → IsCompletion job p → IsProof job corr p (Closed c) → IsValid job p c → IsRightFind job p c
right_find job corr p c kinds completes proof valid = record { completes = completes; valid = valid; within = certificate_within job corr p c kinds proof }
