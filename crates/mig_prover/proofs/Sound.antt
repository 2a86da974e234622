-- The certificate of a closed program is valid.
use Rattle.std.proofs.Common.{◌≡◌, ℕ, suc, ◌+◌, ◌<◌, Bool, true, List, [], ◌∷◌, length, Some, refl, sym, ap, ◌∙◌, subst, inl, inr}
use Rattle.std.specs.Prelude.{slice_get, ◌&&◌}
use Rattle.std.specs.List.{list_all}
use Rattle.mig_schema.specs.declared.tables.Schema.{Schema}
use Rattle.mig_schema.specs.declared.programs.Body.{Body}
use Rattle.mig_schema.specs.declared.programs.Body.TheVariants.{Update, Query}
use Rattle.mig_schema.specs.declared.programs.Function.{Function}
use Rattle.mig_schema.specs.declared.programs.Program.{Program}
use Rattle.mig_schema.specs.declared.jobs.Job.{Job}
use Rattle.mig_meaning.specs.declared.relating.Invariant.{Invariant}
use Rattle.mig_meaning.specs.Functions.{SameFunctions}
use Rattle.mig_algebra.specs.declared.terms.Expr.{Expr}
use Rattle.mig_algebra.specs.Proper.{Sides}
use Rattle.mig_obligations.specs.declared.proving.Obligation.{Obligation}
use Rattle.mig_obligations.specs.Obligations.{obligations, holds_obligation}
use Rattle.mig_obligations.specs.Replay.{replay}
use Rattle.mig_obligations.specs.Shaped.{is_shaped}
use Rattle.mig_listing.specs.Listing.{IsIn}
use Rattle.mig_listing.proofs.Members.{in_map}
use Rattle.mig_steps.specs.declared.steps.Step.{Step}
use Rattle.mig_steps.proofs.Options.{get-within}
use Rattle.mig_rules.specs.Follow.{follow}
use Rattle.mig_certificate.specs.declared.proofs.Entry.{Entry}
use Rattle.mig_certificate.specs.declared.proofs.PairProof.{PairProof}
use Rattle.mig_certificate.specs.declared.proofs.Certificate.{Certificate}
use Rattle.mig_certificate.specs.Valid.{sides, IsEntryFor, AreEntriesFor, AreProofsOf, IsValid}
use Rattle.mig_prover.specs.declared.trails.Trail.{Trail}
use Rattle.mig_prover.specs.Simplified.{IsTrail}
use Rattle.mig_prover.specs.Closing.{IsClosed, IsClosedAfter, IsAnsweredBy}
use Rattle.mig_prover.specs.Rounds.{IsKept}
use Rattle.mig_prover.specs.Tracing.{IsTraced, AreTraced, AreTracesOf}
use Rattle.mig_prover.specs.declared.proving.Proof.{Proof}
use Rattle.mig_prover.specs.declared.proving.Proof.TheVariants.{Closed, Stuck}
use Rattle.mig_prover.specs.Proving.{IsClosing, IsProofFrom, IsSoundProof}
use Rattle.mig_prover.proofs.Closings.{closed-ends}
use Rattle.mig_prover.proofs.Stands.{kept-closed, kept-in}
use Rattle.mig_prover.proofs.LeastSteps.{least-replay}

-- what holds of each item of a list is true of all
pub all-true : {A : Type 0} (t : A → Bool) (xs : List A) → ((x : A) → IsIn x xs → t x ≡ true) → list_all t xs ≡ true
all-true t [] h = refl
all-true t (x ∷ xs) h = both (t x) (list_all t xs) (h x (inl refl)) (all-true t xs (λ y i. h y (inr i)))
  where
    both : (a b : Bool) → a ≡ true → b ≡ true → (a && b) ≡ true
    both a b e f = ap (λ c. c && b) e ∙ f

module _ (p : Sides) (facts : List Invariant) where
  -- the steps of a trail are followed to its end
  trail-replay : (e : Expr) (t : Trail) (ss : List Step) → IsTrail p facts e t → ss ≡ t.steps → replay (follow p facts) ss e ≡ Some t.end
  trail-replay e t ss w h = ap (λ xs. replay (follow p facts) xs e) h ∙ least-replay p facts t.steps e t.end w.steps

  entry-for : (k : ℕ) (o : Obligation) (e : Entry) → IsClosed p facts o → IsTraced p facts k o e → IsEntryFor p facts k o e
  entry-for k o e c t = record {
    claim = t.claim;
    ends = record {
      source = t.source.end;
      target = t.target.end;
      old = trail-replay o.source t.source e.source t.old t.old_steps;
      new = trail-replay o.target t.target e.target t.new t.new_steps;
      one = closed-ends p facts o t.source t.target t.old t.new c;
    };
  }

  entries-for : (k : ℕ) (os : List Obligation) (es : List Entry) → ((o : Obligation) → IsIn o os → IsClosed p facts o) → AreTraced p facts k os es → AreEntriesFor p facts k os es
  entries-for k [] [] c t = tt
  entries-for k [] (e ∷ es) c t = absurd t
  entries-for k (o ∷ os) [] c t = absurd t
  entries-for k (o ∷ os) (e ∷ es) c t = (entry-for k o e (c o (inl refl)) t.0, entries-for (k + 1) os es (λ q i. c q (inr i)) t.1)

  -- all obligations of a pair are closed, where those of its invariants and that of its queries are
  pair-closed : (a b : Body) → ((i : Invariant) → IsIn i facts → IsClosedAfter p facts i a b) → IsAnsweredBy p facts a b → (o : Obligation) → IsIn o (obligations facts a b) → IsClosed p facts o
  pair-closed (Update a) (Update b) c h o i =
      let k = in_map (holds_obligation (length a) (length b)) facts o i in
      subst (IsClosed p facts) (sym k.2) (c k.0 k.1)
  pair-closed (Update a) (Query r) c h o i = absurd i
  pair-closed (Query q) (Update b) c h o i = absurd i
  pair-closed (Query q) (Query r) c h o i = elim i [ inl e ↦ subst (IsClosed p facts) (sym e) h | inr none ↦ absurd none ]

-- all obligations of the pairs of two lists of functions are closed
abbrev PairsClosed : (s s' : Schema) (facts : List Invariant) → (fs gs : List Function) → Type 0
PairsClosed s s' facts fs gs = (n : ℕ) (f g : Function) → slice_get fs n ≡ Some f → slice_get gs n ≡ Some g → (o : Obligation) → IsIn o (obligations facts f.body g.body) → IsClosed (sides s s' f g) facts o

proofs-of : (s s' : Schema) (facts : List Invariant) (fs gs : List Function) (xs : List PairProof) → PairsClosed s s' facts fs gs → AreTracesOf s s' facts fs gs xs → AreProofsOf s s' facts fs gs xs
proofs-of s s' facts [] [] [] c t = tt
proofs-of s s' facts [] [] (x ∷ xs) c t = absurd t
proofs-of s s' facts [] (g ∷ gs) xs c t = absurd t
proofs-of s s' facts (f ∷ fs) [] xs c t = absurd t
proofs-of s s' facts (f ∷ fs) (g ∷ gs) [] c t = absurd t
proofs-of s s' facts (f ∷ fs) (g ∷ gs) (x ∷ xs) c t = (
  record { name = t.0.name; entries = entries-for (sides s s' f g) facts 0 (obligations facts f.body g.body) x.entries (c 0 f g refl refl) t.0.entries },
  proofs-of s s' facts fs gs xs (λ n a b h k. c (suc n) a b h k) t.1,
)

module _ (job : Job) (program : Program) (list facts : List Invariant) (c : Certificate) where
  pairs-closed : IsKept job program list facts → IsClosing job program facts c → PairsClosed job.source job.target facts job.program.functions program.functions
  pairs-closed kept closing n f g h k =
      let within : n < length job.program.functions = get-within job.program.functions n f h in
      pair-closed (sides job.source job.target f g) facts f.body g.body (λ i j. kept-closed job program list facts kept i j n within f g h k) (closing.answered n within f g h k)

  pub closing-valid : ((i : Invariant) → IsIn i list → is_shaped job.source job.target i ≡ true) → SameFunctions job.source job.target job.program program → IsKept job program list facts → IsClosing job program facts c → IsValid job program c
  closing-valid shaped same kept closing = record {
    functions = same;
    shaped = ap (list_all (is_shaped job.source job.target)) closing.invariants ∙ all-true (is_shaped job.source job.target) facts (λ i j. shaped i (kept-in job program list facts kept i j));
    proofs = subst (λ invs. AreProofsOf job.source job.target invs job.program.functions program.functions c.pairs) (sym closing.invariants)
        (proofs-of job.source job.target facts job.program.functions program.functions c.pairs (pairs-closed kept closing) closing.traces);
  }

-- the certificate, if a proof has one, is valid
pub proof-sound : (job : Job) (program : Program) (list : List Invariant) (proof : Proof) → ((i : Invariant) → IsIn i list → is_shaped job.source job.target i ≡ true) → SameFunctions job.source job.target job.program program → IsProofFrom job program list proof → IsSoundProof job program proof
proof-sound job program list (Closed c) shaped same h = closing-valid job program list h.facts c shaped same h.kept h.so
proof-sound job program list (Stuck query dropped) shaped same h = tt
