-- What the prover makes of a program.
use Rattle.std.specs.Prelude.{◌≡◌, ℕ, ◌<◌, true, List, length}
use Rattle.mig_schema.specs.declared.programs.Program.{Program}
use Rattle.mig_schema.specs.declared.jobs.Job.{Job}
use Rattle.mig_schema.specs.Columns.{kind_of, same_kind}
use Rattle.mig_meaning.specs.declared.relating.Invariant.{Invariant}
use Rattle.mig_certificate.specs.declared.proofs.Certificate.{Certificate}
use Rattle.mig_certificate.specs.Valid.{IsValid}
use Rattle.mig_listing.specs.Listing.{IsIn}
use Rattle.mig_invariant.specs.declared.corresp.Corr.{Corr}
use Rattle.mig_invariant.specs.declared.corresp.ColPair.{ColPair}
use Rattle.mig_invariant.specs.Candidates.{candidates}
use Rattle.mig_prover.specs.declared.proving.Proof.{Proof}
use Rattle.mig_prover.specs.declared.proving.Proof.TheVariants.{Closed, Stuck}
use Rattle.mig_prover.specs.Closing.{IsAnswered}
use Rattle.mig_prover.specs.Rounds.{IsWithout, IsKept}
use Rattle.mig_prover.specs.Tracing.{AreTracesOf}

-- the queries among the first n functions are closed under these facts
abbrev pub AllAnswered : Job → Program → (facts : List Invariant) → ℕ → Type 0
AllAnswered job program facts n = (f : ℕ) → f < n → IsAnswered job program facts f

-- the program is closed, and the certificate has what is kept and the steps by which all obligations are simplified under it
pub record IsClosing (job : Job) (program : Program) (facts : List Invariant) (c : Certificate) : Type 0 where
  pub invariants : c.invariants.list ≡ facts
  pub answered : AllAnswered job program facts (length job.program.functions)
  pub traces : AreTracesOf job.source job.target facts job.program.functions program.functions c.pairs

-- the first query that is not closed under these facts
pub record IsFirstOpen (job : Job) (program : Program) (facts : List Invariant) (query : ℕ) : Type 0 where
  pub within : query < length job.program.functions
  pub before : AllAnswered job program facts query
  pub here : IsAnswered job program facts query → ⊥

-- closed under what is kept; or stuck at the first query that is not, with the candidates that are not kept, in their order
abbrev pub IsProvenBy : Job → Program → (list facts : List Invariant) → Proof → Type 0
IsProvenBy job program list facts (Closed c) = IsClosing job program facts c
IsProvenBy job program list facts (Stuck query dropped) = IsFirstOpen job program facts query × IsWithout (λ i. IsIn i facts → ⊥) list dropped.list

-- so it is with what is kept of a list of candidates
pub record IsProofFrom (job : Job) (program : Program) (list : List Invariant) (proof : Proof) : Type 0 where
  pub facts : List Invariant
  pub kept : IsKept job program list facts
  pub so : IsProvenBy job program list facts proof

-- so it is with what is kept of the candidates under a correspondence
abbrev pub IsProof : Job → Corr → Program → Proof → Type 0
IsProof job corr program proof = IsProofFrom job program (candidates job corr program) proof

-- each pair of a correspondence has equal kinds
pub record KeepsKinds (job : Job) (corr : Corr) : Type 0 where
  pub each : (q : ColPair) → IsIn q corr.pairs → same_kind (kind_of job.source q.source) (kind_of job.target q.target) ≡ true

-- a certificate of a closed program is valid
abbrev pub IsSoundProof : Job → Program → Proof → Type 0
IsSoundProof job program (Closed c) = IsValid job program c
IsSoundProof job program (Stuck query dropped) = Unit {0}

-- a program has one proof
abbrev pub OneProof : Type 0
OneProof = (job : Job) (program : Program) (list : List Invariant) (a b : Proof) → IsProofFrom job program list a → IsProofFrom job program list b → a ≡ b
