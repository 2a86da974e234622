-- What is made of the program of a completion.
use Rattle.std.specs.Prelude.{ℕ, Some, None}
use Rattle.mig_schema.specs.declared.jobs.Job.{Job}
use Rattle.mig_schema.specs.declared.programs.Program.{Program}
use Rattle.mig_meaning.specs.declared.relating.Invariants.{Invariants}
use Rattle.mig_certificate.specs.declared.proofs.Certificate.{Certificate}
use Rattle.mig_invariant.specs.declared.corresp.Corr.{Corr}
use Rattle.mig_failing.specs.Failing.{IsFailing}
use Rattle.mig_prover.specs.declared.proving.Proof.TheVariants.{Closed, Stuck}
use Rattle.mig_prover.specs.Proving.{IsProof}
use Rattle.mig_search.specs.declared.outcomes.Tried.{Tried}
use Rattle.mig_search.specs.declared.outcomes.Tried.TheVariants as tried
use Rattle.mig_search.specs.declared.stopping.Verdict.{Verdict}
use Rattle.mig_search.specs.declared.stopping.Verdict.TheVariants as verdict

-- it has no failing list among the tests, and is closed
pub record IsFind (job : Job) (corr : Corr) (tests : ℕ) (program : Program) (certificate : Certificate) : Type 0 where
  pub unfailing : IsFailing job program tests None
  pub closed : IsProof job corr program (Closed certificate)

-- it has no failing list among the tests, and this is its first query that is not closed
pub record IsUnproved (job : Job) (corr : Corr) (tests : ℕ) (program : Program) (query : ℕ) : Type 0 where
  pub unfailing : IsFailing job program tests None
  pub dropped : Invariants
  pub stuck : IsProof job corr program (Stuck query dropped)

-- the entry of a program that is looked at and is not the find
abbrev pub IsEntry : Job → Corr → (tests : ℕ) → Program → Tried → Type 0
IsEntry job corr tests program (tried.Refuted calls) = IsFailing job program tests (Some calls)
IsEntry job corr tests program (tried.Unproved query) = IsUnproved job corr tests program query
IsEntry job corr tests program (tried.NoOption f) = ⊥
IsEntry job corr tests program (tried.Wide f) = ⊥

-- the one or the other
abbrev pub IsVerdict : Job → Corr → (tests : ℕ) → Program → Verdict → Type 0
IsVerdict job corr tests program (verdict.Find certificate) = IsFind job corr tests program certificate
IsVerdict job corr tests program (verdict.Entry entry) = IsEntry job corr tests program entry
