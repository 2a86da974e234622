-- What holds of a program that is found.
use Rattle.std.specs.Prelude.{◌≡◌, ◌<◌, ◌≤◌, true, length}
use Rattle.std.specs.List.{AllByRecursion}
use Rattle.mig_schema.specs.declared.jobs.Job.{Job}
use Rattle.mig_schema.specs.declared.programs.Program.{Program}
use Rattle.mig_meaning.specs.declared.relating.Invariant.{Invariant}
use Rattle.mig_meaning.specs.declared.relating.Invariant.TheVariants.{Views, Unique, Apart, Within}
use Rattle.mig_steps.specs.declared.steps.Step.{Step}
use Rattle.mig_steps.specs.Limits.{is_short}
use Rattle.mig_certificate.specs.declared.proofs.Certificate.{Certificate}
use Rattle.mig_certificate.specs.declared.proofs.Entry.{Entry}
use Rattle.mig_certificate.specs.declared.proofs.PairProof.{PairProof}
use Rattle.mig_certificate.specs.Valid.{IsValid}
use Rattle.mig_corresp.specs.Pairs.{pairs}
use Rattle.mig_sketch.specs.Completed.{IsCompletion}
use Rattle.mig_search.specs.declared.outcomes.Outcome.{Outcome}
use Rattle.mig_search.specs.declared.outcomes.Outcome.TheVariants.{Found, Exhausted, Spent}

-- a view has an output, and no more than there are pairs of columns of one kind, so at most 256 in a job within the limits
abbrev pub HasOutputs : Job → Invariant → Type 0
HasOutputs job (Views source target) = (0 < length source.outs) × (length source.outs ≤ length (pairs job)) × (0 < length target.outs) × (length target.outs ≤ length (pairs job))
HasOutputs job (Unique side column) = Unit {0}
HasOutputs job (Apart side left right) = Unit {0}
HasOutputs job (Within side left right) = Unit {0}

-- a path and arguments of at most 16 numbers each
abbrev pub IsShortStep : Step → Type 0
IsShortStep s = is_short s ≡ true

-- at most 4,000 steps on each side, each of them short
pub record IsEntryWithin (e : Entry) : Type 0 where
  pub source : length e.source ≤ 4000
  pub target : length e.target ≤ 4000
  pub source_steps : AllByRecursion IsShortStep e.source
  pub target_steps : AllByRecursion IsShortStep e.target

-- at most 4,096 invariants, whose views have outputs, and entries within their limits
pub record IsCertificateWithin (job : Job) (c : Certificate) : Type 0 where
  pub invariants : length c.invariants.list ≤ 4096
  pub outputs : AllByRecursion (HasOutputs job) c.invariants.list
  pub entries : AllByRecursion (λ (x : PairProof). AllByRecursion IsEntryWithin x.entries) c.pairs

-- The program is typed over the new schema and within the limits, and keeps each function of the job. Its certificate is valid, and within its limits.
pub record IsRightFind (job : Job) (program : Program) (certificate : Certificate) : Type 0 where
  pub completes : IsCompletion job program
  pub valid : IsValid job program certificate
  pub within : IsCertificateWithin job certificate

-- so it is with a program that is found
abbrev pub IsRightOutcome : Job → Outcome → Type 0
IsRightOutcome job (Found program certificate tried) = IsRightFind job program certificate
IsRightOutcome job (Exhausted tried) = Unit {0}
IsRightOutcome job (Spent tried) = Unit {0}
