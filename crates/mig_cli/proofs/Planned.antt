-- From what files and bytes lead to, to what the plan says.
use Rattle.std.proofs.Common.{◌≡◌, ◌≢◌, ℕ, zero, suc, ◌<◌, List, Result, Ok, Err, IfOk, IfErr, ap, refl, arith}
use Rattle.std.specs.declared.alloc.AllocError.{AllocError}
use Rattle.mig_schema.specs.declared.faults.TypeFault.{TypeFault}
use Rattle.mig_schema.specs.declared.jobs.Job.{Job}
use Rattle.mig_schema.specs.declared.limits.Limit.{Limit}
use Rattle.mig_schema.specs.declared.limits.Limit.TheVariants.{Pairs}
use Rattle.mig_tokens.specs.Refused.{StandsWrong, StandsPast}
use Rattle.mig_grammar.specs.Spelling.{job_tokens}
use Rattle.mig_grammar.specs.Shapes.{IsJobTree}
use Rattle.mig_syntax.specs.declared.fault.TextFault.{TextFault}
use Rattle.mig_syntax.specs.declared.fault.TextFault.TheVariants as fault
use Rattle.mig_syntax.specs.Job.{IsMistypedJobText, HasManyPairs}
use Rattle.mig_search.specs.declared.outcomes.Options.{Options}
use Rattle.mig_messages.specs.Statuses.{fault_status}
use Rattle.mig_messages.specs.Lines as lines
use Rattle.mig_cli.specs.declared.planning.Plan.{Plan}
use Rattle.mig_cli.specs.Plans.{refusal}
use Rattle.mig_cli.specs.World.{FilesMeaning}
use Rattle.mig_cli.specs.Jobs as jobs
use Rattle.mig_cli.specs.Migrating as migrating
use Rattle.mig_cli.specs.Planned as spec

-- ---- jobs

module _ (file bytes : List ℕ) where
  abbrev unread : TextFault → Result Job TextFault
  unread e = Err e

  -- a refusal for another reason than memory is the fault of the bytes
  text-fault : (e : TextFault) → e ≢ fault.Memory
      → ((row column : ℕ) → unread e ≡ Err (fault.At row column) → StandsWrong job_tokens IsJobTree bytes row column)
      → ((which : Limit) (row : ℕ) → 0 < row → unread e ≡ Err (fault.Limit which row) → StandsPast job_tokens IsJobTree which bytes row)
      → ((f : TypeFault) → unread e ≡ Err (fault.Typing f) → IsMistypedJobText bytes f)
      → ((which : Limit) → unread e ≡ Err (fault.Limit which 0) → (which ≡ Pairs) × HasManyPairs bytes)
      → jobs.IsTextFault bytes e
  text-fault fault.Memory other wrong past typing pairs = absurd (other refl)
  text-fault (fault.At row column) other wrong past typing pairs = jobs.wrong row column (wrong row column refl) refl
  text-fault (fault.Limit which zero) other wrong past typing pairs = let h = pairs which refl in jobs.many h.1 (ap (λ (l : Limit). fault.Limit l 0) h.0)
  text-fault (fault.Limit which (suc row)) other wrong past typing pairs = jobs.past which (suc row) (past which (suc row) (omega arith) refl) refl
  text-fault (fault.Typing f) other wrong past typing pairs = jobs.mistyped f (typing f refl) refl

  -- the plan of bytes that were refused
  pub faulty : (e : TextFault) (p : Plan)
      → (e ≢ fault.Memory) × (p ≡ refusal (fault_status e) (lines.fault_line file e))
      → ((row column : ℕ) → unread e ≡ Err (fault.At row column) → StandsWrong job_tokens IsJobTree bytes row column)
      → ((which : Limit) (row : ℕ) → 0 < row → unread e ≡ Err (fault.Limit which row) → StandsPast job_tokens IsJobTree which bytes row)
      → ((f : TypeFault) → unread e ≡ Err (fault.Typing f) → IsMistypedJobText bytes f)
      → ((which : Limit) → unread e ≡ Err (fault.Limit which 0) → (which ≡ Pairs) × HasManyPairs bytes)
      → spec.IsFaulty file bytes p
  faulty e p h wrong past typing pairs = record { fault = e; first = text-fault e h.0 wrong past typing pairs; is = h.1 }

module _ (file : List ℕ) (before after : FilesMeaning) where
  -- a file that was not fetched gives no job
  pub no-bytes : (p : Plan) → spec.IsUnfetched file jobs.job_cap before after p → spec.IsNoJob file before after p
  no-bytes p (spec.unread h) = spec.unread h
  no-bytes p (spec.long longer is) = spec.refused (jobs.long longer is)

  -- nor one whose bytes have a fault
  pub no-texts : (bytes : List ℕ) (r : Result (Result Job Plan) AllocError) → jobs.Gave before.told file jobs.job_cap bytes → IfOk r (λ q. IfErr q (spec.IsFaulty file bytes))
      → IfOk r (λ q. IfErr q (spec.IsNoJob file before after))
  no-texts bytes (Ok (Ok job)) gave h = tt
  no-texts bytes (Ok (Err p)) gave h = spec.refused (jobs.faulty bytes h.fault gave h.first h.is)
  no-texts bytes (Err e) gave h = tt

  -- ---- migrating

  -- a file without a job is migrated to its refusal
  pub not-migrated : (options : Options) (p : Plan) → spec.IsNoJob file before after p → spec.IsMigratePlan file options before after p
  not-migrated options p (spec.unread h) = spec.unread h
  not-migrated options p (spec.refused h) = spec.migrated (migrating.refused h)

  -- the plan of a job that was read
  pub migrated : (options : Options) (job : Job) (r : Result Plan AllocError) → jobs.GaveJob before.told file job → IfOk r (migrating.IsSearched job options) → IfOk r (spec.IsMigratePlan file options before after)
  migrated options job (Ok p) gave h = spec.migrated (migrating.searched job gave h)
  migrated options job (Err a) gave h = tt
