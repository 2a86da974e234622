-- Both programs as they are asked, the stores after some calls, and what is left of the number of tests.
use Rattle.std.specs.Prelude.{◌≡◌, ℕ, ◌-◌, Bool, false, List, length, take, Option, Some, None}
use Rattle.mig_schema.specs.declared.jobs.Job.{Job}
use Rattle.mig_schema.specs.declared.programs.Program.{Program}
use Rattle.mig_schema.specs.declared.tables.Schema.{Schema}
use Rattle.mig_schema.specs.Typed.{IsTypedProgram}
use Rattle.mig_schema.specs.Within.{IsProgramWithin}
use Rattle.mig_meaning.specs.declared.calling.Calls.{Calls}
use Rattle.mig_meaning.specs.declared.calling.Invocation.{Invocation}
use Rattle.mig_meaning.specs.Calls.{IsCall}
use Rattle.mig_meaning.specs.Functions.{SameFunctions}
use Rattle.mig_meaning.specs.Lists.{Each}
use Rattle.mig_meaning.specs.Run.{function_at}
use Rattle.mig_storage.specs.Layout.{IsShort, layout_of}
use Rattle.mig_storage.specs.Meaning.{Meaning}
use Rattle.mig_store.specs.Runs.{is_query, state_after}
use Rattle.mig_failing.specs.Failing.{AgreeOn, IsFirstFailing}

-- two programs that can be asked the same calls
pub record CanBeAsked (job : Job) (p : Program) : Type 0 where
  pub old : IsTypedProgram job.source job.program
  pub new : IsTypedProgram job.target p
  pub within : IsProgramWithin job.program
  pub within_new : IsProgramWithin p
  pub functions : SameFunctions job.source job.target job.program p

-- a call that both can be asked, of a query or of an update
pub record IsAsked (query : Bool) (job : Job) (p : Program) (i : Invocation) : Type 0 where
  pub old : IsCall job.program i
  pub new : IsCall p i
  pub short : Each IsShort i.args.values
  pub sort : is_query (function_at job.program i.function).body ≡ query
  pub sort_new : is_query (function_at p i.function).body ≡ query

-- a store after these calls from empty tables
pub record IsAfter (schema : Schema) (p : Program) (calls : List Invocation) (m : Meaning) : Type 0 where
  pub told : m.told ≡ Some (state_after schema p calls)
  pub layout : layout_of schema ≡ m.layout
  pub rest : m.begun ≡ false
  pub whole : m.broken ≡ false

-- Some lists were gone through, as far as the number of tests allowed: nothing was found, or the first that fails.
abbrev pub Walks : Job → Program → List (List Invocation) → (old new : ℕ) → Option Calls → Type 0
Walks job p lists old new None = Each (AgreeOn job p) (take old lists) × (new ≡ old - length lists)
Walks job p lists old new (Some c) = IsFirstFailing job p (take old lists) c.calls
