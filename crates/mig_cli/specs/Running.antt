-- What `run` answers for a job, a file of calls and maybe an answer, and what it leaves in the store.
use Rattle.std.specs.Prelude.{◌≡◌, ◌≢◌, ℕ, false, true, List, [], ◌∷◌, Option, Some, None, option_map, option_to_list, Ok, Err, ◌⊎◌}
use Rattle.mig_schema.specs.declared.jobs.Job.{Job}
use Rattle.mig_schema.specs.declared.programs.Program.{Program}
use Rattle.mig_schema.specs.declared.tables.Schema.{Schema}
use Rattle.mig_io.specs.Counts.{Rose}
use Rattle.mig_meaning.specs.declared.calling.Invocation.{Invocation}
use Rattle.mig_storage.specs.Layout.{layout_of}
use Rattle.mig_storage.specs.Meaning.{Meaning}
use Rattle.mig_store.specs.Runs.{state_after}
use Rattle.mig_store.specs.Stopped.{IsStopped}
use Rattle.mig_store.specs.declared.faults.CallsFault.{CallsFault}
use Rattle.mig_store.specs.declared.faults.CallsFault.TheVariants.{Memory}
use Rattle.mig_store.specs.Playing.{calls_in, IsAnswered}
use Rattle.mig_messages.specs.declared.status.Status.TheVariants.{Limit}
use Rattle.mig_messages.specs.Statuses.{calls_status}
use Rattle.mig_messages.specs.Lines.{too_long}
use Rattle.mig_messages.specs.CallLines.{calls_line}
use Rattle.mig_cli.specs.declared.planning.Plan.{Plan}
use Rattle.mig_cli.specs.Plans.{answered, refusal}
use Rattle.mig_cli.specs.World.{Asks, Holdings, Inputs, Spares}
use Rattle.mig_cli.specs.Asked.{AsksToRun}
use Rattle.mig_cli.specs.Jobs.{Gave, IsLonger, IsRefusedJob, GaveJob}
use Rattle.mig_cli.specs.Checking.{GaveProgram, IsTurnedDown}

-- ---- calls

-- the greatest length of a file of calls
abbrev pub calls_cap : ℕ
calls_cap = 8388608

-- How a file of calls is refused: it is too long, or its bytes say no calls of the job's old program, first of all for this cause.
pub data IsRefusedCalls (told : Holdings) (job : Job) (file : List ℕ) (plan : Plan) : Type 0 where
  long : IsLonger told file calls_cap → plan ≡ refusal Limit (too_long file calls_cap) → IsRefusedCalls told job file plan
  faulty : (bytes : List ℕ) (cause : CallsFault) → Gave told file calls_cap bytes → calls_in job.program bytes ≡ Err cause → cause ≢ Memory
      → plan ≡ refusal (calls_status cause) (calls_line file cause) → IsRefusedCalls told job file plan

-- the file gave bytes that say these calls of the job's old program
pub record GaveCalls (told : Holdings) (job : Job) (file : List ℕ) (calls : List Invocation) : Type 0 where
  pub bytes : List ℕ
  pub gave : Gave told file calls_cap bytes
  pub said : calls_in job.program bytes ≡ Ok (record { calls = calls })

-- Each of these files gave what is read of it: the first a job, and the second calls of its old program.
abbrev pub GaveEarlier : Holdings → List (List ℕ) → Type 0
GaveEarlier told [] = Unit {0}
GaveEarlier told (file ∷ []) = (job : Job) × GaveJob told file job
GaveEarlier told (file ∷ calls ∷ []) = (job : Job) × GaveJob told file job × (list : List Invocation) × GaveCalls told job calls list
GaveEarlier told (file ∷ calls ∷ answer ∷ rest) = ⊥

-- ---- programs

-- The program that is played, and its schema: the job's old program; or where an answer is named, that of the answer, whose certificate is valid, over the new schema.
abbrev pub Plays : Holdings → Job → Option (List ℕ) → Schema → Program → Type 0
Plays told job None schema p = (schema ≡ job.source) × (p ≡ job.program)
Plays told job (Some answer) schema p = (schema ≡ job.target) × GaveProgram told job answer p

-- The calls were all played from empty tables: their answers are told, and the store is as they leave it. It was whole, and is.
pub record AllPlayed (schema : Schema) (p : Program) (calls : List Invocation) (old new : Meaning) (text : List ℕ) : Type 0 where
  pub answered : IsAnswered schema p calls old.told text
  pub state : new.told ≡ option_map (λ s. state_after schema p calls) old.told
  pub layout : new.layout ≡ layout_of schema
  pub before : old.broken ≡ false
  pub whole : new.broken ≡ false

-- while the calls were played the store counted a fault, or it was broken before
pub record PlayFailed (schema : Schema) (p : Program) (calls : List Invocation) (old new : Meaning) : Type 0 where
  pub why : Rose old.faults new.faults ⊎ (old.broken ≡ true)
  pub left : IsStopped schema p calls old new

-- ---- files

-- What a job's file, a file of calls and maybe an answer's file lead to over a store, and the names that are asked for.
-- What is refused leaves the files behind it unread, and the store alone. Else all calls were played from empty tables.
pub data IsRun (file calls : List ℕ) (answer : Option (List ℕ)) (before after : Inputs) (plan : Plan) : Type 0 where
  no_job : IsRefusedJob before.files.told file plan → Asks before after (file ∷ []) → Spares before after → IsRun file calls answer before after plan
  no_calls : (job : Job) → GaveJob before.files.told file job → IsRefusedCalls before.files.told job calls plan
      → Asks before after (file ∷ calls ∷ []) → Spares before after → IsRun file calls answer before after plan
  no_answer : (job : Job) → GaveJob before.files.told file job → (list : List Invocation) → GaveCalls before.files.told job calls list
      → (named : List ℕ) → answer ≡ Some named → IsTurnedDown before.files.told job named plan
      → Asks before after (file ∷ calls ∷ named ∷ []) → Spares before after → IsRun file calls answer before after plan
  played : (job : Job) → GaveJob before.files.told file job → (list : List Invocation) → GaveCalls before.files.told job calls list
      → (schema : Schema) (p : Program) → Plays before.files.told job answer schema p
      → (text : List ℕ) → AllPlayed schema p list before.store after.store text
      → Asks before after (file ∷ calls ∷ option_to_list answer) → plan ≡ answered text [] → IsRun file calls answer before after plan

-- The files gave a job, calls of its old program, and where an answer is named a valid one; and while the calls were played the store failed.
pub record RunFailed (file calls : List ℕ) (answer : Option (List ℕ)) (before after : Inputs) : Type 0 where
  pub job : Job
  pub given : GaveJob before.files.told file job
  pub list : List Invocation
  pub said : GaveCalls before.files.told job calls list
  pub schema : Schema
  pub program : Program
  pub plays : Plays before.files.told job answer schema program
  pub failed : PlayFailed schema program list before.store after.store

-- ---- what is left in the store

-- the told state is that at entry or the one after the first of these calls, played with the program that is to play them, or the store is broken
abbrev pub PlayedSome : Holdings → Job → Option (List ℕ) → (calls : List Invocation) → (old new : Meaning) → Type 0
PlayedSome told job answer calls old new = (schema : Schema) × (p : Program) × Plays told job answer schema p × IsStopped schema p calls old new

-- the file gave such calls
abbrev pub CallsSome : Job → (file : List ℕ) → Option (List ℕ) → (before after : Inputs) → Type 0
CallsSome job file answer before after = (calls : List Invocation) × GaveCalls before.files.told job file calls × PlayedSome before.files.told job answer calls before.store after.store

-- the files gave a job and such calls
abbrev pub RanSome : (file calls : List ℕ) → Option (List ℕ) → (before after : Inputs) → Type 0
RanSome file calls answer before after = (job : Job) × GaveJob before.files.told file job × CallsSome job calls answer before after

-- all is as it was, or as some calls left it that the words ask to run
abbrev pub IsLeft : List (List ℕ) → (before after : Inputs) → Type 0
IsLeft words before after = Spares before after ⊎ ((file : List ℕ) × (calls : List ℕ) × (answer : Option (List ℕ)) × AsksToRun words file calls answer × RanSome file calls answer before after)
