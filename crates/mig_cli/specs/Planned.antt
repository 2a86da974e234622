-- What the plan of a call says, from a file's bytes up to the whole command.
use Rattle.std.specs.Prelude.{◌≡◌, ◌≢◌, ℕ, List, [], ◌∷◌, ◌++◌, take, Option, Some, option_to_list, Err, ◌≤◌, length}
use Rattle.mig_schema.specs.declared.jobs.Job.{Job}
use Rattle.mig_schema.specs.declared.programs.Program.{Program}
use Rattle.mig_schema.specs.declared.tables.Schema.{Schema}
use Rattle.mig_meaning.specs.declared.calling.Invocation.{Invocation}
use Rattle.mig_io.specs.Counts.{Rose}
use Rattle.mig_storage.specs.Meaning.{Meaning}
use Rattle.mig_meaning.specs.Calls.{AreCalls}
use Rattle.mig_meaning.specs.Lists.{Each, In}
use Rattle.mig_storage.specs.Layout.{IsShort}
use Rattle.mig_syntax.specs.declared.fault.TextFault.{TextFault}
use Rattle.mig_syntax.specs.declared.fault.TextFault.TheVariants.{Memory}
use Rattle.mig_certificate.specs.declared.proofs.Certificate.{Certificate}
use Rattle.mig_certificate.specs.Valid.{IsValid}
use Rattle.mig_reading.specs.IsAnswer.{IsAnswer}
use Rattle.mig_store.specs.declared.faults.CallsFault.{CallsFault}
use Rattle.mig_store.specs.declared.faults.CallsFault.TheVariants as calls_fault
use Rattle.mig_store.specs.Playing.{calls_in}
use Rattle.mig_search.specs.declared.outcomes.Options.{Options}
use Rattle.mig_messages.specs.declared.status.Status.TheVariants as status
use Rattle.mig_messages.specs.Statuses.{calls_status, fault_status}
use Rattle.mig_messages.specs.Lines.{cannot_read, fault_line, too_long}
use Rattle.mig_messages.specs.CallLines.{calls_line, store_failed}
use Rattle.mig_cli.specs.declared.planning.Plan.{Plan}
use Rattle.mig_cli.specs.Plans.{answered, refusal}
use Rattle.mig_cli.specs.World.{Asks, FilesMeaning, Inputs, Spares}
use Rattle.mig_cli.specs.Jobs.{IsLonger, IsTextFault, IsRefusedJob}
use Rattle.mig_cli.specs.Migrating.{IsMigrated}
use Rattle.mig_cli.specs.Checking.{IsAnswered, IsChecked, IsNoAnswer, IsRejected, IsTurnedDown}
use Rattle.mig_cli.specs.Running.{AllPlayed, GaveCalls, GaveEarlier, IsRefusedCalls, IsRun, PlayFailed, Plays, RunFailed}

-- the file could not be read
pub record IsUnread (file : List ℕ) (before after : FilesMeaning) (plan : Plan) : Type 0 where
  pub cause : Rose before.faults after.faults
  pub is : plan ≡ refusal status.File (cannot_read file)

-- The file is refused unread: it could not be read, or it is longer than so much.
pub data IsUnfetched (file : List ℕ) (cap : ℕ) (before after : FilesMeaning) (plan : Plan) : Type 0 where
  unread : IsUnread file before after plan → IsUnfetched file cap before after plan
  long : IsLonger before.told file cap → plan ≡ refusal status.Limit (too_long file cap) → IsUnfetched file cap before after plan

-- the bytes of a file spell no typed job within the limits
pub record IsFaulty (file bytes : List ℕ) (plan : Plan) : Type 0 where
  pub fault : TextFault
  pub first : IsTextFault bytes fault
  pub is : plan ≡ refusal (fault_status fault) (fault_line file fault)

-- the file gives no job: it could not be read, or it is refused
pub data IsNoJob (file : List ℕ) (before after : FilesMeaning) (plan : Plan) : Type 0 where
  unread : IsUnread file before after plan → IsNoJob file before after plan
  refused : IsRefusedJob before.told file plan → IsNoJob file before after plan

-- what a job's file leads to where it is migrated
pub data IsMigratePlan (file : List ℕ) (options : Options) (before after : FilesMeaning) (plan : Plan) : Type 0 where
  unread : IsUnread file before after plan → IsMigratePlan file options before after plan
  migrated : IsMigrated before.told file options plan → IsMigratePlan file options before after plan

-- the bytes of an answer's file are turned down over a job: they are no answer, or its certificate is not valid
pub data IsTurnedText (job : Job) (file bytes : List ℕ) (plan : Plan) : Type 0 where
  faulty : (e : TextFault) → IsNoAnswer job bytes → e ≢ Memory → plan ≡ refusal (fault_status e) (fault_line file e) → IsTurnedText job file bytes plan
  rejected : (program : Program) (certificate : Certificate) → IsAnswer job bytes program certificate → IsRejected job program certificate plan → IsTurnedText job file bytes plan

-- the bytes are an answer over the job whose certificate is valid, and this is its program
pub record IsValidText (job : Job) (bytes : List ℕ) (program : Program) : Type 0 where
  pub certificate : Certificate
  pub is : IsAnswer job bytes program certificate
  pub valid : IsValid job program certificate

-- the file gives no valid answer over a job: it could not be read, or it is turned down
pub data IsNoProgram (job : Job) (file : List ℕ) (before after : FilesMeaning) (plan : Plan) : Type 0 where
  unread : IsUnread file before after plan → IsNoProgram job file before after plan
  turned_down : IsTurnedDown before.told job file plan → IsNoProgram job file before after plan

-- what an answer's file leads to over a job where it is checked
pub data IsAnswerPlan (job : Job) (file : List ℕ) (before after : FilesMeaning) (plan : Plan) : Type 0 where
  unread : IsUnread file before after plan → IsAnswerPlan job file before after plan
  read : IsAnswered before.told job file plan → IsAnswerPlan job file before after plan

-- what a job's file and an answer's file lead to where the answer is checked
pub data IsCheckPlan (file answer : List ℕ) (before after : FilesMeaning) (plan : Plan) : Type 0 where
  unread : (earlier : List (List ℕ)) (last : List ℕ) → after.asked ≡ before.asked ++ (earlier ++ last ∷ []) → GaveEarlier before.told earlier → In last (file ∷ answer ∷ [])
      → IsUnread last before after plan → IsCheckPlan file answer before after plan
  checked : (names : List (List ℕ)) → after.asked ≡ before.asked ++ names → IsChecked before.told file answer names plan → IsCheckPlan file answer before after plan

-- the first of these names were asked for, in this order, and no others
abbrev pub FirstAsked : List (List ℕ) → (old new : List (List ℕ)) → Type 0
FirstAsked names old new = (n : ℕ) × (new ≡ old ++ take n names)

-- the bytes say no calls of the job's old program
pub record AreNoCalls (job : Job) (file bytes : List ℕ) (plan : Plan) : Type 0 where
  pub cause : CallsFault
  pub said : calls_in job.program bytes ≡ Err cause
  pub never : cause ≢ calls_fault.Memory
  pub is : plan ≡ refusal (calls_status cause) (calls_line file cause)

-- the file gives no calls of the job's old program: it could not be read, or it is refused
pub data IsNoCalls (job : Job) (file : List ℕ) (before after : FilesMeaning) (plan : Plan) : Type 0 where
  unread : IsUnread file before after plan → IsNoCalls job file before after plan
  refused : IsRefusedCalls before.told job file plan → IsNoCalls job file before after plan

-- calls of a program that a store can play
pub record ArePlayable (p : Program) (calls : List Invocation) : Type 0 where
  pub given : AreCalls p calls
  pub texts : Each (λ (i : Invocation). Each IsShort i.args.values) calls
  pub few : length calls ≤ 100000

-- what calls lead to that are played with a program
pub data IsPlayPlan (schema : Schema) (p : Program) (calls : List Invocation) (old new : Meaning) (plan : Plan) : Type 0 where
  played : (text : List ℕ) → AllPlayed schema p calls old new text → plan ≡ answered text [] → IsPlayPlan schema p calls old new plan
  failed : PlayFailed schema p calls old new → plan ≡ refusal status.Store store_failed → IsPlayPlan schema p calls old new plan

-- what calls lead to, with the job's old program or with that of an answer
pub data IsProgramPlan (job : Job) (calls : List Invocation) (answer : Option (List ℕ)) (before after : Inputs) (plan : Plan) : Type 0 where
  none : (named : List ℕ) → answer ≡ Some named → IsNoProgram job named before.files after.files plan → Spares before after → IsProgramPlan job calls answer before after plan
  plays : (schema : Schema) (p : Program) → Plays before.files.told job answer schema p → IsPlayPlan schema p calls before.store after.store plan → IsProgramPlan job calls answer before after plan

-- what a file of calls leads to over a job
pub data IsCallsPlan (job : Job) (file : List ℕ) (answer : Option (List ℕ)) (before after : Inputs) (plan : Plan) : Type 0 where
  none : IsNoCalls job file before.files after.files plan → Asks before after (file ∷ []) → Spares before after → IsCallsPlan job file answer before after plan
  said : (calls : List Invocation) → GaveCalls before.files.told job file calls → Asks before after (file ∷ option_to_list answer)
      → IsProgramPlan job calls answer before after plan → IsCallsPlan job file answer before after plan

-- what the files of a run lead to
pub data IsRunPlan (file calls : List ℕ) (answer : Option (List ℕ)) (before after : Inputs) (plan : Plan) : Type 0 where
  unread : (earlier : List (List ℕ)) (last : List ℕ) → Asks before after (earlier ++ last ∷ []) → GaveEarlier before.files.told earlier → In last (file ∷ calls ∷ option_to_list answer)
      → IsUnread last before.files after.files plan → Spares before after → IsRunPlan file calls answer before after plan
  failed : Asks before after (file ∷ calls ∷ option_to_list answer) → RunFailed file calls answer before after → plan ≡ refusal status.Store store_failed → IsRunPlan file calls answer before after plan
  run : IsRun file calls answer before after plan → IsRunPlan file calls answer before after plan
