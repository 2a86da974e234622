-- From what a file of calls and the files of a run lead to, to what the plan says.
use Rattle.std.proofs.Common.{◌≡◌, ◌≢◌, ℕ, suc, ◌<◌, ◌≤◌, List, [], ◌∷◌, ◌++◌, length, Option, Some, None, Result, Ok, Err, IfOk, IfErr, ◌⊎◌, inl, inr, sym, ap, ◌∙◌, refl, subst, append_assoc, arith}
use Rattle.std.specs.Prelude.{option_map, option_to_list}
use Rattle.std.proofs.lemmas.List.{take_all}
use Rattle.std.specs.declared.alloc.AllocError.{AllocError}
use Rattle.mig_schema.specs.declared.jobs.Job.{Job}
use Rattle.mig_schema.specs.declared.programs.Program.{Program}
use Rattle.mig_schema.specs.declared.tables.Schema.{Schema}
use Rattle.mig_schema.specs.Typed.{IsTypedProgram}
use Rattle.mig_schema.specs.Within.{IsProgramWithin}
use Rattle.mig_syntax.proofs.WithinTexts.{program_text}
use Rattle.mig_meaning.specs.declared.calling.Calls.{Calls}
use Rattle.mig_meaning.specs.declared.calling.Invocation.{Invocation}
use Rattle.mig_meaning.specs.Calls.{AreCalls}
use Rattle.mig_meaning.specs.Functions.{SameFunctions}
use Rattle.mig_storage.specs.Meaning.{Meaning}
use Rattle.mig_reading.specs.IsAnswer.{program_lines}
use Rattle.mig_store.specs.Playing.{calls_in}
use Rattle.mig_store.specs.Runs.{state_after}
use Rattle.mig_store.specs.Stopped.{IsStopped}
use Rattle.mig_store.specs.declared.faults.CallsFault.{CallsFault}
use Rattle.mig_store.specs.declared.faults.CallsFault.TheVariants.{Memory}
use Rattle.mig_messages.specs.Statuses.{calls_status}
use Rattle.mig_messages.specs.CallLines.{calls_line}
use Rattle.mig_cli.specs.declared.planning.Plan.{Plan}
use Rattle.mig_cli.specs.Plans.{refusal}
use Rattle.mig_cli.specs.World.{FilesMeaning, Holdings, Inputs}
use Rattle.mig_cli.specs.Jobs as jobs
use Rattle.mig_cli.specs.Checking.{GaveProgram}
use Rattle.mig_cli.specs.Running as running
use Rattle.mig_cli.specs.Planned as spec

-- ---- names that are asked for, one behind the other

module _ (old between : List (List ℕ)) (file : List ℕ) (rest : List (List ℕ)) (first : between ≡ old ++ file ∷ []) where
  behind : (names new : List (List ℕ)) → new ≡ between ++ names → new ≡ old ++ file ∷ names
  behind names new second = second ∙ ap (λ (n : List (List ℕ)). n ++ names) first ∙ append_assoc old (file ∷ []) names

  pub more-asked : (new : List (List ℕ)) → spec.FirstAsked rest between new → spec.FirstAsked (file ∷ rest) old new
  more-asked new h = (suc h.0, behind _ new h.1)

-- a file was asked for, and an answer's behind it where one is named
pub names-asked : (old between : List (List ℕ)) (file : List ℕ) → between ≡ old ++ file ∷ [] → (answer : Option (List ℕ)) (new : List (List ℕ)) → new ≡ between ++ option_to_list answer
    → spec.FirstAsked (file ∷ option_to_list answer) old new
names-asked old between file first None new second = (1, behind old between file [] first [] new second)
names-asked old between file first (Some named) new second = (2, behind old between file [] first (named ∷ []) new second)

-- ---- calls

module _ (job : Job) (file bytes : List ℕ) where
  abbrev unread : CallsFault → Result Calls CallsFault
  unread e = Err e

  -- a refusal for another reason than memory is that of the bytes
  pub no-calls : (cause : CallsFault) (p : Plan) → (unread cause ≡ Err Memory) ⊎ (unread cause ≡ calls_in job.program bytes)
      → (cause ≢ Memory) × (p ≡ refusal (calls_status cause) (calls_line file cause)) → spec.AreNoCalls job file bytes p
  no-calls cause p (inl memory) h = absurd (h.0 cc)
  no-calls cause p (inr is) h = record { cause = cause; said = sym is; never = h.0; is = h.1 }

module _ (job : Job) (file : List ℕ) (before after : FilesMeaning) where
  -- a file that was not fetched gives no calls
  pub not-fetched : (p : Plan) → spec.IsUnfetched file running.calls_cap before after p → spec.IsNoCalls job file before after p
  not-fetched p (spec.unread h) = spec.unread h
  not-fetched p (spec.long longer is) = spec.refused (running.long longer is)

  -- nor does one whose bytes say none
  pub not-said : (bytes : List ℕ) (r : Result (Result Calls Plan) AllocError) → jobs.Gave before.told file running.calls_cap bytes → IfOk r (λ q. IfErr q (spec.AreNoCalls job file bytes))
      → IfOk r (λ q. IfErr q (spec.IsNoCalls job file before after))
  not-said bytes (Ok (Ok c)) gave h = tt
  not-said bytes (Ok (Err p)) gave h = spec.refused (running.faulty bytes h.cause gave h.said h.never h.is)
  not-said bytes (Err e) gave h = tt

  -- one whose bytes say calls does
  pub said : (bytes : List ℕ) (r : Result (Result Calls Plan) AllocError) → jobs.Gave before.told file running.calls_cap bytes
      → IfOk r (λ q. IfOk q (λ c. (calls_in job.program bytes ≡ Ok c) × spec.ArePlayable job.program c.calls))
      → IfOk r (λ q. IfOk q (λ c. running.GaveCalls before.told job file c.calls × spec.ArePlayable job.program c.calls))
  said bytes (Ok (Ok c)) gave h = (record { bytes = bytes; gave = gave; said = h.0 }, h.1)
  said bytes (Ok (Err p)) gave h = tt
  said bytes (Err e) gave h = tt

-- ---- the program of an answer

module _ (told : Holdings) (job : Job) (file : List ℕ) (p : Program) (gave : GaveProgram told job file p) where
  pub answer-typed : IsTypedProgram job.target p
  answer-typed = gave.gave.is.parts.program.typed

  pub answer-within : IsProgramWithin p
  answer-within = program_text job.target (program_lines gave.gave.is.lines) p gave.gave.is.parts.program.text

-- calls of one program are calls of another that has the same functions
same-calls : (s t : Schema) (p q : Program) (calls : List Invocation) → SameFunctions s t p q → AreCalls p calls → AreCalls q calls
same-calls s t p q [] same h = tt
same-calls s t p q (i ∷ is) same h = (record { named = subst (λ (n : ℕ). i.function < n) same.count h.0.named; args = rw (sym (same.each i.function h.0.named).params) h.0.args }, same-calls s t p q is same h.1)

pub answer-playable : (told : Holdings) (job : Job) (file : List ℕ) (p : Program) (calls : List Invocation) → GaveProgram told job file p → spec.ArePlayable job.program calls → spec.ArePlayable p calls
answer-playable told job file p calls gave h = record { given = same-calls job.source job.target job.program p calls gave.valid.functions h.given; texts = h.texts; few = h.few }

-- ---- what is played

module _ (schema : Schema) (p : Program) (calls : List Invocation) (old new : Meaning) where
  -- all calls are some
  pub all-stopped : new.told ≡ option_map (λ s. state_after schema p calls) old.told → IsStopped schema p calls old new
  all-stopped state =
      inr (inl (record { made = length calls; within = omega arith; told = state ∙ ap (λ (l : List Invocation). option_map (λ s. state_after schema p l) old.told) (sym (take_all (length calls) calls (omega arith))) }))

module _ (job : Job) (calls : List Invocation) (answer : Option (List ℕ)) (before after : Inputs) where
  -- the plan of calls that are played with this program
  pub played : (schema : Schema) (p : Program) (r : Result Plan AllocError) → running.Plays before.files.told job answer schema p → IfOk r (spec.IsPlayPlan schema p calls before.store after.store)
      → IfOk r (spec.IsProgramPlan job calls answer before after)
  played schema p (Ok plan) plays h = spec.plays schema p plays h
  played schema p (Err e) plays h = tt

  -- of those that are played with the old one
  pub played-old : (r : Result Plan AllocError) → answer ≡ None → IfOk r (spec.IsPlayPlan job.source job.program calls before.store after.store) → IfOk r (spec.IsProgramPlan job calls answer before after)
  played-old r none h = played job.source job.program r (rw none (refl, refl)) h

-- calls are not played without a valid answer
pub not-played : (job : Job) (calls : List Invocation) (before after : Inputs) (named : List ℕ) (p : Plan) → after.store ≡ before.store → spec.IsNoProgram job named before.files after.files p
    → spec.IsProgramPlan job calls (Some named) before after p
not-played job calls before after named p same h = spec.none named refl h same

-- ---- files

module _ (before between after : FilesMeaning) (le : before.faults ≤ between.faults) (told : between.told ≡ before.told) where
  -- what could not be read later could not be read
  later-unread : (file : List ℕ) (p : Plan) → spec.IsUnread file between after p → spec.IsUnread file before after p
  later-unread file p h = record { cause = omega (arith, le, h.cause); is = h.is }

  later-none : (job : Job) (file : List ℕ) (p : Plan) → spec.IsNoProgram job file between after p → spec.IsNoProgram job file before after p
  later-none job file p (spec.unread h) = spec.unread (later-unread file p h)
  later-none job file p (spec.turned_down h) = spec.turned_down (rw told at h)

module _ (before between after : Inputs) (le : before.files.faults ≤ between.files.faults) (told : between.files.told ≡ before.files.told) (same : between.store ≡ before.store) where
  -- what a program leads to behind another file
  later-program : (job : Job) (calls : List Invocation) (answer : Option (List ℕ)) (p : Plan) → spec.IsProgramPlan job calls answer between after p → spec.IsProgramPlan job calls answer before after p
  later-program job calls answer p (spec.none named one h left) = spec.none named one (later-none before.files between.files after.files le told job named p h) (left ∙ same)
  later-program job calls answer p (spec.plays schema q plays h) = spec.plays schema q (rw told at plays) (rw same at h)

  module _ (job : Job) (file : List ℕ) (answer : Option (List ℕ)) (first : between.files.asked ≡ before.files.asked ++ file ∷ []) where
    -- the plan of calls that were read
    pub called : (calls : List Invocation) (r : Result Plan AllocError) → running.GaveCalls before.files.told job file calls → after.files.asked ≡ between.files.asked ++ option_to_list answer
        → IfOk r (spec.IsProgramPlan job calls answer between after) → IfOk r (spec.IsCallsPlan job file answer before after)
    called calls (Ok p) gave second h = spec.said calls gave (behind before.files.asked between.files.asked file [] first (option_to_list answer) after.files.asked second) (later-program job calls answer p h)
    called calls (Err e) gave second h = tt

-- calls that are refused are not played
pub not-called : (job : Job) (file : List ℕ) (answer : Option (List ℕ)) (before after : Inputs) (p : Plan) → after.files.asked ≡ before.files.asked ++ file ∷ [] → after.store ≡ before.store
    → spec.IsNoCalls job file before.files after.files p → spec.IsCallsPlan job file answer before after p
not-called job file answer before after p asks same h = spec.none h asks same

module _ (file calls : List ℕ) (answer : Option (List ℕ)) (before after : Inputs) where
  -- without a job nothing is run
  pub not-run : (p : Plan) → after.files.asked ≡ before.files.asked ++ file ∷ [] → after.store ≡ before.store → spec.IsNoJob file before.files after.files p → spec.IsRunPlan file calls answer before after p
  not-run p asks same (spec.unread h) = spec.unread [] file asks tt (inl refl) h same
  not-run p asks same (spec.refused h) = spec.run (running.no_job h asks same)

  module _ (job : Job) (gave : jobs.GaveJob before.files.told file job) where
    -- with one, what the calls lead to
    job-run : (p : Plan) → after.files.asked ≡ before.files.asked ++ file ∷ calls ∷ option_to_list answer → (list : List Invocation) → running.GaveCalls before.files.told job calls list
        → spec.IsProgramPlan job list answer before after p → spec.IsRunPlan file calls answer before after p
    job-run p asks list gives (spec.none named one (spec.unread h) same) =
        spec.unread (file ∷ calls ∷ []) named (rw one at asks) (job, gave, list, gives) (rw one (inr (inr (inl refl)))) h same
    job-run p asks list gives (spec.none named one (spec.turned_down h) same) = spec.run (running.no_answer job gave list gives named one h (rw one at asks) same)
    job-run p asks list gives (spec.plays schema q plays (spec.played text h is)) = spec.run (running.played job gave list gives schema q plays text h asks is)
    job-run p asks list gives (spec.plays schema q plays (spec.failed h is)) =
        spec.failed asks (record { job = job; given = gave; list = list; said = gives; schema = schema; program = q; plays = plays; failed = h }) is

module _ (file calls : List ℕ) (answer : Option (List ℕ)) (before between after : Inputs) (le : before.files.faults ≤ between.files.faults) (told : between.files.told ≡ before.files.told)
    (same : between.store ≡ before.store) (first : between.files.asked ≡ before.files.asked ++ file ∷ []) (job : Job) (gave : jobs.GaveJob before.files.told file job) where
  ran : (p : Plan) → spec.IsCallsPlan job calls answer between after p → spec.IsRunPlan file calls answer before after p
  ran p (spec.none (spec.unread h) asks left) =
      spec.unread (file ∷ []) calls (behind before.files.asked between.files.asked file [] first (calls ∷ []) after.files.asked asks) (job, gave) (inr (inl refl)) (later-unread before.files between.files after.files le told calls p h) (left ∙ same)
  ran p (spec.none (spec.refused h) asks left) =
      spec.run (running.no_calls job gave (rw told at h) (behind before.files.asked between.files.asked file [] first (calls ∷ []) after.files.asked asks) (left ∙ same))
  ran p (spec.said list gives asks h) =
      job-run file calls answer before after job gave p (behind before.files.asked between.files.asked file [] first (calls ∷ option_to_list answer) after.files.asked asks) list (rw told at gives)
      (later-program before between after le told same job list answer p h)

  -- the plan of a run whose job was read
  pub run : (r : Result Plan AllocError) → IfOk r (spec.IsCallsPlan job calls answer between after) → IfOk r (spec.IsRunPlan file calls answer before after)
  run (Ok p) h = ran p h
  run (Err e) h = tt
