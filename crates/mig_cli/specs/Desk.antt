-- What the desk answers for its words in a world, and what it leaves there.
use Rattle.std.specs.Prelude.{◌≡◌, ◌≢◌, ℕ, false, List, [], ◌∷◌, ◌++◌, Option, Some, ◌⊎◌}
use Rattle.mig_words.specs.declared.command.Command.{Command}
use Rattle.mig_words.specs.declared.command.Command.TheVariants.{Run}
use Rattle.mig_words.specs.declared.command.Options.{Options}
use Rattle.mig_words.specs.declared.command.WordFault.{WordFault}
use Rattle.mig_words.specs.Commands.{IsCommand}
use Rattle.mig_words.specs.Faults.{IsFault}
use Rattle.mig_io.specs.Counts.{Rose}
use Rattle.mig_io.specs.Taken.{and_then, TookFront}
use Rattle.mig_messages.specs.declared.status.Status.TheVariants as status
use Rattle.mig_messages.specs.Statuses.{number}
use Rattle.mig_messages.specs.Lines.{refused_words, unbuilt_words, cannot_read, no_memory}
use Rattle.mig_messages.specs.CallLines.{store_failed}
use Rattle.mig_cli.specs.declared.planning.Plan.{Plan}
use Rattle.mig_cli.specs.Plans.{refusal}
use Rattle.mig_cli.specs.World.{Asks, Holdings, Inputs, Outputs, Spares, World}
use Rattle.mig_cli.specs.Asked.{files_of, AsksToMigrate, AsksToCheck, AsksToRun, NamesFile}
use Rattle.mig_cli.specs.Migrating.{IsMigrated, search_options}
use Rattle.mig_cli.specs.Checking.{IsChecked}
use Rattle.mig_cli.specs.Running.{GaveEarlier, IsRun, RunFailed}

-- ---- outcomes

-- The outcome of the words, where neither files nor the store nor memory fail: what is put, which names are asked for, and what is left in the store.
-- Where the files tell what they hold and the store its state, these are the defined ones; but of bytes that are no answer nothing says which of their faults is told.
pub data IsOutcome (words : List (List ℕ)) (before after : Inputs) (plan : Plan) : Type 0 where
  refused : (e : WordFault) → IsFault words e → Asks before after [] → Spares before after → plan ≡ refusal status.Words (refused_words e) → IsOutcome words before after plan
  unbuilt : (command : Command) → IsCommand words command → files_of command ≡ [] → Asks before after [] → Spares before after → plan ≡ refusal status.Words unbuilt_words → IsOutcome words before after plan
  migrated : (file : List ℕ) (options : Options) → AsksToMigrate words file options → Asks before after (file ∷ []) → Spares before after → IsMigrated before.files.told file (search_options options) plan → IsOutcome words before after plan
  checked : (file answer : List ℕ) (names : List (List ℕ)) → AsksToCheck words file answer → Asks before after names → Spares before after → IsChecked before.files.told file answer names plan → IsOutcome words before after plan
  run : (file calls : List ℕ) (answer : Option (List ℕ)) → AsksToRun words file calls answer → IsRun file calls answer before after plan → IsOutcome words before after plan

-- what is to be put: the outcome, or the line on a file that could not be read behind those that gave a job or calls, or the one on a store that failed
pub data IsDue (words : List (List ℕ)) (before after : Inputs) (plan : Plan) : Type 0 where
  outcome : IsOutcome words before after plan → IsDue words before after plan
  unread : (earlier : List (List ℕ)) (file : List ℕ) → Asks before after (earlier ++ file ∷ []) → GaveEarlier before.files.told earlier → NamesFile words file
      → Rose before.files.faults after.files.faults → Spares before after → plan ≡ refusal status.File (cannot_read file) → IsDue words before after plan
  failed : (file calls : List ℕ) (answer : Option (List ℕ)) → AsksToRun words file calls answer → Asks before after (files_of (Run file calls answer)) → RunFailed file calls answer before after → plan ≡ refusal status.Store store_failed → IsDue words before after plan

-- The files tell what the named ones hold.
abbrev pub Tells : Holdings → List (List ℕ) → Type 0
Tells told words = (file : List ℕ) → NamesFile words file → (bytes : List ℕ) × (told file ≡ Some bytes)

-- ---- what was put

-- both sinks took their texts whole
pub record Whole (before after : Outputs) (text report : List ℕ) : Type 0 where
  pub answered : after.out.took ≡ and_then before.out.took text
  pub reported : after.err.took ≡ and_then before.err.took report

-- A sink failed: `out` has a prefix of its text, and `err` nothing unless `out` has all of it.
pub record Cut (before after : Outputs) (text report : List ℕ) : Type 0 where
  pub answered : TookFront before.out.took after.out.took text
  pub reported : (after.err.took ≡ before.err.took) ⊎ ((after.out.took ≡ and_then before.out.took text) × TookFront before.err.took after.err.took report)

-- the count of faults of one of the sinks rose
abbrev pub EitherRose : (before after : Outputs) → Type 0
EitherRose before after = Rose before.out.faults after.out.faults ⊎ Rose before.err.faults after.err.faults

-- the outcome was put whole, with its status
abbrev pub Put : List (List ℕ) → (before after : World) → ℕ → Type 0
Put words before after result =
    (plan : Plan) × (result ≡ number plan.status) × IsOutcome words before.inputs after.inputs plan × Whole before.outputs after.outputs plan.text plan.report

-- ---- with every status but those of faults

-- Right answers: the outcome was put whole, but for the statuses of faults.
abbrev pub Right : List (List ℕ) → (before after : World) → ℕ → Type 0
Right words before after result =
    (result ≡ number status.File) ⊎ ((result ≡ number status.Sink) ⊎ ((result ≡ number status.Memory) ⊎ ((result ≡ number status.Store) ⊎ Put words before after result)))

-- No count of faults rose; and where the words ask to run, the store was not broken before.
pub record NothingFails (words : List (List ℕ)) (before after : World) : Type 0 where
  pub files : Rose before.inputs.files.faults after.inputs.files.faults → ⊥
  pub out : Rose before.outputs.out.faults after.outputs.out.faults → ⊥
  pub err : Rose before.outputs.err.faults after.outputs.err.faults → ⊥
  pub store : (file calls : List ℕ) (answer : Option (List ℕ)) → AsksToRun words file calls answer → (Rose before.inputs.store.faults after.inputs.store.faults → ⊥) × (before.inputs.store.broken ≡ false)

-- Completeness: where nothing fails, the outcome was put whole, or memory ran out and one line says so.
abbrev pub Complete : List (List ℕ) → (before after : World) → ℕ → Type 0
Complete words before after result =
    NothingFails words before after → ((result ≡ number status.Memory) × Whole before.outputs after.outputs [] no_memory) ⊎ Put words before after result

-- a status after which the store is as it was
abbrev pub EndsEarly : ℕ → Type 0
EndsEarly result = (result ≢ number status.Done) × (result ≢ number status.Sink) × (result ≢ number status.Memory) × (result ≢ number status.Store)

-- ---- with the statuses of faults

-- A file's count rose. Each file before it gave a job or calls, and the line on this file, which was asked for last, is all that was put.
pub record FileFault (words : List (List ℕ)) (before after : World) : Type 0 where
  pub cause : Rose before.inputs.files.faults after.inputs.files.faults
  pub earlier : List (List ℕ)
  pub file : List ℕ
  pub sound : GaveEarlier before.inputs.files.told earlier
  pub named : NamesFile words file
  pub asked : Asks before.inputs after.inputs (earlier ++ file ∷ [])
  pub put : Whole before.outputs after.outputs [] (cannot_read file)

-- what may be under way where a sink fails: what is due, or the line on memory
pub data IsUnderWay (words : List (List ℕ)) (before after : Inputs) (plan : Plan) : Type 0 where
  due : IsDue words before after plan → IsUnderWay words before after plan
  memory : plan ≡ refusal status.Memory no_memory → IsUnderWay words before after plan

-- A sink's count rose, and what was under way was cut short.
pub record SinkFault (words : List (List ℕ)) (before after : World) : Type 0 where
  pub cause : EitherRose before.outputs after.outputs
  pub plan : Plan
  pub under_way : IsUnderWay words before.inputs after.inputs plan
  pub cut : Cut before.outputs after.outputs plan.text plan.report

-- The words ask to run, and the files gave calls of a job, and a valid answer where one is named; the store's count rose, or it was broken before. Its line is all that was put.
pub record StoreFault (words : List (List ℕ)) (before after : World) : Type 0 where
  pub file : List ℕ
  pub calls : List ℕ
  pub answer : Option (List ℕ)
  pub asks : AsksToRun words file calls answer
  pub failed : RunFailed file calls answer before.inputs after.inputs
  pub put : Whole before.outputs after.outputs [] store_failed
