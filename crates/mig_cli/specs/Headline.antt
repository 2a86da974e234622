-- What the desk is for: the new program that it writes, or accepts, does what the old one did.
use Rattle.std.specs.Prelude.{◌≡◌, ℕ, List, Some}
use Rattle.mig_schema.specs.declared.programs.Program.{Program}
use Rattle.mig_schema.specs.declared.jobs.Job.{Job}
use Rattle.mig_schema.specs.Typed.{IsTyped, IsTypedProgram}
use Rattle.mig_syntax.specs.Job.{IsJobText}
use Rattle.mig_meaning.specs.Functions.{SameFunctions}
use Rattle.mig_meaning.specs.Equivalent.{IsEquivalent}
use Rattle.mig_certificate.specs.declared.proofs.Certificate.{Certificate}
use Rattle.mig_answer.specs.AnswerText.{answer_text}
use Rattle.mig_reading.specs.IsAnswer.{IsAnswer}
use Rattle.mig_certificate.specs.Valid.{IsValid}
use Rattle.mig_io.specs.Taken.{and_then}
use Rattle.mig_words.specs.declared.command.Options.{Options}
use Rattle.mig_messages.specs.declared.status.Status.TheVariants.{Done}
use Rattle.mig_messages.specs.Statuses.{number}
use Rattle.mig_messages.specs.VerdictLines.{accepted}
use Rattle.mig_cli.specs.World.{World}
use Rattle.mig_cli.specs.Asked.{AsksToMigrate, AsksToCheck}
use Rattle.mig_cli.specs.Desk.{Tells}
use Rattle.mig_spelling.specs.Spellable.{IsSpellable}

-- A text is a migration of the job that these bytes spell: the answer with a new program and a certificate.
-- The grammar of answers spells both; the new program is typed over the new schema and has the old one's functions; the certificate is valid; and for every list of
-- well-formed calls, from empty tables and by any two supplies of keys, each query has the same bag of rows as answer under
-- both programs, fresh keys renamed alike, and every invariant of the certificate holds after each call.
pub record IsMigration (bytes text : List ℕ) : Type 0 where
  pub job : Job
  pub program : Program
  pub certificate : Certificate
  pub spelled : IsJobText bytes job
  pub source : IsTyped job
  pub written : text ≡ answer_text job program certificate
  pub target : IsTypedProgram job.target program
  pub spellable : IsSpellable program certificate
  pub functions : SameFunctions job.source job.target job.program program
  pub valid : IsValid job program certificate
  pub equivalent : IsEquivalent job.source job.target job.program program certificate.invariants.list

-- Where files tell what they hold and the words ask to migrate: with the status of what is done, `out` took a migration of the job in the file that the words name, whole.
abbrev pub Migrates : List (List ℕ) → (before after : World) → ℕ → Type 0
Migrates words before after result =
    Tells before.inputs.files.told words → ((file : List ℕ) × (options : Options) × AsksToMigrate words file options) → result ≡ number Done
    → (file : List ℕ) × (options : Options) × (bytes : List ℕ) × (text : List ℕ) × AsksToMigrate words file options × (before.inputs.files.told file ≡ Some bytes)
    × (after.outputs.out.took ≡ and_then before.outputs.out.took text) × IsMigration bytes text

-- A text is a valid answer for the job that these bytes spell: it is a program, typed over the new schema, and a certificate of it that is valid for the job.
-- Then the new program has the old one's functions; and for every list of well-formed calls, from empty tables and by any two supplies of keys, each query
-- has the same bag of rows as answer under both programs, fresh keys renamed alike, and every invariant of the certificate holds after each call.
pub record IsValidAnswer (bytes text : List ℕ) : Type 0 where
  pub job : Job
  pub program : Program
  pub certificate : Certificate
  pub spelled : IsJobText bytes job
  pub source : IsTyped job
  pub is : IsAnswer job text program certificate
  pub target : IsTypedProgram job.target program
  pub functions : SameFunctions job.source job.target job.program program
  pub valid : IsValid job program certificate
  pub equivalent : IsEquivalent job.source job.target job.program program certificate.invariants.list

-- Where files tell what they hold and the words ask to check: with the status of what is done, `out` took the line that accepts, whole, and the text in the answer's file is a valid answer for the one in the job's file.
abbrev pub Checks : List (List ℕ) → (before after : World) → ℕ → Type 0
Checks words before after result =
    Tells before.inputs.files.told words → ((file : List ℕ) × (answer : List ℕ) × AsksToCheck words file answer) → result ≡ number Done
    → (file : List ℕ) × (answer : List ℕ) × (bytes : List ℕ) × (text : List ℕ) × AsksToCheck words file answer
    × (before.inputs.files.told file ≡ Some bytes) × (before.inputs.files.told answer ≡ Some text)
    × (after.outputs.out.took ≡ and_then before.outputs.out.took accepted) × IsValidAnswer bytes text
