-- What words ask for, and the files that they name for it.
use Rattle.std.specs.Prelude.{◌≡◌, ℕ, List, [], ◌∷◌, ◌++◌, take, Option, option_to_list, ◌⊎◌}
use Rattle.mig_meaning.specs.Lists.{In}
use Rattle.mig_words.specs.declared.command.Options.{Options}
use Rattle.mig_words.specs.declared.command.Command.{Command}
use Rattle.mig_words.specs.declared.command.Command.TheVariants.{Migrate, Check, Run, Trial}
use Rattle.mig_words.specs.Commands.{IsCommand}

-- the files that a command reads, in order; the work of some commands is not there yet, and reads none
abbrev pub files_of : Command → List (List ℕ)
files_of (Migrate job options) = job ∷ []
files_of (Check job answer) = job ∷ answer ∷ []
files_of (Run job calls answer) = job ∷ calls ∷ option_to_list answer
files_of (Trial number) = []

-- the words ask to migrate the job in this file, as far as these options go
abbrev pub AsksToMigrate : List (List ℕ) → List ℕ → Options → Type 0
AsksToMigrate words file options = IsCommand words (Migrate file options)

-- the words ask to check, for the job in the one file, the answer in the other
abbrev pub AsksToCheck : List (List ℕ) → (file answer : List ℕ) → Type 0
AsksToCheck words file answer = IsCommand words (Check file answer)

-- the words ask to play the calls in the one file for the job in the other: with its old program, or with that of the answer in this file
abbrev pub AsksToRun : List (List ℕ) → (file calls : List ℕ) → (answer : Option (List ℕ)) → Type 0
AsksToRun words file calls answer = IsCommand words (Run file calls answer)

-- The words ask for work that is not there yet, or are refused.
abbrev pub AsksForNothing : List (List ℕ) → Type 0
AsksForNothing words = (command : Command) → IsCommand words command → files_of command ≡ []

-- the words do not ask to run a program
abbrev pub AsksForNoRun : List (List ℕ) → Type 0
AsksForNoRun words = (file calls : List ℕ) (answer : Option (List ℕ)) → AsksToRun words file calls answer → ⊥

-- this is one of the files that the words name for their work
abbrev pub NamesFile : List (List ℕ) → List ℕ → Type 0
NamesFile words file = (command : Command) × IsCommand words command × In file (files_of command)

-- the names asked for in a call are the first files of the command, so many
abbrev pub AskedFirst : List (List ℕ) → (old new : List (List ℕ)) → Type 0
AskedFirst words old new = (new ≡ old) ⊎ ((command : Command) × (n : ℕ) × IsCommand words command × (new ≡ old ++ take n (files_of command)))
