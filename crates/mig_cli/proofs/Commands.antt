-- What words ask for, by the one command that they are.
use Rattle.std.proofs.Common.{◌≡◌, ◌≢◌, ℕ, List, [], ◌∷◌, Option, Result, Ok, Err, codes, ◌⊎◌, inl, inr, sym, ◌∙◌}
use Rattle.mig_words.specs.declared.command.Command.{Command}
use Rattle.mig_words.specs.declared.command.Command.TheVariants.{Migrate, Check, Run, Trial}
use Rattle.mig_words.specs.declared.command.Options.{Options}
use Rattle.mig_words.specs.declared.command.WordFault.{WordFault}
use Rattle.mig_words.specs.declared.command.WordFault.TheVariants as word
use Rattle.mig_words.specs.Commands as commands
use Rattle.mig_cli.specs.Asked as asked

-- the first word of a command
abbrev head_of : Command → List ℕ
head_of (Migrate job options) = codes "migrate"
head_of (Check job answer) = codes "check"
head_of (Run job calls answer) = codes "run"
head_of (Trial number) = codes "trial"

first-word : (words : List (List ℕ)) (c : Command) → commands.IsCommand words c → (rest : List (List ℕ)) × (words ≡ head_of c ∷ rest)
first-word words c (commands.migrates job options m e) = (commands.spelled m.items, rw e m.spells)
first-word words c (commands.checks job answer e a b is) = (job ∷ answer ∷ [], rw is e)
first-word words c (commands.runs_old job calls e a b is) = (job ∷ calls ∷ [], rw is e)
first-word words c (commands.runs_new job calls answer e a b d is) = (job ∷ calls ∷ answer ∷ [], rw is e)
first-word words c (commands.tries number e a is) = (number ∷ [], rw is e)

-- words that ask to migrate ask to run nothing
pub migrate-no_run : (words : List (List ℕ)) (file other calls : List ℕ) (answer : Option (List ℕ)) (options : Options) → asked.AsksToMigrate words file options → asked.AsksToRun words other calls answer → ⊥
migrate-no_run words file other calls answer options m r =
    let a = first-word words (Migrate file options) m in
    let b = first-word words (Run other calls answer) r in
    let odd : codes "migrate" ∷ a.0 ≡ codes "run" ∷ b.0 = sym a.1 ∙ b.1 in
    cc

-- nor to check anything
pub migrate-no_check : (words : List (List ℕ)) (file other answer : List ℕ) (options : Options) → asked.AsksToMigrate words file options → asked.AsksToCheck words other answer → ⊥
migrate-no_check words file other answer options m k =
    let a = first-word words (Migrate file options) m in
    let b = first-word words (Check other answer) k in
    let odd : codes "migrate" ∷ a.0 ≡ codes "check" ∷ b.0 = sym a.1 ∙ b.1 in
    cc

-- words that ask to check ask to run nothing
pub check-no_run : (words : List (List ℕ)) (file answer other calls : List ℕ) (named : Option (List ℕ)) → asked.AsksToCheck words file answer → asked.AsksToRun words other calls named → ⊥
check-no_run words file answer other calls named k r =
    let a = first-word words (Check file answer) k in
    let b = first-word words (Run other calls named) r in
    let odd : codes "check" ∷ a.0 ≡ codes "run" ∷ b.0 = sym a.1 ∙ b.1 in
    cc

-- words with a fault ask for nothing
pub faulty-nothing : (words : List (List ℕ)) (f : WordFault) → f ≢ word.Memory → (r : Result Command WordFault) → r ≡ Err f
    → ((d : Command) → commands.IsCommand words d → (r ≡ Ok d) ⊎ (r ≡ Err word.Memory)) → asked.AsksForNothing words
faulty-nothing words f other r is only d h =
    elim (only d h) [
      | inl e ↦ absurd (let odd : Err f ≡ Ok d = sym is ∙ e in cc)
      | inr e ↦ absurd (let both : Err f ≡ Err word.Memory = sym is ∙ e in other cc)
    ]
