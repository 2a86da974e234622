-- Which words are which command.
use Rattle.std.specs.Prelude.{◌≡◌, ℕ, Bool, true, false, not, if◌then◌else◌, List, [], ◌∷◌, Some, None, codes, ◌⊎◌}
use Rattle.std.specs.List.{list_all}
use Rattle.mig_words.specs.declared.command.Options.{Options}
use Rattle.mig_words.specs.declared.command.Command.{Command}
use Rattle.mig_words.specs.declared.command.Command.TheVariants.{Migrate, Check, Run, Trial}
use Rattle.mig_words.specs.declared.settings.Setting.{Setting}
use Rattle.mig_words.specs.Words.{is_dashed, is_within, number_of}
use Rattle.mig_words.specs.Settings.{setting_word, takes, usual, value, same_setting}

-- what stands after `migrate`: a file, or an option with the word behind it
pub data Item : Type 0 where
  file : List ℕ → Item
  setting : Setting → List ℕ → Item

-- the words of items, one item after the other
abbrev pub spelled : List Item → List (List ℕ)
spelled [] = []
spelled (file w ∷ items) = w ∷ spelled items
spelled (setting s w ∷ items) = setting_word s ∷ w ∷ spelled items

-- a file's name does not begin with a dash, and an option takes its word
abbrev pub is_sound : Item → Bool
is_sound (file w) = not (is_dashed w)
is_sound (setting s w) = takes s w

-- the files among items
abbrev pub files_of : List Item → List (List ℕ)
files_of [] = []
files_of (file w ∷ items) = w ∷ files_of items
files_of (setting s w ∷ items) = files_of items

-- the numbers that an option is given among items
abbrev pub numbers_of : Setting → List Item → List ℕ
numbers_of s [] = []
numbers_of s (file w ∷ items) = numbers_of s items
numbers_of s (setting t w ∷ items) = if same_setting s t then number_of w ∷ numbers_of s items else numbers_of s items

-- an option is given once with this number, or it is not given and this is its usual number
abbrev pub IsSet : Setting → List Item → ℕ → Type 0
IsSet s items n = (numbers_of s items ≡ n ∷ []) ⊎ ((numbers_of s items ≡ []) × (n ≡ usual s))

-- `migrate`, and then one file and any options in any order, each at most once
pub record IsMigrate (words : List (List ℕ)) (job : List ℕ) (options : Options) : Type 0 where
  pub items : List Item
  pub spells : words ≡ codes "migrate" ∷ spelled items
  pub sound : list_all is_sound items ≡ true
  pub files : files_of items ≡ job ∷ []
  pub settings : (s : Setting) → IsSet s items (value s options)

-- the words are this command
pub data IsCommand (words : List (List ℕ)) (command : Command) : Type 0 where
  migrates : (job : List ℕ) (options : Options) → IsMigrate words job options → command ≡ Migrate job options → IsCommand words command
  checks : (job answer : List ℕ) → words ≡ codes "check" ∷ job ∷ answer ∷ [] → is_dashed job ≡ false → is_dashed answer ≡ false → command ≡ Check job answer → IsCommand words command
  runs_old : (job calls : List ℕ) → words ≡ codes "run" ∷ job ∷ calls ∷ [] → is_dashed job ≡ false → is_dashed calls ≡ false → command ≡ Run job calls None → IsCommand words command
  runs_new : (job calls answer : List ℕ) → words ≡ codes "run" ∷ job ∷ calls ∷ answer ∷ [] → is_dashed job ≡ false → is_dashed calls ≡ false → is_dashed answer ≡ false → command ≡ Run job calls (Some answer) → IsCommand words command
  tries : (number : List ℕ) → words ≡ codes "trial" ∷ number ∷ [] → is_within 1 8 number ≡ true → command ≡ Trial (number_of number) → IsCommand words command
