-- The first fault of words that are no command: the first word with which, and with all words before it, no command begins.
use Rattle.std.specs.Prelude.{◌≡◌, ◌≢◌, ℕ, ◌+◌, Bool, false, ◌&&◌, ◌||◌, if◌then◌else◌, List, [], ◌∷◌, ◌++◌, length, is_some, codes}
use Rattle.std.specs.List.{list_any}
use Rattle.std.specs.Str.{bytes_eq}
use Rattle.mig_words.specs.declared.command.Command.{Command}
use Rattle.mig_words.specs.declared.command.WordFault.{WordFault}
use Rattle.mig_words.specs.declared.command.WordFault.TheVariants.{NoCommand, UnknownWord, Missing, Twice, Number}
use Rattle.mig_words.specs.Settings.{setting_named}
use Rattle.mig_words.specs.Commands.{IsCommand}

-- some command begins with these words
abbrev pub IsFront : List (List ℕ) → Type 0
IsFront words = (more : List (List ℕ)) × (command : Command) × IsCommand (words ++ more) command

-- whether a word is an option's
abbrev pub is_setting : List ℕ → Bool
is_setting w = is_some (setting_named w)

-- whether the last of these words is an option's
abbrev pub ends_with_setting : List (List ℕ) → Bool
ends_with_setting [] = false
ends_with_setting (w ∷ []) = is_setting w
ends_with_setting (w ∷ v ∷ ws) = ends_with_setting (v ∷ ws)

-- whether these words are `trial` alone
abbrev pub is_trial : List (List ℕ) → Bool
is_trial [] = false
is_trial (w ∷ []) = bytes_eq w (codes "trial")
is_trial (w ∷ v ∷ ws) = false

-- whether a command that begins with these words has a number next
abbrev pub wants_number : List (List ℕ) → Bool
wants_number before = is_trial before || ends_with_setting before

-- whether a word is an option's that was given before
abbrev pub is_repeated : List (List ℕ) → List ℕ → Bool
is_repeated before w = is_setting w && list_any (λ v. bytes_eq v w) before

-- what is wrong with a word that no command has behind these
abbrev pub fault_at : List (List ℕ) → List ℕ → WordFault
fault_at before w =
    if wants_number before then Number (length before + 1)
    else (if is_repeated before w then Twice (length before + 1)
    else UnknownWord (length before + 1))

-- The first fault: there is no word; or some command begins with all words, and they are none; or some command begins with the words before this one, and none with it as well.
pub data IsFault (words : List (List ℕ)) (fault : WordFault) : Type 0 where
  none : words ≡ [] → fault ≡ NoCommand → IsFault words fault
  short : words ≢ [] → IsFront words → ((command : Command) → IsCommand words command → ⊥) → fault ≡ Missing → IsFault words fault
  wrong : (before : List (List ℕ)) (w : List ℕ) (after : List (List ℕ)) → words ≡ before ++ w ∷ after → IsFront before → (IsFront (before ++ w ∷ []) → ⊥) → fault ≡ fault_at before w → IsFault words fault
