-- Words behind a command that takes files alone.
use Rattle.std.specs.Prelude.{◌≡◌, ℕ, ◌+◌, ◌≤◌, Bool, true, not, List, ◌∷◌, ◌++◌, length, Option, option_to_list, ◌⊎◌}
use Rattle.std.specs.List.{list_all}
use Rattle.mig_words.specs.declared.command.WordFault.{WordFault}
use Rattle.mig_words.specs.declared.command.WordFault.TheVariants.{UnknownWord}
use Rattle.mig_words.specs.Words.{is_dashed}

-- whether a word has no dash
abbrev pub is_plain : List ℕ → Bool
is_plain w = not (is_dashed w)

-- the words are files, and at most so many
pub record AreFiles (most : ℕ) (words : List (List ℕ)) : Type 0 where
  pub plain : list_all is_plain words ≡ true
  pub few : length words ≤ most

-- The fault of the first word that is no file or has so many before it, where one word stands before these.
pub record IsNoFile (most : ℕ) (words : List (List ℕ)) (fault : WordFault) : Type 0 where
  pub before : List (List ℕ)
  pub word : List ℕ
  pub after : List (List ℕ)
  pub spells : words ≡ before ++ word ∷ after
  pub plain : list_all is_plain before ≡ true
  pub few : length before ≤ most
  pub wrong : (length before ≡ most) ⊎ (is_dashed word ≡ true)
  pub told : fault ≡ UnknownWord (length before + 2)

-- the third word, if there is one
abbrev pub IsThird : List (List ℕ) → Option (List ℕ) → Type 0
IsThird words third = (a b : List ℕ) (rest : List (List ℕ)) → words ≡ a ∷ b ∷ rest → rest ≡ option_to_list third
