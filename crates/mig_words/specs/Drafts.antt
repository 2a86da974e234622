-- What the words behind `migrate` have given, and how one word more is taken or refused.
use Rattle.std.specs.Prelude.{◌≡◌, ℕ, true, false, List, ◌++◌, map, Option, Some, None, is_some, option_to_list, unwrap_or}
use Rattle.std.specs.List.{list_all}
use Rattle.mig_words.specs.declared.command.Options.{Options}
use Rattle.mig_words.specs.declared.command.WordFault.{WordFault}
use Rattle.mig_words.specs.declared.command.WordFault.TheVariants.{UnknownWord, Twice, Number}
use Rattle.mig_words.specs.declared.settings.Setting.{Setting}
use Rattle.mig_words.specs.declared.settings.Setting.TheVariants.{Budget, Maps, Tests}
use Rattle.mig_words.specs.declared.drafts.Draft.{Draft}
use Rattle.mig_words.specs.Words.{is_dashed, number_of}
use Rattle.mig_words.specs.Settings.{setting_word, setting_named, takes, usual}
use Rattle.mig_words.specs.Commands.{Item, spelled, is_sound, files_of, numbers_of}

-- the number that an option was given
abbrev pub given : Setting → Draft → Option ℕ
given Budget d = d.budget
given Maps d = d.maps
given Tests d = d.tests

-- the option is given this number
abbrev pub with_number : Setting → ℕ → Draft → Draft
with_number Budget n d = record { job = d.job; budget = Some n; maps = d.maps; tests = d.tests; pending = None }
with_number Maps n d = record { job = d.job; budget = d.budget; maps = Some n; tests = d.tests; pending = None }
with_number Tests n d = record { job = d.job; budget = d.budget; maps = d.maps; tests = Some n; pending = None }

-- the option's number is next
abbrev pub with_option : Setting → Draft → Draft
with_option s d = record { job = d.job; budget = d.budget; maps = d.maps; tests = d.tests; pending = Some s }

-- the file is given
abbrev pub with_job : List ℕ → Draft → Draft
with_job w d = record { job = Some w; budget = d.budget; maps = d.maps; tests = d.tests; pending = None }

-- the word of an option whose number is next
abbrev pub next_word : Option Setting → List (List ℕ)
next_word p = map setting_word (option_to_list p)

-- the words behind `migrate` are these items, and then maybe an option without its number; the draft has the file and the numbers that they give
pub record IsDraft (words : List (List ℕ)) (d : Draft) : Type 0 where
  pub items : List Item
  pub spells : words ≡ spelled items ++ next_word d.pending
  pub sound : list_all is_sound items ≡ true
  pub files : files_of items ≡ option_to_list d.job
  pub numbers : (s : Setting) → numbers_of s items ≡ option_to_list (given s d)
  pub next : (s : Setting) → d.pending ≡ Some s → given s d ≡ None

-- the options, each with its usual number where none was given
abbrev pub options_of : Draft → Options
options_of d = record { budget = unwrap_or d.budget (usual Budget); maps = unwrap_or d.maps (usual Maps); tests = unwrap_or d.tests (usual Tests) }

-- a word is taken as a number, as an option or as the file
pub data Takes (d : Draft) (w : List ℕ) (e : Draft) : Type 0 where
  as_number : (s : Setting) → d.pending ≡ Some s → takes s w ≡ true → e ≡ with_number s (number_of w) d → Takes d w e
  as_option : (s : Setting) → d.pending ≡ None → setting_named w ≡ Some s → given s d ≡ None → e ≡ with_option s d → Takes d w e
  as_file : d.pending ≡ None → is_dashed w ≡ false → d.job ≡ None → e ≡ with_job w d → Takes d w e

-- a word with this number is refused: it is no number in range, an option that was given, or neither an option nor the file
pub data Refuses (d : Draft) (w : List ℕ) (at : ℕ) (fault : WordFault) : Type 0 where
  no_number : (s : Setting) → d.pending ≡ Some s → takes s w ≡ false → fault ≡ Number at → Refuses d w at fault
  twice : (s : Setting) → (n : ℕ) → d.pending ≡ None → setting_named w ≡ Some s → given s d ≡ Some n → fault ≡ Twice at → Refuses d w at fault
  dashed : d.pending ≡ None → setting_named w ≡ None → is_dashed w ≡ true → fault ≡ UnknownWord at → Refuses d w at fault
  second : d.pending ≡ None → setting_named w ≡ None → is_some d.job ≡ true → fault ≡ UnknownWord at → Refuses d w at fault
