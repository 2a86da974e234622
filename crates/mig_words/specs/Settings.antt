-- The options of `migrate`: their words, their ranges, and what they are where they are not given.
use Rattle.std.specs.Prelude.{ℕ, Bool, true, false, if◌then◌else◌, List, Option, Some, None, codes}
use Rattle.std.specs.Str.{bytes_eq}
use Rattle.mig_words.specs.declared.command.Options.{Options}
use Rattle.mig_words.specs.declared.settings.Setting.{Setting}
use Rattle.mig_words.specs.declared.settings.Setting.TheVariants.{Budget, Maps, Tests}
use Rattle.mig_words.specs.Words.{is_within}

-- the word of an option
abbrev pub setting_word : Setting → List ℕ
setting_word Budget = codes "--budget"
setting_word Maps = codes "--maps"
setting_word Tests = codes "--tests"

-- the option that a word is
abbrev pub setting_named : List ℕ → Option Setting
setting_named w =
    if bytes_eq w (codes "--budget") then Some Budget
    else (if bytes_eq w (codes "--maps") then Some Maps
    else (if bytes_eq w (codes "--tests") then Some Tests
    else None))

-- the least number that an option takes
abbrev pub least : Setting → ℕ
least Budget = 1
least Maps = 1
least Tests = 0

-- the greatest number that an option takes
abbrev pub greatest : Setting → ℕ
greatest Budget = 10000
greatest Maps = 256
greatest Tests = 1000000

-- the number of an option that is not given
abbrev pub usual : Setting → ℕ
usual Budget = 500
usual Maps = 16
usual Tests = 20000

-- whether a word is a number that an option takes
abbrev pub takes : Setting → List ℕ → Bool
takes s w = is_within (least s) (greatest s) w

-- the number of an option among all
abbrev pub value : Setting → Options → ℕ
value Budget o = o.budget
value Maps o = o.maps
value Tests o = o.tests

-- whether two options are one
abbrev pub same_setting : Setting → Setting → Bool
same_setting Budget Budget = true
same_setting Maps Maps = true
same_setting Tests Tests = true
same_setting s t = false
