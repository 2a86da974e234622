-- What answers say in the words of the definitions.
use Rattle.std.specs.Prelude.{ℕ, List, map}
use Rattle.mig_meaning.specs.Told.{rows_told}
use Rattle.mig_store.specs.declared.answers.Answered.{Answered}
use Rattle.mig_store.specs.Runs.{Told}

-- the number of a call and of its function
abbrev pub place_told : Answered → ℕ × ℕ
place_told a = (a.call, a.function)

-- the numbers and the rows
abbrev pub answered_told : Answered → Told
answered_told a = record { call = a.call; function = a.function; rows = rows_told a.answer.rows }
