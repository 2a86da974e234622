-- The text of answers.
use Rattle.std.specs.Prelude.{ℕ, true, List, [], ◌∷◌, length, map, decimal}
use Rattle.std.specs.List.{flat_map}
use Rattle.csv.specs.Writing.{default_writer, row_text, with_flexible}
use Rattle.mig_schema.specs.declared.programs.Program.{Program}
use Rattle.mig_schema.specs.declared.values.Value.{Value}
use Rattle.mig_meaning.specs.Run.{function_at}
use Rattle.mig_algebra.specs.Sorted.{sorted}
use Rattle.mig_store.specs.Runs.{Told}
use Rattle.mig_store.specs.Fields.{value_text}
use Rattle.mig_store.specs.Order.{row_order}
use Rattle.mig_store.specs.Reading.{Record}

-- the record of an answer: its call's number, its function's name and the number of its rows
abbrev pub heading : Program → Told → Record
heading p a = decimal a.call ∷ (function_at p a.function).name ∷ decimal (length a.rows) ∷ []

-- the record of a row: the texts of its values
abbrev pub row_record : List Value → Record
row_record row = map value_text row

-- a record's text: its fields between commas, quoted where they must be, and a line feed
abbrev pub record_text : Record → List ℕ
record_text = row_text (with_flexible default_writer true)

-- the text of an answer: its heading, and its rows in order
abbrev pub answer_text : Program → Told → List ℕ
answer_text p a = flat_map record_text (heading p a ∷ map row_record (sorted row_order a.rows))

-- the text of answers, one after the other
abbrev pub answers_text : Program → List Told → List ℕ
answers_text p told = flat_map (answer_text p) told
