-- What the values of the code say in the words of the definitions.
use Rattle.std.specs.Prelude.{List, map, Option, Some, None}
use Rattle.mig_schema.specs.declared.values.Value.{Value}
use Rattle.mig_meaning.specs.declared.states.Row.{Row}
use Rattle.mig_meaning.specs.declared.given.Given as code
use Rattle.mig_meaning.specs.declared.small.Outcome as small
use Rattle.mig_meaning.specs.declared.calling.Reply.{Reply}
use Rattle.mig_meaning.specs.declared.calling.Reply.TheVariants.{Done, Rows}
use Rattle.mig_meaning.specs.Conditions.{Given}
use Rattle.mig_meaning.specs.Run.{Outcome}

-- the values of each row
abbrev pub rows_told : List Row → List (List Value)
rows_told rows = map (λ (r : Row). r.values) rows

-- what a call answers: only a query answers rows
abbrev pub reply_told : Reply → Option (List (List Value))
reply_told Done = None
reply_told (Rows a) = Some (rows_told a.rows)

-- what a call is given
abbrev pub given_told : code.Given → Given
given_told g = record { args = g.args.now.values; keys = g.keys.now.keys }

-- what a call leaves and answers
abbrev pub outcome_told : small.Outcome → Outcome
outcome_told o = record { state = o.state; reply = reply_told o.reply }
