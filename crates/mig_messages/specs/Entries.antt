-- What a search tells: a line for each program that it tried, and a line on how it ended.
use Rattle.std.specs.Prelude.{ℕ, ◌+◌, List, [], ◌∷◌, ◌++◌, length, codes, decimal}
use Rattle.std.specs.Fmt.{signed_decimal}
use Rattle.std.specs.List.{join_by}
use Rattle.mig_schema.specs.declared.values.Value.{Value}
use Rattle.mig_schema.specs.declared.values.Value.TheVariants as value
use Rattle.mig_schema.specs.declared.programs.Program.{Program}
use Rattle.mig_printing.specs.Printing.{quoted}
use Rattle.mig_meaning.specs.declared.calling.Invocation.{Invocation}
use Rattle.mig_meaning.specs.Run.{function_at}
use Rattle.mig_search.specs.declared.outcomes.Tried.{Tried}
use Rattle.mig_search.specs.declared.outcomes.Tried.TheVariants.{Refuted, Unproved, NoOption, Wide}
use Rattle.mig_messages.specs.Lines.{line}

-- a value as in programs; a key, which no call of a search has, is its number behind a `#`
abbrev pub value_text : Value → List ℕ
value_text (value.Int i) = signed_decimal i
value_text (value.Text t) = quoted t
value_text (value.Key k) = codes "#" ++ decimal k

-- the name of a function; nothing where none has the number
abbrev pub name_text : Program → ℕ → List ℕ
name_text p f = (function_at p f).name

-- NAME(VALUE, VALUE)
abbrev pub call_text : Program → Invocation → List ℕ
call_text p i = name_text p i.function ++ (codes "(" ++ (join_by value_text (codes ", ") i.args.values ++ codes ")"))

-- why a program, or a whole correspondence, is no answer
abbrev pub tried_text : Program → Tried → List ℕ
tried_text p (Refuted calls) = codes "refuted: " ++ join_by (call_text p) (codes "; ") calls.calls
tried_text p (Unproved f) = codes "unproved: " ++ name_text p f
tried_text p (NoOption f) = codes "no option: " ++ name_text p f
tried_text p (Wide f) = codes "too wide: " ++ name_text p f

-- the line of entry i
abbrev pub entry_line : Program → ℕ → Tried → List ℕ
entry_line p i t = codes "entry " ++ (decimal i ++ (codes ": " ++ line (tried_text p t)))

-- the lines of entries, numbered from i on
abbrev pub entry_lines : Program → ℕ → List Tried → List ℕ
entry_lines p i [] = []
entry_lines p i (t ∷ ts) = entry_line p i t ++ entry_lines p (i + 1) ts

-- the lines of all entries, and how the search ended with so many
abbrev pub report : List ℕ → Program → List Tried → List ℕ
report ending p tried = entry_lines p 1 tried ++ (ending ++ (codes ": " ++ (decimal (length tried) ++ line (codes " entries"))))

-- what is told of a search that found a program
abbrev pub found_report : Program → List Tried → List ℕ
found_report p tried = report (codes "found") p tried

-- of one that tried all
abbrev pub exhausted_report : Program → List Tried → List ℕ
exhausted_report p tried = report (codes "exhausted") p tried

-- of one that spent its budget
abbrev pub spent_report : Program → List Tried → List ℕ
spent_report p tried = report (codes "spent") p tried
