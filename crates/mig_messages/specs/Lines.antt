-- The lines that the desk puts on `err`.
use Rattle.std.specs.Prelude.{ℕ, List, [], ◌∷◌, ◌++◌, codes, decimal}
use Rattle.mig_schema.specs.declared.faults.Side.{Side}
use Rattle.mig_schema.specs.declared.faults.Side.TheVariants as side
use Rattle.mig_schema.specs.declared.faults.SchemaRule.{SchemaRule}
use Rattle.mig_schema.specs.declared.faults.SchemaRule.TheVariants as schema_rule
use Rattle.mig_schema.specs.declared.faults.ProgramRule.{ProgramRule}
use Rattle.mig_schema.specs.declared.faults.ProgramRule.TheVariants as program_rule
use Rattle.mig_schema.specs.declared.faults.HintRule.{HintRule}
use Rattle.mig_schema.specs.declared.faults.HintRule.TheVariants as hint_rule
use Rattle.mig_schema.specs.declared.faults.TypeFault.{TypeFault}
use Rattle.mig_schema.specs.declared.faults.TypeFault.TheVariants as typing
use Rattle.mig_schema.specs.declared.limits.Limit.{Limit}
use Rattle.mig_schema.specs.declared.limits.Limit.TheVariants as limit
use Rattle.mig_words.specs.declared.command.WordFault.{WordFault}
use Rattle.mig_words.specs.declared.command.WordFault.TheVariants as word
use Rattle.mig_syntax.specs.declared.fault.TextFault.{TextFault}
use Rattle.mig_syntax.specs.declared.fault.TextFault.TheVariants as fault

-- a text, and a line feed
abbrev pub line : List ℕ → List ℕ
line text = text ++ 10 ∷ []

-- the line on want of memory
abbrev pub no_memory : List ℕ
no_memory = line (codes "out of memory")

-- ---- words

-- what is said of a word, and its number
abbrev pub numbered : List ℕ → ℕ → List ℕ
numbered text at = text ++ decimal at

-- a fault of words; want of memory is no fault of theirs, and has its own line
abbrev pub word_fault : WordFault → List ℕ
word_fault word.Memory = []
word_fault word.NoCommand = codes "no command"
word_fault (word.UnknownWord at) = numbered (codes "unknown word ") at
word_fault word.Missing = codes "missing"
word_fault (word.Twice at) = numbered (codes "twice at ") at
word_fault (word.Number at) = numbered (codes "number at ") at

-- the line on words that are no command
abbrev pub refused_words : WordFault → List ℕ
refused_words f = codes "words: " ++ line (word_fault f)

-- the line on a command whose work is not there yet
abbrev pub unbuilt_words : List ℕ
unbuilt_words = line (codes "words: not built")

-- ---- files

-- the line on a file that could not be read
abbrev pub cannot_read : List ℕ → List ℕ
cannot_read file = file ++ line (codes ": cannot read")

-- the line on a file that is longer than so many bytes
abbrev pub too_long : List ℕ → ℕ → List ℕ
too_long file cap = file ++ (codes ": longer than " ++ (decimal cap ++ line (codes " bytes")))

-- a number behind a colon
abbrev pub place : ℕ → List ℕ
place n = codes ":" ++ decimal n

-- the line on the first wrong token
abbrev pub not_expected : List ℕ → ℕ → ℕ → List ℕ
not_expected file row column = file ++ (place row ++ (place column ++ line (codes ": not expected")))

-- the name of a limit
abbrev pub limit_name : Limit → List ℕ
limit_name limit.Tables = codes "tables"
limit_name limit.Columns = codes "columns"
limit_name limit.Keys = codes "keys"
limit_name limit.Links = codes "links"
limit_name limit.Functions = codes "functions"
limit_name limit.Parameters = codes "parameters"
limit_name limit.Statements = codes "statements"
limit_name limit.Joined = codes "joined"
limit_name limit.Selected = codes "selected"
limit_name limit.Invariants = codes "invariants"
limit_name limit.Steps = codes "steps"
limit_name limit.Comparisons = codes "comparisons"
limit_name limit.Cases = codes "cases"
limit_name limit.Name = codes "name"
limit_name limit.Text = codes "text"
limit_name limit.Int = codes "int"
limit_name limit.Label = codes "label"
limit_name limit.Hint = codes "hint"
limit_name limit.Hints = codes "hints"
limit_name limit.Pairs = codes "pairs"
limit_name limit.Outs = codes "outs"
limit_name limit.Path = codes "path"
limit_name limit.Args = codes "args"
limit_name limit.Calls = codes "calls"

-- the line on a limit that is passed
abbrev pub past_limit : List ℕ → ℕ → Limit → List ℕ
past_limit file row which = file ++ (place row ++ (codes ": limit " ++ line (limit_name which)))

-- ---- typing rules

-- the side of a schema
abbrev pub side_name : Side → List ℕ
side_name side.Old = codes "Old"
side_name side.New = codes "New"

-- a rule for schemas
abbrev pub schema_rule_name : SchemaRule → List ℕ
schema_rule_name schema_rule.TableTwice = codes "TableTwice"
schema_rule_name schema_rule.ColumnTwice = codes "ColumnTwice"
schema_rule_name schema_rule.LinkEnd = codes "LinkEnd"
schema_rule_name schema_rule.LinkTables = codes "LinkTables"
schema_rule_name schema_rule.LinkKinds = codes "LinkKinds"

-- a rule for programs
abbrev pub program_rule_name : ProgramRule → List ℕ
program_rule_name program_rule.FunctionTwice = codes "FunctionTwice"
program_rule_name program_rule.ParameterTwice = codes "ParameterTwice"
program_rule_name program_rule.UnknownTable = codes "UnknownTable"
program_rule_name program_rule.UnknownColumn = codes "UnknownColumn"
program_rule_name program_rule.JoinedTwice = codes "JoinedTwice"
program_rule_name program_rule.OnShape = codes "OnShape"
program_rule_name program_rule.UnknownParameter = codes "UnknownParameter"
program_rule_name program_rule.NotJoined = codes "NotJoined"
program_rule_name program_rule.KindDiffers = codes "KindDiffers"
program_rule_name program_rule.OrderKind = codes "OrderKind"
program_rule_name program_rule.InsertCover = codes "InsertCover"

-- a rule for hints
abbrev pub hint_rule_name : HintRule → List ℕ
hint_rule_name hint_rule.HintEnd = codes "HintEnd"
hint_rule_name hint_rule.HintKinds = codes "HintKinds"
hint_rule_name hint_rule.HintTwice = codes "HintTwice"

-- where a rule is broken
abbrev pub at_numbers : ℕ → ℕ → List ℕ
at_numbers a b = codes " at " ++ (decimal a ++ (codes " " ++ decimal b))

-- a broken rule and where it is broken; want of memory is no rule
abbrev pub rule_text : TypeFault → List ℕ
rule_text typing.Memory = []
rule_text (typing.Schema on rule a b) = side_name on ++ (schema_rule_name rule ++ at_numbers a b)
rule_text (typing.Program rule function statement) = program_rule_name rule ++ at_numbers function statement
rule_text (typing.Hint rule hint) = hint_rule_name rule ++ at_numbers hint 0

-- the line on a broken typing rule
abbrev pub broken_rule : List ℕ → TypeFault → List ℕ
broken_rule file f = file ++ (codes ": " ++ line (rule_text f))

-- ---- faults of a text

-- the line on a fault of a text
abbrev pub fault_line : List ℕ → TextFault → List ℕ
fault_line file fault.Memory = no_memory
fault_line file (fault.At row column) = not_expected file row column
fault_line file (fault.Limit which row) = past_limit file row which
fault_line file (fault.Typing f) = broken_rule file f
