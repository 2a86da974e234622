-- The places of the typing rules: which are broken, and their order.
use Rattle.std.specs.Prelude.{ℕ, ◌==◌, Bool, true, false, ◌&&◌, List, [], ◌∷◌, length, slice_get}
use Rattle.std.specs.List.{list_any, range_with_len}
use Rattle.std.specs.Option.{option_map_or}
use Rattle.mig_schema.specs.declared.faults.Side.{Side}
use Rattle.mig_schema.specs.declared.faults.Side.TheVariants.{Old, New}
use Rattle.mig_schema.specs.declared.faults.SchemaRule.{SchemaRule}
use Rattle.mig_schema.specs.declared.faults.SchemaRule.TheVariants.{TableTwice, ColumnTwice, LinkEnd, LinkTables, LinkKinds}
use Rattle.mig_schema.specs.declared.faults.ProgramRule.{ProgramRule}
use Rattle.mig_schema.specs.declared.faults.ProgramRule.TheVariants.{FunctionTwice, ParameterTwice, UnknownTable, UnknownColumn, JoinedTwice, OnShape, UnknownParameter, NotJoined, KindDiffers, OrderKind, InsertCover}
use Rattle.mig_schema.specs.declared.faults.HintRule.{HintRule}
use Rattle.mig_schema.specs.declared.faults.HintRule.TheVariants.{HintEnd, HintKinds, HintTwice}
use Rattle.mig_schema.specs.declared.faults.TypeFault.{TypeFault}
use Rattle.mig_schema.specs.declared.faults.TypeFault.TheVariants as fault
use Rattle.mig_schema.specs.declared.tables.Schema.{Schema}
use Rattle.mig_schema.specs.declared.programs.Function.{Function}
use Rattle.mig_schema.specs.declared.programs.Program.{Program}
use Rattle.mig_schema.specs.declared.jobs.Job.{Job}
use Rattle.mig_schema.specs.Typed as typing
use Rattle.mig_schema.specs.Typed.{Piece, pieces_of}

-- ---- the order

-- the rules for schemas, in the order in which they are tested
abbrev pub schema_rank : SchemaRule → ℕ
schema_rank TableTwice = 0
schema_rank ColumnTwice = 1
schema_rank LinkEnd = 2
schema_rank LinkTables = 3
schema_rank LinkKinds = 4

-- those for programs
abbrev pub program_rank : ProgramRule → ℕ
program_rank FunctionTwice = 0
program_rank ParameterTwice = 1
program_rank UnknownTable = 2
program_rank UnknownColumn = 3
program_rank JoinedTwice = 4
program_rank OnShape = 5
program_rank UnknownParameter = 6
program_rank NotJoined = 7
program_rank KindDiffers = 8
program_rank OrderKind = 9
program_rank InsertCover = 10

-- those for hints
abbrev pub hint_rank : HintRule → ℕ
hint_rank HintEnd = 0
hint_rank HintKinds = 1
hint_rank HintTwice = 2

-- A schema is tested by rule, then number; a program by function, then statement, then rule; hints by number, then rule.
abbrev pub numbers : TypeFault → List ℕ
numbers fault.Memory = []
numbers (fault.Schema side rule a b) = schema_rank rule ∷ a ∷ b ∷ []
numbers (fault.Program rule function statement) = function ∷ statement ∷ program_rank rule ∷ []
numbers (fault.Hint rule hint) = hint ∷ hint_rank rule ∷ []

-- ---- schemas

-- whether the item of number k has this fault; false past the end
abbrev pub item_has : {A : Type 0} → (A → Bool) → List A → ℕ → Bool
item_has test xs k = option_map_or test (slice_get xs k) false

-- whether a rule is broken at A and B: A is a table or a link, B a column where columns are compared and else 0
abbrev pub schema_broken : Schema → SchemaRule → (a b : ℕ) → Bool
schema_broken s TableTwice a b = typing.table_twice s a && b == 0
schema_broken s ColumnTwice a b = typing.column_twice s a b
schema_broken s LinkEnd a b = item_has (typing.link_end s) s.links a && b == 0
schema_broken s LinkTables a b = item_has typing.link_tables s.links a && b == 0
schema_broken s LinkKinds a b = item_has (typing.link_kinds s) s.links a && b == 0

-- whether two sides are one
abbrev pub same_side : Side → Side → Bool
same_side Old Old = true
same_side New New = true
same_side _ _ = false

-- the places at which the schema of this side is broken
abbrev pub schema_breaks : Schema → Side → TypeFault → Bool
schema_breaks s side fault.Memory = false
schema_breaks s side (fault.Schema on rule a b) = same_side on side && schema_broken s rule a b
schema_breaks s side (fault.Program rule function statement) = false
schema_breaks s side (fault.Hint rule hint) = false

-- ---- programs

-- whether two parameters of a function have one name
abbrev pub parameters_meet : Function → Bool
parameters_meet f = list_any (typing.parameter_twice f) (range_with_len 0 (length f.params))

-- whether a statement or a query of a function breaks a rule
abbrev pub piece_broken : Schema → Function → ProgramRule → Piece → Bool
piece_broken s f FunctionTwice p = false
piece_broken s f ParameterTwice p = false
piece_broken s f UnknownTable p = typing.unknown_table s p
piece_broken s f UnknownColumn p = typing.unknown_column s p
piece_broken s f JoinedTwice p = typing.joined_twice p
piece_broken s f OnShape p = typing.on_shape s p
piece_broken s f UnknownParameter p = typing.unknown_parameter f p
piece_broken s f NotJoined p = typing.not_joined p
piece_broken s f KindDiffers p = typing.kind_differs s f p
piece_broken s f OrderKind p = typing.order_kind s f p
piece_broken s f InsertCover p = typing.insert_cover s p

-- whether a function that has an earlier one's name, or has not, breaks a rule at a statement; the rules for names stand at statement 0
abbrev pub function_broken : Schema → (twice : Bool) → Function → ProgramRule → (statement : ℕ) → Bool
function_broken s twice f FunctionTwice k = twice && k == 0
function_broken s twice f ParameterTwice k = parameters_meet f && k == 0
function_broken s twice f rule k = item_has (piece_broken s f rule) (pieces_of f.body) k

-- whether a program breaks a rule at a statement of a function
abbrev pub program_broken : Schema → Program → ProgramRule → (function statement : ℕ) → Bool
program_broken s p rule i k = item_has (λ f. function_broken s (typing.function_twice p i) f rule k) p.functions i

-- the places at which a program is broken
abbrev pub program_breaks : Schema → Program → TypeFault → Bool
program_breaks s p fault.Memory = false
program_breaks s p (fault.Schema side rule a b) = false
program_breaks s p (fault.Program rule function statement) = program_broken s p rule function statement
program_breaks s p (fault.Hint rule hint) = false

-- ---- hints

-- whether the hint of number k breaks a rule
abbrev pub hint_broken : Job → HintRule → (hint : ℕ) → Bool
hint_broken j HintEnd k = item_has (typing.hint_end j) j.hints k
hint_broken j HintKinds k = item_has (typing.hint_kinds j) j.hints k
hint_broken j HintTwice k = typing.hint_twice j k

-- the places at which hints are broken
abbrev pub hints_break : Job → TypeFault → Bool
hints_break j fault.Memory = false
hints_break j (fault.Schema side rule a b) = false
hints_break j (fault.Program rule function statement) = false
hints_break j (fault.Hint rule hint) = hint_broken j rule hint
