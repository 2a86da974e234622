-- The grammar of jobs. Each function spells one of its lines in tokens, and gives each token the limit that it passes.
use Rattle.std.specs.Prelude.{ℕ, ◌==◌, Bool, cond, List, [], ◌∷◌, ◌++◌, length, codes, Option, Some, None}
use Rattle.std.specs.List.{count_by}
use Rattle.mig_schema.specs.declared.tables.Kind.{Kind}
use Rattle.mig_schema.specs.declared.tables.Kind.TheVariants as kind
use Rattle.mig_schema.specs.declared.tables.Column.{Column}
use Rattle.mig_schema.specs.declared.tables.Table.{Table}
use Rattle.mig_schema.specs.declared.programs.Op.{Op}
use Rattle.mig_schema.specs.declared.programs.Op.TheVariants as op
use Rattle.mig_schema.specs.declared.programs.Param.{Param}
use Rattle.mig_schema.specs.Columns.{same_kind}
use Rattle.mig_tokens.specs.declared.token.Token.TheVariants.{Word, Int, Text, End}
use Rattle.mig_tokens.specs.declared.token.Token.{Token}
use Rattle.mig_schema.specs.declared.limits.Limit.{Limit}
use Rattle.mig_schema.specs.declared.limits.Limit.TheVariants as limit
use Rattle.mig_tokens.specs.Marked.{Marked}
use Rattle.mig_tokens.specs.Numbers.{weight_of, is_label}
use Rattle.mig_tokens.specs.Limits.{over, full, first_of, name_mark, int_mark, text_mark}
use Rattle.mig_tokens.specs.Forms.{word, sign, name, Before, start, no_room, numbered, led, listed}
use Rattle.mig_grammar.specs.declared.tree.ColName.{ColName}
use Rattle.mig_grammar.specs.declared.tree.LinkTree.{LinkTree}
use Rattle.mig_grammar.specs.declared.tree.SchemaTree.{SchemaTree}
use Rattle.mig_grammar.specs.declared.tree.ScalarTree.{ScalarTree}
use Rattle.mig_grammar.specs.declared.tree.ScalarTree.TheVariants as scalar
use Rattle.mig_grammar.specs.declared.tree.ValueTree.{ValueTree}
use Rattle.mig_grammar.specs.declared.tree.ValueTree.TheVariants as value
use Rattle.mig_grammar.specs.declared.tree.ItemTree.{ItemTree}
use Rattle.mig_grammar.specs.declared.tree.ItemTree.TheVariants as item
use Rattle.mig_grammar.specs.declared.tree.CmpTree.{CmpTree}
use Rattle.mig_grammar.specs.declared.tree.JoinedTree.{JoinedTree}
use Rattle.mig_grammar.specs.declared.tree.JoinTree.{JoinTree}
use Rattle.mig_grammar.specs.declared.tree.RowsTree.{RowsTree}
use Rattle.mig_grammar.specs.declared.tree.AssignTree.{AssignTree}
use Rattle.mig_grammar.specs.declared.tree.StmtTree.{StmtTree}
use Rattle.mig_grammar.specs.declared.tree.StmtTree.TheVariants as stmt
use Rattle.mig_grammar.specs.declared.tree.SelectTree.{SelectTree}
use Rattle.mig_grammar.specs.declared.tree.BodyTree.{BodyTree}
use Rattle.mig_grammar.specs.declared.tree.BodyTree.TheVariants as body
use Rattle.mig_grammar.specs.declared.tree.FunctionTree.{FunctionTree}
use Rattle.mig_grammar.specs.declared.tree.HintTree.{HintTree}
use Rattle.mig_grammar.specs.declared.tree.JobTree.{JobTree}

-- ---- words

-- the word of a kind
abbrev pub kind_word : Kind → List ℕ
kind_word kind.Int = codes "int"
kind_word kind.Text = codes "text"
kind_word kind.Key = codes "key"

-- the word that begins a function
abbrev pub body_word : BodyTree → List ℕ
body_word (body.Update stmts) = codes "update"
body_word (body.Query select) = codes "query"

-- the sign of an operator
abbrev pub op_sign : Op → List ℕ
op_sign op.Eq = codes "="
op_sign op.Ne = codes "<>"
op_sign op.Lt = codes "<"
op_sign op.Le = codes "<="
op_sign op.Gt = codes ">"
op_sign op.Ge = codes ">="

-- ---- limits

-- a label is an int from 0 to 15
abbrev pub label_mark : List ℕ → Option Limit
label_mark v = first_of (int_mark v) (cond (is_label v) None (Some limit.Label))

-- a weight is an int from 1 to 100
abbrev pub weight_mark : List ℕ → Option Limit
weight_mark v = first_of (int_mark v) (cond (weight_of v == 0) (Some limit.Hint) None)

-- ---- schemas

-- whether a column is of kind key
abbrev pub is_key : Column → Bool
is_key c = same_kind c.kind kind.Key

-- a column takes room where it is of kind key
abbrev pub key_of : Column → ℕ
key_of c = cond (is_key c) 1 0

-- the key columns of a table
abbrev pub keys_of : Table → ℕ
keys_of t = count_by is_key t.columns

-- a key column counts at its word
abbrev pub kind_mark : ℕ → Kind → Option Limit
kind_mark room k = cond (same_kind k kind.Key) (full limit.Keys room) None

-- column = NAME ":" ( "int" | "text" | "key" )
abbrev pub column_tokens : Before → Column → List Marked
column_tokens s c = (Word c.name, first_of (over limit.Columns 12 s.0) (name_mark c.name)) ∷ sign (codes ":") ∷ (Word (kind_word c.kind), kind_mark s.1 c.kind) ∷ []

-- table = "table" NAME "{" column { "," column } "}"
abbrev pub table_tokens : Before → Table → List Marked
table_tokens s t = (Word (codes "table"), over limit.Tables 16 s.0) ∷ name t.name ∷ sign (codes "{") ∷ (listed key_of column_tokens (0, s.1) t.columns ++ sign (codes "}") ∷ [])

-- col = NAME "." NAME, where the column passes this limit
abbrev pub col_marked : Option Limit → ColName → List Marked
col_marked mark c = (Word c.table, first_of mark (name_mark c.table)) ∷ sign (codes ".") ∷ name c.column ∷ []

-- col = NAME "." NAME
abbrev pub col_tokens : ColName → List Marked
col_tokens c = col_marked None c

-- link = "link" col "=" col ";"
abbrev pub link_tokens : Before → LinkTree → List Marked
link_tokens s l = (Word (codes "link"), over limit.Links 32 s.0) ∷ (col_tokens l.left ++ sign (codes "=") ∷ (col_tokens l.right ++ sign (codes ";") ∷ []))

-- schema = table* link*, with at most 24 key columns in all its tables
abbrev pub schema_tokens : SchemaTree → List Marked
schema_tokens s = numbered keys_of table_tokens (0, 24) s.tables ++ numbered no_room link_tokens start s.links

-- ---- scalars and conditions

-- the token of a scalar
abbrev pub scalar_token : ScalarTree → Token
scalar_token (scalar.Name v) = Word v
scalar_token (scalar.Int v) = Int v
scalar_token (scalar.Text v) = Text v

-- the limit that a scalar passes
abbrev pub scalar_mark : ScalarTree → Option Limit
scalar_mark (scalar.Name v) = name_mark v
scalar_mark (scalar.Int v) = int_mark v
scalar_mark (scalar.Text v) = text_mark v

-- scalar = NAME | INT | TEXT, where the scalar passes this limit
abbrev pub scalar_marked : Option Limit → ScalarTree → List Marked
scalar_marked mark x = (scalar_token x, first_of mark (scalar_mark x)) ∷ []

-- value = scalar | "fresh" INT
abbrev pub value_tokens : ValueTree → List Marked
value_tokens (value.Scalar x) = scalar_marked None x
value_tokens (value.Fresh v) = word (codes "fresh") ∷ (Int v, label_mark v) ∷ []

-- item = col | scalar, where the item passes this limit
abbrev pub item_marked : Option Limit → ItemTree → List Marked
item_marked mark (item.Col c) = col_marked mark c
item_marked mark (item.Scalar x) = scalar_marked mark x

-- item op item, where op = "=" | "<>" | "<" | "<=" | ">" | ">="
abbrev pub cmp_tokens : Before → CmpTree → List Marked
cmp_tokens s c = item_marked (full limit.Comparisons s.1) c.left ++ sign (op_sign c.op) ∷ item_marked None c.right

-- the same behind "and"
abbrev pub and_tokens : Before → CmpTree → List Marked
and_tokens s c = word (codes "and") ∷ cmp_tokens s c

-- each comparison of a condition counts
abbrev pub one_each : CmpTree → ℕ
one_each c = 1

-- case = item op item { "and" item op item }
abbrev pub case_tokens : Before → List CmpTree → List Marked
case_tokens s cs = led one_each cmp_tokens and_tokens (0, s.1) cs

-- a case behind "or"
abbrev pub or_tokens : Before → List CmpTree → List Marked
or_tokens s cs = (Word (codes "or"), over limit.Cases 16 s.0) ∷ case_tokens s cs

-- where = "where" case { "or" case }, with at most 16 comparisons in all its cases; nothing where there is no case
abbrev pub where_tokens : List (List CmpTree) → List Marked
where_tokens [] = []
where_tokens (c ∷ cs) = word (codes "where") ∷ led length case_tokens or_tokens (0, 16) (c ∷ cs)

-- ---- joins

-- "join" NAME "on" col "=" col
abbrev pub joined_tokens : Before → JoinedTree → List Marked
joined_tokens s j = (Word (codes "join"), over limit.Joined 4 s.0) ∷ name j.table ∷ word (codes "on") ∷ (col_tokens j.left ++ sign (codes "=") ∷ col_tokens j.right)

-- join = NAME { "join" NAME "on" col "=" col }
abbrev pub join_tokens : JoinTree → List Marked
join_tokens j = name j.first ∷ numbered no_room joined_tokens (1, 0) j.more

-- join [ where ] ";"
abbrev pub rows_tokens : RowsTree → List Marked
rows_tokens r = join_tokens r.join ++ (where_tokens r.cases ++ sign (codes ";") ∷ [])

-- ---- functions

-- param = NAME ":" ( "int" | "text" )
abbrev pub param_tokens : Before → Param → List Marked
param_tokens s p = (Word p.name, first_of (over limit.Parameters 8 s.0) (name_mark p.name)) ∷ sign (codes ":") ∷ word (kind_word p.kind) ∷ []

-- col "=" value
abbrev pub assign_tokens : Before → AssignTree → List Marked
assign_tokens s a = col_tokens a.column ++ sign (codes "=") ∷ value_tokens a.value

-- a table that is deleted from
abbrev pub deleted_tokens : Before → List ℕ → List Marked
deleted_tokens s n = name n ∷ []

-- stmt = "insert" "into" join "{" col "=" value { "," col "=" value } "}" ";"
--      | "delete" NAME { "," NAME } "from" join [ where ] ";"
--      | "set" col "=" scalar "in" join [ where ] ";"
abbrev pub stmt_tokens : Before → StmtTree → List Marked
stmt_tokens s (stmt.Insert join values) = (Word (codes "insert"), over limit.Statements 4 s.0) ∷ word (codes "into") ∷ (join_tokens join ++ sign (codes "{") ∷ (listed no_room assign_tokens start values ++ sign (codes "}") ∷ sign (codes ";") ∷ []))
stmt_tokens s (stmt.Delete tables rows) = (Word (codes "delete"), over limit.Statements 4 s.0) ∷ (listed no_room deleted_tokens start tables ++ word (codes "from") ∷ rows_tokens rows)
stmt_tokens s (stmt.Set column x rows) = (Word (codes "set"), over limit.Statements 4 s.0) ∷ (col_tokens column ++ sign (codes "=") ∷ (scalar_marked None x ++ word (codes "in") ∷ rows_tokens rows))

-- a column that is selected
abbrev pub selected_tokens : Before → ColName → List Marked
selected_tokens s c = col_marked (over limit.Selected 16 s.0) c

-- select = "select" col { "," col } "from" join [ where ] ";"
abbrev pub select_tokens : SelectTree → List Marked
select_tokens q = word (codes "select") ∷ (listed no_room selected_tokens start q.columns ++ word (codes "from") ∷ rows_tokens q.rows)

-- stmt { stmt } in an update, select in a query
abbrev pub body_tokens : BodyTree → List Marked
body_tokens (body.Update stmts) = led no_room stmt_tokens stmt_tokens start stmts
body_tokens (body.Query select) = select_tokens select

-- function = "update" NAME "(" [ param { "," param } ] ")" "{" stmt { stmt } "}"
--          | "query" NAME "(" [ param { "," param } ] ")" "{" select "}"
abbrev pub function_tokens : Before → FunctionTree → List Marked
function_tokens s f = (Word (body_word f.body), over limit.Functions 32 s.0) ∷ name f.name ∷ sign (codes "(") ∷ (listed no_room param_tokens start f.params ++ sign (codes ")") ∷ sign (codes "{") ∷ (body_tokens f.body ++ sign (codes "}") ∷ []))

-- ---- whole texts

-- hint = "hint" col "->" col INT ";"
abbrev pub hint_tokens : Before → HintTree → List Marked
hint_tokens s h = (Word (codes "hint"), over limit.Hints 256 s.0) ∷ (col_tokens h.source ++ sign (codes "->") ∷ (col_tokens h.target ++ (Int h.weight, weight_mark h.weight) ∷ sign (codes ";") ∷ []))

-- [ "hints" hint* ]
abbrev pub hints_tokens : Option (List HintTree) → List Marked
hints_tokens None = []
hints_tokens (Some hs) = word (codes "hints") ∷ numbered no_room hint_tokens start hs

-- job = "old" schema "new" schema "program" function* [ "hints" hint* ], and the end of the text
abbrev pub job_tokens : JobTree → List Marked
job_tokens j = word (codes "old") ∷ (schema_tokens j.source ++ word (codes "new") ∷ (schema_tokens j.target ++ word (codes "program") ∷ (numbered no_room function_tokens start j.functions ++ (hints_tokens j.hints ++ (End, None) ∷ []))))

-- a program alone: function*, and the end of the text
abbrev pub program_tokens : List FunctionTree → List Marked
program_tokens fs = numbered no_room function_tokens start fs ++ (End, None) ∷ []
