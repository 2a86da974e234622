-- The canonical text of a program: what stands for what, with one space between tokens.
use Rattle.std.specs.Prelude.{ℕ, Bool, true, false, ◌==◌, if◌then◌else◌, List, [], ◌∷◌, ◌++◌, codes, decimal, slice_index_or}
use Rattle.std.specs.Fmt.{signed_decimal}
use Rattle.std.specs.List.{flat_map, join_by}
use Rattle.mig_schema.specs.Columns.{table_at, column_at}
use Rattle.mig_schema.specs.declared.tables.ColId.{ColId}
use Rattle.mig_schema.specs.declared.tables.Kind.{Kind}
use Rattle.mig_schema.specs.declared.tables.Kind.TheVariants as kind
use Rattle.mig_schema.specs.declared.tables.Schema.{Schema}
use Rattle.mig_schema.specs.declared.programs.Assign.{Assign}
use Rattle.mig_schema.specs.declared.programs.Body.{Body}
use Rattle.mig_schema.specs.declared.programs.Body.TheVariants as body
use Rattle.mig_schema.specs.declared.programs.Cmp.{Cmp}
use Rattle.mig_schema.specs.declared.programs.Cond.{Cond}
use Rattle.mig_schema.specs.declared.programs.Function.{Function}
use Rattle.mig_schema.specs.declared.programs.Item.{Item}
use Rattle.mig_schema.specs.declared.programs.Item.TheVariants as item
use Rattle.mig_schema.specs.declared.programs.Join.{Join}
use Rattle.mig_schema.specs.declared.programs.Joined.{Joined}
use Rattle.mig_schema.specs.declared.programs.Op.{Op}
use Rattle.mig_schema.specs.declared.programs.Op.TheVariants.{Eq, Ne, Lt, Le, Gt, Ge}
use Rattle.mig_schema.specs.declared.programs.Param.{Param}
use Rattle.mig_schema.specs.declared.programs.Program.{Program}
use Rattle.mig_schema.specs.declared.programs.Query.{Query}
use Rattle.mig_schema.specs.declared.programs.Scalar.{Scalar}
use Rattle.mig_schema.specs.declared.programs.Scalar.TheVariants as scalar
use Rattle.mig_schema.specs.declared.programs.Stmt.{Stmt}
use Rattle.mig_schema.specs.declared.programs.Stmt.TheVariants.{Insert, Delete, Set}

-- the name of a table; nothing where no table has the number
abbrev pub table_text : Schema → ℕ → List ℕ
table_text s t = (table_at s t).name

-- T.c
abbrev pub col_text : Schema → ColId → List ℕ
col_text s c = table_text s c.table ++ (codes "." ++ (column_at s c).name)

-- T.c, U.d
abbrev pub cols_text : Schema → List ColId → List ℕ
cols_text s cs = join_by (col_text s) (codes ", ") cs

-- the name of a parameter; nothing where no parameter has the number
abbrev pub param_name : List Param → ℕ → List ℕ
param_name ps p = (slice_index_or ps p (record { name = []; kind = kind.Int })).name

-- a byte of a text: a quote, a backslash and a line feed are escaped, and nothing else is
abbrev pub escaped : ℕ → List ℕ
escaped b = if b == 34 then codes "\\\"" else (if b == 92 then codes "\\\\" else (if b == 10 then codes "\\n" else b ∷ []))

-- a text between quotes
abbrev pub quoted : List ℕ → List ℕ
quoted t = codes "\"" ++ (flat_map escaped t ++ codes "\"")

-- a scalar, for these parameters
abbrev pub scalar_text : List Param → Scalar → List ℕ
scalar_text ps (scalar.Param p) = param_name ps p
scalar_text ps (scalar.Int i) = signed_decimal i
scalar_text ps (scalar.Text t) = quoted t
scalar_text ps (scalar.Fresh n) = codes "fresh " ++ decimal n

-- a side of a comparison
abbrev pub item_text : Schema → List Param → Item → List ℕ
item_text s ps (item.Col c) = col_text s c
item_text s ps (item.Scalar x) = scalar_text ps x

-- the sign of an operator
abbrev pub op_text : Op → List ℕ
op_text Eq = codes "="
op_text Ne = codes "<>"
op_text Lt = codes "<"
op_text Le = codes "<="
op_text Gt = codes ">"
op_text Ge = codes ">="

-- a comparison, with a space on both sides of its operator
abbrev pub cmp_text : Schema → List Param → Cmp → List ℕ
cmp_text s ps c = item_text s ps c.left ++ (codes " " ++ (op_text c.op ++ (codes " " ++ item_text s ps c.right)))

-- a case of a condition
abbrev pub case_text : Schema → List Param → List Cmp → List ℕ
case_text s ps cs = join_by (cmp_text s ps) (codes " and ") cs

-- whether a condition is one empty case
abbrev pub is_always : List (List Cmp) → Bool
is_always ([] ∷ []) = true
is_always _ = false

-- where CASE or CASE, behind a space; nothing for one empty case
abbrev pub where_text : Schema → List Param → Cond → List ℕ
where_text s ps c = if is_always c.cases then [] else codes " where " ++ join_by (case_text s ps) (codes " or ") c.cases

-- a further table of a join, behind a space
abbrev pub joined_text : Schema → Joined → List ℕ
joined_text s j = codes " join " ++ (table_text s j.table ++ (codes " on " ++ (col_text s j.left ++ (codes " = " ++ col_text s j.right))))

-- T join U on T.c = U.d
abbrev pub join_text : Schema → Join → List ℕ
join_text s j = table_text s j.first ++ flat_map (joined_text s) j.more

-- T.c = value
abbrev pub assign_text : Schema → List Param → Assign → List ℕ
assign_text s ps a = col_text s a.column ++ (codes " = " ++ scalar_text ps a.value)

-- the values of an insert between braces, behind a space
abbrev pub values_text : Schema → List Param → List Assign → List ℕ
values_text s ps values = codes " { " ++ (join_by (assign_text s ps) (codes ", ") values ++ codes " }")

-- an insert
abbrev pub insert_text : Schema → List Param → Join → List Assign → List ℕ
insert_text s ps join values = codes "insert into " ++ (join_text s join ++ values_text s ps values)

-- a statement
abbrev pub stmt_text : Schema → List Param → Stmt → List ℕ
stmt_text s ps (Insert join values) = insert_text s ps join values
stmt_text s ps (Delete tables join cond) = codes "delete " ++ (join_by (table_text s) (codes ", ") tables ++ (codes " from " ++ (join_text s join ++ where_text s ps cond)))
stmt_text s ps (Set column value join cond) = codes "set " ++ (col_text s column ++ (codes " = " ++ (scalar_text ps value ++ (codes " in " ++ (join_text s join ++ where_text s ps cond)))))

-- the one line of a query
abbrev pub query_text : Schema → List Param → Query → List ℕ
query_text s ps q = codes "select " ++ (cols_text s q.columns ++ (codes " from " ++ (join_text s q.join ++ where_text s ps q.cond)))

-- a line of a body: two spaces before it, and a semicolon behind it
abbrev pub line_text : List ℕ → List ℕ
line_text text = codes "  " ++ (text ++ codes ";\n")

-- the lines between the braces
abbrev pub body_text : Schema → List Param → Body → List ℕ
body_text s ps (body.Update stmts) = flat_map (λ t. line_text (stmt_text s ps t)) stmts
body_text s ps (body.Query query) = line_text (query_text s ps query)

-- the word of a kind
abbrev pub kind_text : Kind → List ℕ
kind_text kind.Int = codes "int"
kind_text kind.Text = codes "text"
kind_text kind.Key = codes "key"

-- p: kind
abbrev pub param_text : Param → List ℕ
param_text p = p.name ++ (codes ": " ++ kind_text p.kind)

-- the word that begins a function, and a space
abbrev pub sort_text : Body → List ℕ
sort_text (body.Update stmts) = codes "update "
sort_text (body.Query query) = codes "query "

-- a function: its head, its lines, and a line with the brace
abbrev pub function_text : Schema → Function → List ℕ
function_text s f = sort_text f.body ++ (f.name ++ (codes "(" ++ (join_by param_text (codes ", ") f.params ++ (codes ") {\n" ++ (body_text s f.params f.body ++ codes "}\n")))))

-- one function after the other
abbrev pub program_text : Schema → Program → List ℕ
program_text s p = flat_map (function_text s) p.functions
