-- Reading of functions.
use Rattle.std.specs.Prelude.{ℕ, Bool, true, cond, List, [], codes, None}
use Rattle.mig_schema.specs.declared.programs.Param.{Param}
use Rattle.mig_tokens.specs.declared.token.Token.{Token}
use Rattle.mig_schema.specs.declared.limits.Limit.TheVariants as limit
use Rattle.mig_tokens.specs.Reading.{Read, Took, ◌>>=◌, give, choice_at, many_at, led_at}
use Rattle.mig_tokens.specs.Forms.{Before, start, no_room}
use Rattle.mig_tokens.specs.Limits.{over}
use Rattle.mig_tokens.specs.Pieces.{begins_word, begins_sign, word_at, sign_at, name_at, next, listed_at}
use Rattle.mig_grammar.specs.declared.tree.ColName.{ColName}
use Rattle.mig_grammar.specs.declared.tree.AssignTree.{AssignTree}
use Rattle.mig_grammar.specs.declared.tree.StmtTree.{StmtTree}
use Rattle.mig_grammar.specs.declared.tree.StmtTree.TheVariants as stmt
use Rattle.mig_grammar.specs.declared.tree.SelectTree.{SelectTree}
use Rattle.mig_grammar.specs.declared.tree.BodyTree.{BodyTree}
use Rattle.mig_grammar.specs.declared.tree.BodyTree.TheVariants as body
use Rattle.mig_grammar.specs.declared.tree.FunctionTree.{FunctionTree}
use Rattle.mig_grammar.specs.declared.functions.Head.{Head}
use Rattle.mig_grammar.specs.declared.functions.Head.TheVariants as head
use Rattle.mig_grammar.specs.ReadingTokens.{begins_function, scalar_at, param_kind_at, head_at}
use Rattle.mig_grammar.specs.ReadingSchemas.{col_at}
use Rattle.mig_grammar.specs.ReadingConditions.{value_at, join_at, rows_at}

-- param
unfoldable pub param_at : Before → List Token → Read Param
param_at s ts = do
  n ← name_at (over limit.Parameters 8 s.0) ts
  o ← sign_at (codes ":") n.1
  c ← param_kind_at o.1
  Took (record { name = n.0; kind = c.0 }) c.1

-- parameters up to a closing bracket
abbrev pub params_at : List Token → Read (List Param)
params_at = choice_at (begins_sign (codes ")")) (give []) (listed_at no_room param_at start)

-- col "=" value
unfoldable pub assign_at : Before → List Token → Read AssignTree
assign_at s ts = do
  c ← col_at None ts
  e ← sign_at (codes "=") c.1
  v ← value_at e.1
  Took (record { column = c.0; value = v.0 }) v.1

-- a table that is deleted from
unfoldable pub deleted_at : Before → List Token → Read (List ℕ)
deleted_at s ts = name_at None ts

-- an insert
unfoldable pub insert_at : Before → List Token → Read StmtTree
insert_at s ts = do
  w ← word_at (codes "insert") (over limit.Statements 4 s.0) ts
  i ← word_at (codes "into") None w.1
  j ← join_at i.1
  o ← sign_at (codes "{") j.1
  vs ← listed_at no_room assign_at start o.1
  e ← sign_at (codes "}") vs.1
  c ← sign_at (codes ";") e.1
  Took (stmt.Insert j.0 vs.0) c.1

-- a delete
unfoldable pub delete_at : Before → List Token → Read StmtTree
delete_at s ts = do
  w ← word_at (codes "delete") (over limit.Statements 4 s.0) ts
  ns ← listed_at no_room deleted_at start w.1
  f ← word_at (codes "from") None ns.1
  r ← rows_at f.1
  Took (stmt.Delete ns.0 r.0) r.1

-- a set
unfoldable pub set_at : Before → List Token → Read StmtTree
set_at s ts = do
  w ← word_at (codes "set") (over limit.Statements 4 s.0) ts
  c ← col_at None w.1
  e ← sign_at (codes "=") c.1
  x ← scalar_at None e.1
  i ← word_at (codes "in") None x.1
  r ← rows_at i.1
  Took (stmt.Set c.0 x.0 r.0) r.1

-- stmt
abbrev pub stmt_at : Before → List Token → Read StmtTree
stmt_at s = choice_at (begins_word (codes "insert")) (insert_at s) (choice_at (begins_word (codes "delete")) (delete_at s) (set_at s))

-- whether the token begins a statement
abbrev pub begins_stmt : Token → Bool
begins_stmt t = cond (begins_word (codes "insert") t) true (cond (begins_word (codes "delete") t) true (begins_word (codes "set") t))

-- stmt { stmt }
abbrev pub stmts_at : List Token → Read (List StmtTree)
stmts_at = led_at stmt_at begins_stmt stmt_at (next no_room) start

-- a selected col
unfoldable pub selected_at : Before → List Token → Read ColName
selected_at s ts = col_at (over limit.Selected 16 s.0) ts

-- select
unfoldable pub select_at : List Token → Read SelectTree
select_at ts = do
  w ← word_at (codes "select") None ts
  cs ← listed_at no_room selected_at start w.1
  f ← word_at (codes "from") None cs.1
  r ← rows_at f.1
  Took (record { columns = cs.0; rows = r.0 }) r.1

-- what stands between the braces of an update
unfoldable pub update_body_at : List Token → Read BodyTree
update_body_at ts = do
  ss ← stmts_at ts
  Took (body.Update ss.0) ss.1

-- what stands between the braces of a query
unfoldable pub query_body_at : List Token → Read BodyTree
query_body_at ts = do
  s ← select_at ts
  Took (body.Query s.0) s.1

-- the body that this first word asks for
abbrev pub body_at : Head → List Token → Read BodyTree
body_at head.Update = update_body_at
body_at head.Query = query_body_at

-- function
unfoldable pub function_at : Before → List Token → Read FunctionTree
function_at s ts = do
  h ← head_at (over limit.Functions 32 s.0) ts
  n ← name_at None h.1
  o ← sign_at (codes "(") n.1
  ps ← params_at o.1
  c ← sign_at (codes ")") ps.1
  b ← sign_at (codes "{") c.1
  y ← body_at h.0 b.1
  e ← sign_at (codes "}") y.1
  Took (record { name = n.0; params = ps.0; body = y.0 }) e.1

-- function*
abbrev pub functions_at : List Token → Read (List FunctionTree)
functions_at = many_at begins_function function_at (next no_room) start
