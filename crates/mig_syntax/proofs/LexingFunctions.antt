-- The tokens of printed statements, functions and programs.
use Rattle.std.proofs.Common.{◌≡◌, ℕ, true, List, [], ◌∷◌, ◌++◌, map, Option, None, refl, sym, subst, append_assoc, map-id, codes}
use Rattle.std.specs.List.{AllByRecursion, join_by}
use Rattle.mig_schema.specs.declared.tables.ColId.{ColId}
use Rattle.mig_schema.specs.declared.tables.Kind.{Kind}
use Rattle.mig_schema.specs.declared.tables.Kind.TheVariants as kind
use Rattle.mig_schema.specs.declared.tables.Schema.{Schema}
use Rattle.mig_schema.specs.declared.programs.Assign.{Assign}
use Rattle.mig_schema.specs.declared.programs.Body.{Body}
use Rattle.mig_schema.specs.declared.programs.Body.TheVariants as body
use Rattle.mig_schema.specs.declared.programs.Cond.{Cond}
use Rattle.mig_schema.specs.declared.programs.Function.{Function}
use Rattle.mig_schema.specs.declared.programs.Join.{Join}
use Rattle.mig_schema.specs.declared.programs.Param.{Param}
use Rattle.mig_schema.specs.declared.programs.Query.{Query}
use Rattle.mig_schema.specs.declared.programs.Stmt.{Stmt}
use Rattle.mig_schema.specs.declared.programs.Stmt.TheVariants.{Insert, Delete, Set}
use Rattle.mig_tokens.specs.declared.token.Token.TheVariants.{Word}
use Rattle.mig_schema.specs.declared.limits.Limit.{Limit}
use Rattle.mig_schema.specs.declared.limits.Limit.TheVariants as limit
use Rattle.mig_tokens.specs.Forms.{Before, no_room, listed, behind_comma, start, word, sign, name, AllOfSome}
use Rattle.mig_tokens.specs.Limits.{over, first_of, name_mark}
use Rattle.mig_tokens.specs.Marked.{Marked, bare}
use Rattle.mig_tokens.specs.Tokens.{Lexes}
use Rattle.mig_grammar.specs.Spelling.{kind_word, body_word, col_tokens, scalar_marked, value_tokens, where_tokens, join_tokens, rows_tokens, param_tokens, assign_tokens, deleted_tokens, stmt_tokens, selected_tokens, select_tokens, body_tokens, function_tokens}
use Rattle.mig_grammar.specs.Shapes.{is_param_kind}
use Rattle.mig_printing.specs.Printing.{table_text, col_text, cols_text, scalar_text, where_text, join_text, assign_text, values_text, stmt_text, query_text, line_text, body_text, kind_text, param_text, sort_text, function_text}
use Rattle.mig_syntax.specs.Printable.{IsNameText}
use Rattle.mig_syntax.proofs.Lexing.{Ends, Prints, ends_ends, ends_prints, prints_prints, prints_ends, ends_flat, prints_joined}
use Rattle.mig_syntax.proofs.LexingBytes.{space, line, prints_word, prints_name}
use Rattle.mig_syntax.proofs.LexingParts.{equal, prints_col, prints_join, prints_scalar, prints_value, prints_where, where_starts}
use Rattle.mig_syntax.proofs.Nice.{NiceTable, NiceCol, NiceJoin, NiceCases, NiceAssign, NiceStmt, NiceQuery, NiceBody, NiceFunction}
use Rattle.mig_syntax.proofs.Trees.{col_tree, join_tree, scalar_tree_of, cases_tree, rows_tree, assign_tree, stmt_tree_of, select_tree, body_tree_of, function_tree}

-- ---- words and signs

comma : Ends (codes ", ") (sign (codes ",") ∷ [])
comma rest more h = (44, codes " " ++ rest, refl, refl, space rest more h)

from_word : Ends (codes " from ") (word (codes "from") ∷ [])
from_word rest more h = (102, codes "rom " ++ rest, refl, refl, space rest more h)

in_word : Ends (codes " in ") (word (codes "in") ∷ [])
in_word rest more h = (105, codes "n " ++ rest, refl, refl, space rest more h)

opening : Ends (codes " { ") (sign (codes "{") ∷ [])
opening rest more h = (123, codes " " ++ rest, refl, refl, space rest more h)

closing : Ends (codes " }") (sign (codes "}") ∷ [])
closing rest more h = (125, rest, refl, refl, h)

insert_into : (m : Option Limit) → Ends (codes "insert into ") ((Word (codes "insert"), m) ∷ word (codes "into") ∷ [])
insert_into m rest more h = (105, codes "nsert into " ++ rest, refl, refl, (105, codes "nto " ++ rest, refl, refl, space rest more h))

delete_word : (m : Option Limit) → Ends (codes "delete ") ((Word (codes "delete"), m) ∷ [])
delete_word m rest more h = (100, codes "elete " ++ rest, refl, refl, space rest more h)

set_word : (m : Option Limit) → Ends (codes "set ") ((Word (codes "set"), m) ∷ [])
set_word m rest more h = (115, codes "et " ++ rest, refl, refl, space rest more h)

select_word : Ends (codes "select ") (word (codes "select") ∷ [])
select_word rest more h = (115, codes "elect " ++ rest, refl, refl, space rest more h)

line_end : Ends (codes ";\n") (sign (codes ";") ∷ [])
line_end rest more h = (59, codes "\n" ++ rest, refl, refl, line rest more h)

colon : Ends (codes ": ") (sign (codes ":") ∷ [])
colon rest more h = (58, codes " " ++ rest, refl, refl, space rest more h)

bracket : Ends (codes "(") (sign (codes "(") ∷ [])
bracket rest more h = (40, rest, refl, refl, h)

head_end : Ends (codes ") {\n") (sign (codes ")") ∷ sign (codes "{") ∷ [])
head_end rest more h = (41, codes " {\n" ++ rest, refl, refl, (123, codes "\n" ++ rest, refl, refl, line rest more h))

function_end : Ends (codes "}\n") (sign (codes "}") ∷ [])
function_end rest more h = (125, codes "\n" ++ rest, refl, refl, line rest more h)

indent : Ends (codes "  ") []
indent rest more h = space (32 ∷ rest) more (space rest more h)

sort_words : (b : Body) (s : Schema) (ps : List Param) (m : Option Limit) → Ends (sort_text b) ((Word (body_word (body_tree_of s ps b)), m) ∷ [])
sort_words (body.Update stmts) s ps m rest more h = (117, codes "pdate " ++ rest, refl, refl, space rest more h)
sort_words (body.Query q) s ps m rest more h = (113, codes "uery " ++ rest, refl, refl, space rest more h)

kind_words : (k : Kind) → Prints (kind_text k) (word (kind_word k) ∷ [])
kind_words kind.Int = prints_word (codes "int") None refl (refl, (refl, (refl, tt)))
kind_words kind.Text = prints_word (codes "text") None refl (refl, (refl, (refl, (refl, tt))))
kind_words kind.Key = prints_word (codes "key") None refl (refl, (refl, (refl, tt)))

-- ---- lists

pub some_all : {A : Type 0} (P : A → Type 0) (xs : List A) → AllOfSome P xs → AllByRecursion P xs
some_all P [] h = absurd h
some_all P (x ∷ xs) h = h

-- items with commas between them
prints_listed : {A B : Type 0} (Good : A → Type 0) (f : A → B) (text : A → List ℕ) (spell : Before → B → List Marked) → ((st : Before) (x : A) → Good x → Prints (text x) (spell st (f x)))
    → (xs : List A) → AllByRecursion Good xs → Prints (join_by text (codes ", ") xs) (listed no_room spell start (map f xs))
prints_listed {A} {B} Good f text spell one xs good =
    prints_joined Good f no_room text (codes ", ") spell (behind_comma spell) (λ x rest. refl) one
    (λ (st : Before) (x : A) (n : Good x). ends_prints (codes ", ") (text x) (sign (codes ",") ∷ []) (spell st (f x)) comma (one st x n)) start xs good

module _ (s : Schema) (ps : List Param) where
  -- ---- statements

  -- a join and a condition, and the end of the line
  rows_line : (j : Join) (c : Cond) → NiceJoin s j → NiceCases s ps c.cases → Ends ((join_text s j ++ where_text s ps c) ++ codes ";\n") (rows_tokens (rows_tree s ps j c))
  rows_line j c n m rest more h =
      subst (λ (ms : List Marked). Lexes (((join_text s j ++ where_text s ps c) ++ codes ";\n") ++ rest) (bare ms ++ more)) (append_assoc (join_tokens (join_tree s j)) (where_tokens (cases_tree s ps c.cases)) (sign (codes ";") ∷ []))
      (prints_ends (join_text s j ++ where_text s ps c) (codes ";\n") (join_tokens (join_tree s j) ++ where_tokens (cases_tree s ps c.cases)) (sign (codes ";") ∷ [])
      (prints_prints (join_text s j) (where_text s ps c) (join_tokens (join_tree s j)) (where_tokens (cases_tree s ps c.cases)) (prints_join s j n) (where_starts s ps c) (prints_where s ps c m))
      (λ r. refl) line_end rest more h)

  deleted : (st : Before) (t : ℕ) → NiceTable s t → Prints (table_text s t) (deleted_tokens st (table_text s t))
  deleted st t n = prints_name (table_text s t) (name_mark (table_text s t)) n.0

  assigned : (st : Before) (a : Assign) → NiceAssign s ps a → Prints (assign_text s ps a) (assign_tokens st (assign_tree s ps a))
  assigned st a n =
      let value = value_tokens (assign_tree s ps a).value in
      prints_prints (col_text s a.column) (codes " = " ++ scalar_text ps a.value) (col_tokens (col_tree s a.column)) (sign (codes "=") ∷ value) (prints_col s None a.column n.0) (λ rest br. refl)
      (ends_prints (codes " = ") (scalar_text ps a.value) (sign (codes "=") ∷ []) value equal (prints_value s ps a.value n.1))

  -- the end of a line is put inside
  inside : (a b c : List ℕ) (ms : List Marked) → Ends (a ++ (b ++ c)) ms → Ends ((a ++ b) ++ c) ms
  inside a b c ms h = subst (λ (xs : List ℕ). Ends xs ms) (sym (append_assoc a b c)) h

  pub line_of : (st : Before) (t : Stmt) → NiceStmt s ps t → Ends (stmt_text s ps t ++ codes ";\n") (stmt_tokens st (stmt_tree_of s ps t))
  line_of st (Insert join values) n =
      let list = join_by (assign_text s ps) (codes ", ") values in
      let list_tokens = listed no_room assign_tokens start (map (assign_tree s ps) values) in
      let tail = sign (codes "}") ∷ sign (codes ";") ∷ [] in
      inside (codes "insert into ") (join_text s join ++ values_text s ps values) (codes ";\n") (stmt_tokens st (stmt_tree_of s ps (Insert join values)))
      (ends_ends (codes "insert into ") ((join_text s join ++ values_text s ps values) ++ codes ";\n") ((Word (codes "insert"), over limit.Statements 4 st.0) ∷ word (codes "into") ∷ []) (join_tokens (join_tree s join) ++ sign (codes "{") ∷ (list_tokens ++ tail)) (insert_into (over limit.Statements 4 st.0))
      (inside (join_text s join) (values_text s ps values) (codes ";\n") (join_tokens (join_tree s join) ++ sign (codes "{") ∷ (list_tokens ++ tail))
      (prints_ends (join_text s join) (values_text s ps values ++ codes ";\n") (join_tokens (join_tree s join)) (sign (codes "{") ∷ (list_tokens ++ tail)) (prints_join s join n.0) (λ r. refl)
      (inside (codes " { ") (list ++ codes " }") (codes ";\n") (sign (codes "{") ∷ (list_tokens ++ tail))
      (ends_ends (codes " { ") ((list ++ codes " }") ++ codes ";\n") (sign (codes "{") ∷ []) (list_tokens ++ tail) opening
      (inside list (codes " }") (codes ";\n") (list_tokens ++ tail)
      (prints_ends list (codes " }" ++ codes ";\n") list_tokens tail (prints_listed (NiceAssign s ps) (assign_tree s ps) (assign_text s ps) assign_tokens assigned values (some_all (NiceAssign s ps) values n.1)) (λ r. refl)
      (ends_ends (codes " }") (codes ";\n") (sign (codes "}") ∷ []) (sign (codes ";") ∷ []) closing line_end))))))))
  line_of st (Delete tables join test) n =
      let list = join_by (table_text s) (codes ", ") tables in
      let list_tokens = listed no_room deleted_tokens start (map (table_text s) tables) in
      let rows = join_text s join ++ where_text s ps test in
      let row_tokens = rows_tokens (rows_tree s ps join test) in
      inside (codes "delete ") (list ++ (codes " from " ++ rows)) (codes ";\n") (stmt_tokens st (stmt_tree_of s ps (Delete tables join test)))
      (ends_ends (codes "delete ") ((list ++ (codes " from " ++ rows)) ++ codes ";\n") ((Word (codes "delete"), over limit.Statements 4 st.0) ∷ []) (list_tokens ++ word (codes "from") ∷ row_tokens) (delete_word (over limit.Statements 4 st.0))
      (inside list (codes " from " ++ rows) (codes ";\n") (list_tokens ++ word (codes "from") ∷ row_tokens)
      (prints_ends list ((codes " from " ++ rows) ++ codes ";\n") list_tokens (word (codes "from") ∷ row_tokens) (prints_listed (NiceTable s) (table_text s) (table_text s) deleted_tokens deleted tables (some_all (NiceTable s) tables n.0)) (λ r. refl)
      (inside (codes " from ") rows (codes ";\n") (word (codes "from") ∷ row_tokens)
      (ends_ends (codes " from ") (rows ++ codes ";\n") (word (codes "from") ∷ []) row_tokens from_word (rows_line join test n.1.0 n.1.1))))))
  line_of st (Set column x join test) n =
      let rows = join_text s join ++ where_text s ps test in
      let row_tokens = rows_tokens (rows_tree s ps join test) in
      let value = scalar_text ps x ++ (codes " in " ++ rows) in
      let value_marked = scalar_marked None (scalar_tree_of s ps x) ++ word (codes "in") ∷ row_tokens in
      inside (codes "set ") (col_text s column ++ (codes " = " ++ value)) (codes ";\n") (stmt_tokens st (stmt_tree_of s ps (Set column x join test)))
      (ends_ends (codes "set ") ((col_text s column ++ (codes " = " ++ value)) ++ codes ";\n") ((Word (codes "set"), over limit.Statements 4 st.0) ∷ []) (col_tokens (col_tree s column) ++ sign (codes "=") ∷ value_marked) (set_word (over limit.Statements 4 st.0))
      (inside (col_text s column) (codes " = " ++ value) (codes ";\n") (col_tokens (col_tree s column) ++ sign (codes "=") ∷ value_marked)
      (prints_ends (col_text s column) ((codes " = " ++ value) ++ codes ";\n") (col_tokens (col_tree s column)) (sign (codes "=") ∷ value_marked) (prints_col s None column n.0.0) (λ r. refl)
      (inside (codes " = ") value (codes ";\n") (sign (codes "=") ∷ value_marked)
      (ends_ends (codes " = ") (value ++ codes ";\n") (sign (codes "=") ∷ []) value_marked equal
      (inside (scalar_text ps x) (codes " in " ++ rows) (codes ";\n") value_marked
      (prints_ends (scalar_text ps x) ((codes " in " ++ rows) ++ codes ";\n") (scalar_marked None (scalar_tree_of s ps x)) (word (codes "in") ∷ row_tokens) (prints_scalar s ps None x n.0.1) (λ r. refl)
      (inside (codes " in ") rows (codes ";\n") (word (codes "in") ∷ row_tokens)
      (ends_ends (codes " in ") (rows ++ codes ";\n") (word (codes "in") ∷ []) row_tokens in_word (rows_line join test n.1.0 n.1.1))))))))))

  -- ---- queries and bodies

  chosen : (st : Before) (c : ColId) → NiceCol s c → Prints (col_text s c) (selected_tokens st (col_tree s c))
  chosen st c n = prints_col s (over limit.Selected 16 st.0) c n

  pub query_line : (q : Query) → NiceQuery s ps q → Ends (query_text s ps q ++ codes ";\n") (select_tokens (select_tree s ps q))
  query_line q n =
      let list = cols_text s q.columns in
      let list_tokens = listed no_room selected_tokens start (map (col_tree s) q.columns) in
      let rows = join_text s q.join ++ where_text s ps q.cond in
      let row_tokens = rows_tokens (rows_tree s ps q.join q.cond) in
      inside (codes "select ") (list ++ (codes " from " ++ rows)) (codes ";\n") (select_tokens (select_tree s ps q))
      (ends_ends (codes "select ") ((list ++ (codes " from " ++ rows)) ++ codes ";\n") (word (codes "select") ∷ []) (list_tokens ++ word (codes "from") ∷ row_tokens) select_word
      (inside list (codes " from " ++ rows) (codes ";\n") (list_tokens ++ word (codes "from") ∷ row_tokens)
      (prints_ends list ((codes " from " ++ rows) ++ codes ";\n") list_tokens (word (codes "from") ∷ row_tokens) (prints_listed (NiceCol s) (col_tree s) (col_text s) selected_tokens chosen q.columns (some_all (NiceCol s) q.columns n.columns)) (λ r. refl)
      (inside (codes " from ") rows (codes ";\n") (word (codes "from") ∷ row_tokens)
      (ends_ends (codes " from ") (rows ++ codes ";\n") (word (codes "from") ∷ []) row_tokens from_word (rows_line q.join q.cond n.join n.cases))))))

  stmt_line : (st : Before) (t : Stmt) → NiceStmt s ps t → Ends (line_text (stmt_text s ps t)) (stmt_tokens st (stmt_tree_of s ps t))
  stmt_line st t n = ends_ends (codes "  ") (stmt_text s ps t ++ codes ";\n") [] (stmt_tokens st (stmt_tree_of s ps t)) indent (line_of st t n)

  pub ends_body : (b : Body) → NiceBody s ps b → Ends (body_text s ps b) (body_tokens (body_tree_of s ps b))
  ends_body (body.Update []) n = absurd n.0
  ends_body (body.Update (t ∷ ts)) n = ends_flat (NiceStmt s ps) (stmt_tree_of s ps) no_room (λ (u : Stmt). line_text (stmt_text s ps u)) stmt_tokens stmt_line start (t ∷ ts) n.0
  ends_body (body.Query q) n = ends_ends (codes "  ") (query_text s ps q ++ codes ";\n") [] (select_tokens (select_tree s ps q)) indent (query_line q n)

-- ---- functions

one_param : (st : Before) (p : Param) → IsNameText p.name → Prints (param_text p) (param_tokens st p)
one_param st p n =
    prints_prints p.name (codes ": " ++ kind_text p.kind) ((Word p.name, first_of (over limit.Parameters 8 st.0) (name_mark p.name)) ∷ []) (sign (codes ":") ∷ word (kind_word p.kind) ∷ []) (prints_name p.name (first_of (over limit.Parameters 8 st.0) (name_mark p.name)) n) (λ rest br. refl)
    (ends_prints (codes ": ") (kind_text p.kind) (sign (codes ":") ∷ []) (word (kind_word p.kind) ∷ []) colon (kind_words p.kind))

names_of : (ps : List Param) → AllByRecursion (λ (p : Param). IsNameText p.name × (is_param_kind p.kind ≡ true)) ps → AllByRecursion (λ (p : Param). IsNameText p.name) ps
names_of [] h = tt
names_of (p ∷ ps) h = (h.0.0, names_of ps h.1)

all_params : (ps : List Param) → AllByRecursion (λ (p : Param). IsNameText p.name) ps → Prints (join_by param_text (codes ", ") ps) (listed no_room param_tokens start ps)
all_params ps n = subst (λ (qs : List Param). Prints (join_by param_text (codes ", ") ps) (listed no_room param_tokens start qs)) (map-id ps) (prints_listed (λ (p : Param). IsNameText p.name) (λ (p : Param). p) param_text param_tokens one_param ps n)

pub ends_function : (s : Schema) (st : Before) (f : Function) → NiceFunction s f → Ends (function_text s f) (function_tokens st (function_tree s f))
ends_function s st f n =
    let lines = body_text s f.params f.body ++ codes "}\n" in
    let line_tokens = body_tokens (body_tree_of s f.params f.body) ++ sign (codes "}") ∷ [] in
    let list = join_by param_text (codes ", ") f.params in
    let list_tokens = listed no_room param_tokens start f.params in
    let behind_list = sign (codes ")") ∷ sign (codes "{") ∷ line_tokens in
    ends_ends (sort_text f.body) (f.name ++ (codes "(" ++ (list ++ (codes ") {\n" ++ lines)))) ((Word (body_word (body_tree_of s f.params f.body)), over limit.Functions 32 st.0) ∷ []) (name f.name ∷ sign (codes "(") ∷ (list_tokens ++ behind_list)) (sort_words f.body s f.params (over limit.Functions 32 st.0))
    (prints_ends f.name (codes "(" ++ (list ++ (codes ") {\n" ++ lines))) (name f.name ∷ []) (sign (codes "(") ∷ (list_tokens ++ behind_list)) (prints_name f.name (name_mark f.name) n.name) (λ r. refl)
    (ends_ends (codes "(") (list ++ (codes ") {\n" ++ lines)) (sign (codes "(") ∷ []) (list_tokens ++ behind_list) bracket
    (prints_ends list (codes ") {\n" ++ lines) list_tokens behind_list (all_params f.params (names_of f.params n.params)) (λ r. refl)
    (ends_ends (codes ") {\n") lines (sign (codes ")") ∷ sign (codes "{") ∷ []) line_tokens head_end
    (ends_ends (body_text s f.params f.body) (codes "}\n") (body_tokens (body_tree_of s f.params f.body)) (sign (codes "}") ∷ []) (ends_body s f.params f.body n.body) function_end)))))
