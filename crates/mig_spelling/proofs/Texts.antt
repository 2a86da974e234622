-- The functions of a job that a text spells are spelled.
use Rattle.std.proofs.Common.{◌≡◌, ℕ, Bool, true, false, ◌&&◌, List, [], ◌∷◌, ◌++◌, map, None, refl, sym, subst, codes}
use Rattle.std.specs.List.{list_all, AllByRecursion}
use Rattle.std.proofs.lemmas.Bool.{and_from, and_parts, not_from_false}
use Rattle.mig_schema.specs.declared.tables.Table.{Table}
use Rattle.mig_schema.specs.declared.programs.Assign.{Assign}
use Rattle.mig_schema.specs.declared.programs.Param.{Param}
use Rattle.mig_schema.specs.declared.jobs.Job.{Job}
use Rattle.mig_tokens.specs.Bytes.{is_letter, is_name_byte, first_is}
use Rattle.mig_tokens.specs.Forms.{AllOfSome, Before, no_room, start, numbered, behind_comma, listed, sign, word}
use Rattle.mig_tokens.specs.Words.{is_reserved}
use Rattle.mig_grammar.specs.declared.tree.AssignTree.{AssignTree}
use Rattle.mig_grammar.specs.declared.tree.BodyTree.{BodyTree}
use Rattle.mig_grammar.specs.declared.tree.BodyTree.TheVariants as body_tree
use Rattle.mig_grammar.specs.declared.tree.FunctionTree.{FunctionTree}
use Rattle.mig_grammar.specs.declared.tree.JobTree.{JobTree}
use Rattle.mig_grammar.specs.declared.tree.RowsTree.{RowsTree}
use Rattle.mig_grammar.specs.declared.tree.StmtTree.{StmtTree}
use Rattle.mig_grammar.specs.declared.tree.StmtTree.TheVariants as stmt_tree
use Rattle.mig_grammar.specs.Shapes.{is_param_kind, IsParam, IsAssign, IsStmt, IsBody, IsFunction}
use Rattle.mig_grammar.specs.Spelling.{schema_tokens, col_tokens, scalar_marked, value_tokens, where_tokens, join_tokens, rows_tokens, param_tokens, assign_tokens, deleted_tokens, stmt_tokens, selected_tokens, body_tokens, function_tokens, job_tokens}
use Rattle.mig_syntax.specs.Naming.{scalar_of, assign_of, cond_of, stmt_of, query_of, body_of, function_of}
use Rattle.mig_syntax.specs.Job.{IsJobText}
use Rattle.mig_spelling.specs.Spellable.{has_items, is_name, scalar_spelled, cond_spelled, stmt_spelled, body_spelled, param_spelled, function_spelled}
use Rattle.mig_spelling.proofs.Tokens.{is_word, AreSound, all-sound, clean-sound, with-end, front, back, each-good, led-good}
use Rattle.mig_spelling.proofs.Scalars.{scalar-spelled, value-spelled, cond-spelled}

-- a list that is not empty, mapped
some-mapped : {A B : Type 0} (Fits : A → Type 0) (f : A → B) (xs : List A) → AllOfSome Fits xs → has_items (map f xs) ≡ true
some-mapped Fits f [] h = absurd h
some-mapped Fits f (x ∷ xs) h = refl

-- what holds of each item, as a test of what it becomes
all-mapped : {A B : Type 0} (Good : A → Type 0) (test : B → Bool) (f : A → B) → ((x : A) → Good x → test (f x) ≡ true) → (xs : List A) → AllByRecursion Good xs → list_all test (map f xs) ≡ true
all-mapped Good test f one [] h = refl
all-mapped Good test f one (x ∷ xs) h = and_from (test (f x)) (list_all test (map f xs)) (one x h.0) (all-mapped Good test f one xs h.1)

-- the same where something else holds of each too
both-mapped : {A B : Type 0} (Good Fits : A → Type 0) (test : B → Bool) (f : A → B) → ((x : A) → Good x → Fits x → test (f x) ≡ true) → (xs : List A) → AllByRecursion Good xs → AllByRecursion Fits xs → list_all test (map f xs) ≡ true
both-mapped Good Fits test f one [] h k = refl
both-mapped Good Fits test f one (x ∷ xs) h k = and_from (test (f x)) (list_all test (map f xs)) (one x h.0 k.0) (both-mapped Good Fits test f one xs h.1 k.1)

-- all of some are all
all-of-some : {A : Type 0} (Fits : A → Type 0) (xs : List A) → AllOfSome Fits xs → AllByRecursion Fits xs
all-of-some Fits [] h = absurd h
all-of-some Fits (x ∷ xs) h = h

-- ---- statements and queries

module _ (tables : List Table) (params : List Param) where
  rows-where : (r : RowsTree) → AreSound (rows_tokens r) → AreSound (where_tokens r.cases)
  rows-where r u = front (where_tokens r.cases) (sign (codes ";") ∷ []) (back (join_tokens r.join) (where_tokens r.cases ++ sign (codes ";") ∷ []) u)

  abbrev ValueSpelled : AssignTree → Type 0
  ValueSpelled a = scalar_spelled (assign_of tables params a).value ≡ true

  assign-spelled : (s : Before) (a : AssignTree) → AreSound (assign_tokens s a) → ValueSpelled a
  assign-spelled s a u = value-spelled params a.value (back (col_tokens a.column) (sign (codes "=") ∷ value_tokens a.value) u).1

  behind-spelled : (s : Before) (a : AssignTree) → AreSound (behind_comma assign_tokens s a) → ValueSpelled a
  behind-spelled s a u = assign-spelled s a u.1

  values-spelled : (values : List AssignTree) → AreSound (listed no_room assign_tokens start values) → list_all (λ (a : Assign). scalar_spelled a.value) (map (assign_of tables params) values) ≡ true
  values-spelled values u =
      all-mapped ValueSpelled (λ (a : Assign). scalar_spelled a.value) (assign_of tables params) (λ a h. h) values
      (led-good no_room assign_tokens (behind_comma assign_tokens) ValueSpelled assign-spelled behind-spelled start values u)

  -- a statement that fits is spelled
  abbrev StmtGood : StmtTree → Type 0
  StmtGood t = IsStmt t → stmt_spelled (stmt_of tables params t) ≡ true

  stmt-spelled : (s : Before) (t : StmtTree) → AreSound (stmt_tokens s t) → StmtGood t
  stmt-spelled s (stmt_tree.Insert join values) u f =
      let rest = sign (codes "{") ∷ (listed no_room assign_tokens start values ++ sign (codes "}") ∷ sign (codes ";") ∷ []) in
      let after = back (join_tokens join) rest u.1.1 in
      and_from (has_items (map (assign_of tables params) values)) (list_all (λ (a : Assign). scalar_spelled a.value) (map (assign_of tables params) values)) (some-mapped IsAssign (assign_of tables params) values f.1)
      (values-spelled values (front (listed no_room assign_tokens start values) (sign (codes "}") ∷ sign (codes ";") ∷ []) after.1))
  stmt-spelled s (stmt_tree.Delete names rows) u f =
      let v = (back (listed no_room deleted_tokens start names) (word (codes "from") ∷ rows_tokens rows) u.1).1 in
      and_from (has_items _) (cond_spelled (cond_of tables params rows.cases)) (some-mapped _ _ names f.0) (cond-spelled tables params rows.cases f.1.cases (rows-where rows v))
  stmt-spelled s (stmt_tree.Set column x rows) u f =
      let w = (back (col_tokens column) (sign (codes "=") ∷ (scalar_marked None x ++ word (codes "in") ∷ rows_tokens rows)) u.1).1 in
      let v = (back (scalar_marked None x) (word (codes "in") ∷ rows_tokens rows) w).1 in
      and_from (scalar_spelled (scalar_of params x)) (cond_spelled (cond_of tables params rows.cases)) (scalar-spelled params None x (front (scalar_marked None x) (word (codes "in") ∷ rows_tokens rows) w))
      (cond-spelled tables params rows.cases f.1.1.cases (rows-where rows v))

  body-spelled : (b : BodyTree) → IsBody b → AreSound (body_tokens b) → body_spelled (body_of tables params b) ≡ true
  body-spelled (body_tree.Update stmts) f u =
      and_from (has_items (map (stmt_of tables params) stmts)) (list_all stmt_spelled (map (stmt_of tables params) stmts)) (some-mapped IsStmt (stmt_of tables params) stmts f)
      (both-mapped StmtGood IsStmt stmt_spelled (stmt_of tables params) (λ t h k. h k) stmts (led-good no_room stmt_tokens stmt_tokens StmtGood stmt-spelled stmt-spelled start stmts u) (all-of-some IsStmt stmts f))
  body-spelled (body_tree.Query q) f u =
      let columns = listed no_room selected_tokens start q.columns in
      let v = (back columns (word (codes "from") ∷ rows_tokens q.rows) u.1).1 in
      and_from (has_items (query_of tables params q).columns) (cond_spelled (cond_of tables params q.rows.cases)) (some-mapped _ _ q.columns f.columns) (cond-spelled tables params q.rows.cases f.rows.cases (rows-where q.rows v))

-- ---- names

name-there : (w : List ℕ) → is_word w ≡ true → is_reserved w ≡ false → is_name w ≡ true
name-there w h n =
    let k = and_parts (first_is is_letter w) (list_all is_name_byte w) h in
    and_from (first_is is_letter w) _ k.0 (and_from (list_all is_name_byte w) _ k.1 (not_from_false (is_reserved w) n))

abbrev ParamGood : Param → Type 0
ParamGood p = IsParam p → param_spelled p ≡ true

param-good : (s : Before) (p : Param) → AreSound (param_tokens s p) → ParamGood p
param-good s p u f = and_from (is_name p.name) (is_param_kind p.kind) (name-there p.name u.0.0 f.name) f.kind

comma-good : (s : Before) (p : Param) → AreSound (behind_comma param_tokens s p) → ParamGood p
comma-good s p u f = param-good s p u.1 f

all-params : (ps : List Param) → AllByRecursion ParamGood ps → AllByRecursion IsParam ps → list_all param_spelled ps ≡ true
all-params [] h k = refl
all-params (p ∷ ps) h k = and_from (param_spelled p) (list_all param_spelled ps) (h.0 k.0) (all-params ps h.1 k.1)

-- ---- functions

abbrev FunctionGood : List Table → FunctionTree → Type 0
FunctionGood tables f = IsFunction f → function_spelled (function_of tables f) ≡ true

function-good : (tables : List Table) (s : Before) (f : FunctionTree) → AreSound (function_tokens s f) → FunctionGood tables f
function-good tables s f u k =
    let head = listed no_room param_tokens start f.params in
    let tail = sign (codes ")") ∷ sign (codes "{") ∷ (body_tokens f.body ++ sign (codes "}") ∷ []) in
    let v = front (body_tokens f.body) (sign (codes "}") ∷ []) (back head tail u.1.1.1).1.1 in
    let params = all-params f.params (led-good no_room param_tokens (behind_comma param_tokens) ParamGood param-good comma-good start f.params (front head tail u.1.1.1)) k.params in
    and_from (is_name f.name) (list_all param_spelled f.params && body_spelled (body_of tables f.params f.body)) (name-there f.name u.1.0.0 k.name)
    (and_from (list_all param_spelled f.params) (body_spelled (body_of tables f.params f.body)) params (body-spelled tables f.params f.body k.body v))

-- ---- whole texts

job-functions : (t : JobTree) → AreSound (job_tokens t) → AreSound (numbered no_room function_tokens start t.functions)
job-functions t u =
    let new = back (schema_tokens t.source) _ u.1 in
    let program = back (schema_tokens t.target) _ new.1 in
    front (numbered no_room function_tokens start t.functions) _ program.1

pub text-spelled : (bytes : List ℕ) (job : Job) → IsJobText bytes job → list_all function_spelled job.program.functions ≡ true
text-spelled bytes job t =
    let lexed = t.text.lexed in
    let ts = with-end lexed.body (all-sound bytes lexed.body lexed.lexes) in
    let ms = clean-sound t.text.tokens (subst (AllByRecursion _) (sym lexed.is) ts) in
    let functions = job-functions t.tree (subst AreSound (sym t.text.text.is) ms) in
    let tables = t.tree.source.tables in
    subst (λ (j : Job). list_all function_spelled j.program.functions ≡ true) t.named
    (both-mapped (FunctionGood tables) IsFunction function_spelled (function_of tables) (λ f h k. h k) t.tree.functions (each-good no_room function_tokens (FunctionGood tables) (function-good tables) start t.tree.functions functions) t.text.text.fits.functions)
