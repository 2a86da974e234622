-- Functions whose tokens pass no limit are within the limits.
use Rattle.std.proofs.Common.{◌≡◌, ◌+◌, ◌<◌, ◌≤◌, List, [], ◌∷◌, ◌++◌, map, length, None, ◌∙◌, arith, codes}
use Rattle.std.specs.List.{AllByRecursion, flat_map}
use Rattle.mig_schema.specs.declared.programs.Assign.{Assign}
use Rattle.mig_schema.specs.declared.programs.Cmp.{Cmp}
use Rattle.mig_schema.specs.declared.programs.Param.{Param}
use Rattle.mig_schema.specs.declared.programs.Stmt.{Stmt}
use Rattle.mig_schema.specs.declared.tables.Table.{Table}
use Rattle.mig_schema.specs.Typed.{all_cmps, item_scalars, pieces_of, piece_of, query_piece}
use Rattle.mig_schema.specs.declared.limits.Limit.TheVariants as limit
use Rattle.mig_tokens.specs.Forms.{Before, no_room, start, numbered, listed, behind_comma, sign, word}
use Rattle.mig_tokens.specs.Limits.{over, name_mark}
use Rattle.mig_grammar.specs.declared.tree.AssignTree.{AssignTree}
use Rattle.mig_grammar.specs.declared.tree.BodyTree.{BodyTree}
use Rattle.mig_grammar.specs.declared.tree.BodyTree.TheVariants as body_tree
use Rattle.mig_grammar.specs.declared.tree.ColName.{ColName}
use Rattle.mig_grammar.specs.declared.tree.FunctionTree.{FunctionTree}
use Rattle.mig_grammar.specs.declared.tree.RowsTree.{RowsTree}
use Rattle.mig_grammar.specs.declared.tree.SelectTree.{SelectTree}
use Rattle.mig_grammar.specs.declared.tree.StmtTree.{StmtTree}
use Rattle.mig_grammar.specs.declared.tree.StmtTree.TheVariants as stmt_tree
use Rattle.mig_grammar.specs.Spelling.{col_tokens, scalar_marked, value_tokens, where_tokens, join_tokens, rows_tokens, param_tokens, assign_tokens, deleted_tokens, stmt_tokens, selected_tokens, select_tokens, body_tokens, function_tokens}
use Rattle.mig_syntax.specs.Naming.{col_of, assign_of, cond_of, stmt_of, query_of, body_of, function_of, program_of}
use Rattle.mig_schema.specs.Within.{FitsScalar, IsPieceWithin, IsWithin, IsProgramWithin}
use Rattle.mig_syntax.proofs.Alls.{all_joined, all_mapped, all_flat, length_mapped}
use Rattle.mig_syntax.proofs.Unmarked.{AreUnmarked, front, back, is_below, first_none, each_good, count_below, led_good, led_below}
use Rattle.mig_syntax.proofs.WithinJoins.{join_within, scalar_within, value_within, SidesFit, cond_few, cond_within}

module _ (tables : List Table) (params : List Param) where
  -- the scalars of comparisons
  compared_fit : (cs : List Cmp) → AllByRecursion (SidesFit tables params) cs → AllByRecursion FitsScalar (flat_map (λ (c : Cmp). item_scalars c.left ++ item_scalars c.right) cs)
  compared_fit cs h = all_flat (SidesFit tables params) FitsScalar (λ (c : Cmp). item_scalars c.left ++ item_scalars c.right) (λ c k. k) cs h

  -- ---- the parts behind a join

  rows_join : (r : RowsTree) → AreUnmarked (rows_tokens r) → AreUnmarked (join_tokens r.join)
  rows_join r u = front (join_tokens r.join) (where_tokens r.cases ++ sign (codes ";") ∷ []) u

  rows_where : (r : RowsTree) → AreUnmarked (rows_tokens r) → AreUnmarked (where_tokens r.cases)
  rows_where r u = front (where_tokens r.cases) (sign (codes ";") ∷ []) (back (join_tokens r.join) (where_tokens r.cases ++ sign (codes ";") ∷ []) u)

  -- ---- statements

  AssignFits : AssignTree → Type 0
  AssignFits a = FitsScalar (assign_of tables params a).value

  assign_within : (s : Before) (a : AssignTree) → AreUnmarked (assign_tokens s a) → FitsScalar (assign_of tables params a).value
  assign_within s a u = value_within params a.value (back (col_tokens a.column) (sign (codes "=") ∷ value_tokens a.value) u).1

  behind_within : (s : Before) (a : AssignTree) → AreUnmarked (behind_comma assign_tokens s a) → FitsScalar (assign_of tables params a).value
  behind_within s a u = assign_within s a u.1

  values_within : (values : List AssignTree) → AreUnmarked (listed no_room assign_tokens start values) → AllByRecursion FitsScalar (map (λ (a : Assign). a.value) (map (assign_of tables params) values))
  values_within values u =
      all_mapped (λ (a : Assign). FitsScalar a.value) FitsScalar (λ (a : Assign). a.value) (λ a h. h) (map (assign_of tables params) values)
      (all_mapped (λ (a : AssignTree). FitsScalar (assign_of tables params a).value) (λ (a : Assign). FitsScalar a.value) (assign_of tables params) (λ a h. h) values
      (led_good no_room assign_tokens (behind_comma assign_tokens) (λ (a : AssignTree). FitsScalar (assign_of tables params a).value) assign_within behind_within start values u))

  pub stmt_within : (s : Before) (t : StmtTree) → AreUnmarked (stmt_tokens s t) → IsPieceWithin (piece_of (stmt_of tables params t))
  stmt_within s (stmt_tree.Insert join values) u =
      let rest = sign (codes "{") ∷ (listed no_room assign_tokens start values ++ sign (codes "}") ∷ sign (codes ";") ∷ []) in
      let after = back (join_tokens join) rest u.1.1 in
      record {
        joined = join_within tables join (front (join_tokens join) rest u.1.1);
        selected = omega arith;
        compared = omega arith;
        scalars = all_joined FitsScalar (map (λ (a : Assign). a.value) (map (assign_of tables params) values)) [] (values_within values (front (listed no_room assign_tokens start values) (sign (codes "}") ∷ sign (codes ";") ∷ []) after.1)) tt;
      }
  stmt_within s (stmt_tree.Delete names rows) u =
      let v = (back (listed no_room deleted_tokens start names) (word (codes "from") ∷ rows_tokens rows) u.1).1 in
      record {
        joined = join_within tables rows.join (rows_join rows v);
        selected = omega arith;
        compared = cond_few tables params rows.cases (rows_where rows v);
        scalars = compared_fit (all_cmps (cond_of tables params rows.cases)) (cond_within tables params rows.cases (rows_where rows v));
      }
  stmt_within s (stmt_tree.Set column x rows) u =
      let w = (back (col_tokens column) (sign (codes "=") ∷ (scalar_marked None x ++ word (codes "in") ∷ rows_tokens rows)) u.1).1 in
      let v = (back (scalar_marked None x) (word (codes "in") ∷ rows_tokens rows) w).1 in
      record {
        joined = join_within tables rows.join (rows_join rows v);
        selected = omega arith;
        compared = cond_few tables params rows.cases (rows_where rows v);
        scalars = (scalar_within params None x (front (scalar_marked None x) (word (codes "in") ∷ rows_tokens rows) w), compared_fit (all_cmps (cond_of tables params rows.cases)) (cond_within tables params rows.cases (rows_where rows v)));
      }

  -- ---- queries

  selected_below : (s : Before) (c : ColName) → AreUnmarked (behind_comma selected_tokens s c) → s.0 < 16
  selected_below s c u = is_below limit.Selected 16 s.0 (first_none (over limit.Selected 16 s.0) (name_mark c.table) u.1.0)

  pub query_within : (q : SelectTree) → AreUnmarked (select_tokens q) → IsPieceWithin (query_piece (query_of tables params q))
  query_within q u =
      let columns = listed no_room selected_tokens start q.columns in
      let v = (back columns (word (codes "from") ∷ rows_tokens q.rows) u.1).1 in
      let few_columns : length q.columns ≤ 16 = led_below no_room selected_tokens (behind_comma selected_tokens) 16 (omega arith) selected_below 0 q.columns (front columns (word (codes "from") ∷ rows_tokens q.rows) u.1) in
      record {
        joined = join_within tables q.rows.join (rows_join q.rows v);
        selected = omega (arith, length_mapped (col_of tables) q.columns);
        compared = cond_few tables params q.rows.cases (rows_where q.rows v);
        scalars = compared_fit (all_cmps (cond_of tables params q.rows.cases)) (cond_within tables params q.rows.cases (rows_where q.rows v));
      }

  -- ---- bodies

  stmt_below : (s : Before) (t : StmtTree) → AreUnmarked (stmt_tokens s t) → s.0 < 4
  stmt_below s (stmt_tree.Insert join values) u = is_below limit.Statements 4 s.0 u.0
  stmt_below s (stmt_tree.Delete names rows) u = is_below limit.Statements 4 s.0 u.0
  stmt_below s (stmt_tree.Set column x rows) u = is_below limit.Statements 4 s.0 u.0

  pub body_few : (b : BodyTree) → AreUnmarked (body_tokens b) → length (pieces_of (body_of tables params b)) ≤ 4
  body_few (body_tree.Update stmts) u =
      let few_stmts : length stmts ≤ 4 = led_below no_room stmt_tokens stmt_tokens 4 (omega arith) stmt_below 0 stmts u in
      let same : length (map piece_of (map (stmt_of tables params) stmts)) ≡ length stmts = length_mapped piece_of (map (stmt_of tables params) stmts) ∙ length_mapped (stmt_of tables params) stmts in
      omega arith
  body_few (body_tree.Query q) u = omega arith

  pub body_within : (b : BodyTree) → AreUnmarked (body_tokens b) → AllByRecursion IsPieceWithin (pieces_of (body_of tables params b))
  body_within (body_tree.Update stmts) u =
      all_mapped (λ (t : Stmt). IsPieceWithin (piece_of t)) IsPieceWithin piece_of (λ t h. h) (map (stmt_of tables params) stmts)
      (all_mapped (λ (t : StmtTree). IsPieceWithin (piece_of (stmt_of tables params t))) (λ (t : Stmt). IsPieceWithin (piece_of t)) (stmt_of tables params) (λ t h. h) stmts
      (led_good no_room stmt_tokens stmt_tokens (λ (t : StmtTree). IsPieceWithin (piece_of (stmt_of tables params t))) stmt_within stmt_within start stmts u))
  body_within (body_tree.Query q) u = (query_within q u, tt)

-- ---- functions

param_below : (s : Before) (p : Param) → AreUnmarked (behind_comma param_tokens s p) → s.0 < 8
param_below s p u = is_below limit.Parameters 8 s.0 (first_none (over limit.Parameters 8 s.0) (name_mark p.name) u.1.0)

function_within : (tables : List Table) (s : Before) (f : FunctionTree) → AreUnmarked (function_tokens s f) → IsWithin (function_of tables f)
function_within tables s f u =
    let head = listed no_room param_tokens start f.params in
    let tail = sign (codes ")") ∷ sign (codes "{") ∷ (body_tokens f.body ++ sign (codes "}") ∷ []) in
    let v = front (body_tokens f.body) (sign (codes "}") ∷ []) (back head tail u.1.1.1).1.1 in
    record {
      params = led_below no_room param_tokens (behind_comma param_tokens) 8 (omega arith) param_below 0 f.params (front head tail u.1.1.1);
      statements = body_few tables f.params f.body v;
      pieces = body_within tables f.params f.body v;
    }

function_below : (s : Before) (f : FunctionTree) → AreUnmarked (function_tokens s f) → s.0 < 32
function_below s f u = is_below limit.Functions 32 s.0 u.0

pub program_within : (tables : List Table) (fs : List FunctionTree) → AreUnmarked (numbered no_room function_tokens start fs) → IsProgramWithin (program_of tables fs)
program_within tables fs u =
    let few_functions : 0 + length fs ≤ 32 = count_below no_room function_tokens 32 function_below start fs (omega arith) u in
    record {
      functions = omega (arith, length_mapped (function_of tables) fs);
      each = all_mapped (λ (f : FunctionTree). IsWithin (function_of tables f)) IsWithin (function_of tables) (λ f h. h) fs (each_good no_room function_tokens (λ (f : FunctionTree). IsWithin (function_of tables f)) (function_within tables) start fs u);
    }
