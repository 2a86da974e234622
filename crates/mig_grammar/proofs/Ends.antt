-- The end stands last and once in the spelling of a job, and of a program.
use Rattle.std.proofs.Common.{◌≡◌, List, [], ◌∷◌, ◌++◌, length, Option, Some, None, codes, refl, sym, ap, ◌∙◌, append_assoc}
use Rattle.mig_schema.specs.declared.tables.Table.{Table}
use Rattle.mig_tokens.specs.declared.token.Token.{Token}
use Rattle.mig_tokens.specs.declared.token.Token.TheVariants.{End}
use Rattle.mig_schema.specs.declared.limits.Limit.{Limit}
use Rattle.mig_tokens.specs.Marked.{Marked, bare}
use Rattle.mig_tokens.specs.Forms.{Before, start, no_room, word, sign, numbered, listed}
use Rattle.mig_grammar.specs.declared.tree.SchemaTree.{SchemaTree}
use Rattle.mig_grammar.specs.declared.tree.ScalarTree.{ScalarTree}
use Rattle.mig_grammar.specs.declared.tree.ScalarTree.TheVariants as scalar
use Rattle.mig_grammar.specs.declared.tree.ValueTree.{ValueTree}
use Rattle.mig_grammar.specs.declared.tree.ValueTree.TheVariants as value
use Rattle.mig_grammar.specs.declared.tree.ItemTree.{ItemTree}
use Rattle.mig_grammar.specs.declared.tree.ItemTree.TheVariants as item
use Rattle.mig_grammar.specs.declared.tree.CmpTree.{CmpTree}
use Rattle.mig_grammar.specs.declared.tree.JoinTree.{JoinTree}
use Rattle.mig_grammar.specs.declared.tree.RowsTree.{RowsTree}
use Rattle.mig_grammar.specs.declared.tree.AssignTree.{AssignTree}
use Rattle.mig_grammar.specs.declared.tree.StmtTree.{StmtTree}
use Rattle.mig_grammar.specs.declared.tree.StmtTree.TheVariants as stmt
use Rattle.mig_grammar.specs.declared.tree.SelectTree.{SelectTree}
use Rattle.mig_grammar.specs.declared.tree.BodyTree.{BodyTree}
use Rattle.mig_grammar.specs.declared.tree.BodyTree.TheVariants as body
use Rattle.mig_grammar.specs.declared.tree.FunctionTree.{FunctionTree}
use Rattle.mig_grammar.specs.declared.tree.HintTree.{HintTree}
use Rattle.mig_grammar.specs.declared.tree.JobTree.{JobTree}
use Rattle.mig_grammar.specs.Spelling.{key_of, keys_of, one_each, column_tokens, table_tokens, link_tokens, schema_tokens, scalar_marked, value_tokens, item_marked, op_sign, cmp_tokens, and_tokens, case_tokens, or_tokens, where_tokens, joined_tokens, join_tokens, rows_tokens, assign_tokens, deleted_tokens, stmt_tokens, selected_tokens, select_tokens, body_tokens, param_tokens, function_tokens, hint_tokens, hints_tokens, job_tokens, program_tokens}
use Rattle.mig_tokens.proofs.Laws.{bare-append}
use Rattle.mig_tokens.proofs.Closed.{Inner, last_end, both, plain_numbered, plain_led, plain_listed}

plain_table : (s : Before) (t : Table) → Inner (table_tokens s t)
plain_table s t = (refl, (refl, (refl, both (listed key_of column_tokens (0, s.1) t.columns) (sign (codes "}") ∷ []) (plain_listed key_of column_tokens (λ k c. (refl, (refl, (refl, tt)))) (0, s.1) t.columns) (refl, tt))))

plain_schema : (s : SchemaTree) → Inner (schema_tokens s)
plain_schema s = both (numbered keys_of table_tokens (0, 24) s.tables) (numbered no_room link_tokens start s.links) (plain_numbered keys_of table_tokens plain_table (0, 24) s.tables)
    (plain_numbered no_room link_tokens (λ k l. (refl, (refl, (refl, (refl, (refl, (refl, (refl, (refl, (refl, tt)))))))))) start s.links)

plain_scalar : (mark : Option Limit) (x : ScalarTree) → Inner (scalar_marked mark x)
plain_scalar mark (scalar.Name v) = (refl, tt)
plain_scalar mark (scalar.Int v) = (refl, tt)
plain_scalar mark (scalar.Text v) = (refl, tt)

plain_value : (y : ValueTree) → Inner (value_tokens y)
plain_value (value.Scalar x) = plain_scalar None x
plain_value (value.Fresh v) = (refl, (refl, tt))

plain_item : (mark : Option Limit) (y : ItemTree) → Inner (item_marked mark y)
plain_item mark (item.Col c) = (refl, (refl, (refl, tt)))
plain_item mark (item.Scalar x) = plain_scalar mark x

plain_cmp : (s : Before) (c : CmpTree) → Inner (cmp_tokens s c)
plain_cmp s c = both (item_marked _ c.left) (sign (op_sign c.op) ∷ item_marked None c.right) (plain_item _ c.left) (refl, plain_item None c.right)

plain_case : (s : Before) (cs : List CmpTree) → Inner (case_tokens s cs)
plain_case s cs = plain_led one_each cmp_tokens and_tokens plain_cmp (λ k c. (refl, plain_cmp k c)) (0, s.1) cs

plain_where : (cs : List (List CmpTree)) → Inner (where_tokens cs)
plain_where [] = tt
plain_where (c ∷ cs) = (refl, plain_led length case_tokens or_tokens plain_case (λ k x. (refl, plain_case k x)) (0, 16) (c ∷ cs))

plain_join : (j : JoinTree) → Inner (join_tokens j)
plain_join j = (refl, plain_numbered no_room joined_tokens (λ k y. (refl, (refl, (refl, (refl, (refl, (refl, (refl, (refl, (refl, (refl, tt))))))))))) (1, 0) j.more)

plain_rows : (r : RowsTree) → Inner (rows_tokens r)
plain_rows r = both (join_tokens r.join) (where_tokens r.cases ++ sign (codes ";") ∷ []) (plain_join r.join) (both (where_tokens r.cases) (sign (codes ";") ∷ []) (plain_where r.cases) (refl, tt))

plain_assign : (s : Before) (a : AssignTree) → Inner (assign_tokens s a)
plain_assign s a = (refl, (refl, (refl, (refl, plain_value a.value))))

plain_stmt : (s : Before) (y : StmtTree) → Inner (stmt_tokens s y)
plain_stmt s (stmt.Insert join values) = (
  refl,
  (
    refl,
    both (join_tokens join) (sign (codes "{") ∷ (listed no_room assign_tokens start values ++ sign (codes "}") ∷ sign (codes ";") ∷ [])) (plain_join join)
        (refl, both (listed no_room assign_tokens start values) (sign (codes "}") ∷ sign (codes ";") ∷ []) (plain_listed no_room assign_tokens plain_assign start values) (refl, (refl, tt))),
  ),
)
plain_stmt s (stmt.Delete tables rows) = (refl, both (listed no_room deleted_tokens start tables) (word (codes "from") ∷ rows_tokens rows) (plain_listed no_room deleted_tokens (λ k n. (refl, tt)) start tables) (refl, plain_rows rows))
plain_stmt s (stmt.Set column x rows) = (refl, (refl, (refl, (refl, (refl, both (scalar_marked None x) (word (codes "in") ∷ rows_tokens rows) (plain_scalar None x) (refl, plain_rows rows))))))

plain_select : (q : SelectTree) → Inner (select_tokens q)
plain_select q = (refl, both (listed no_room selected_tokens start q.columns) (word (codes "from") ∷ rows_tokens q.rows) (plain_listed no_room selected_tokens (λ k c. (refl, (refl, (refl, tt)))) start q.columns) (refl, plain_rows q.rows))

plain_of_body : (y : BodyTree) → Inner (body_tokens y)
plain_of_body (body.Update stmts) = plain_led no_room stmt_tokens stmt_tokens plain_stmt plain_stmt start stmts
plain_of_body (body.Query select) = plain_select select

plain_function : (s : Before) (f : FunctionTree) → Inner (function_tokens s f)
plain_function s f = (
  refl,
  (
    refl,
    (
      refl,
      both (listed no_room param_tokens start f.params) (sign (codes ")") ∷ sign (codes "{") ∷ (body_tokens f.body ++ sign (codes "}") ∷ []))
          (plain_listed no_room param_tokens (λ k p. (refl, (refl, (refl, tt)))) start f.params)
          (refl, (refl, both (body_tokens f.body) (sign (codes "}") ∷ []) (plain_of_body f.body) (refl, tt))),
    ),
  ),
)

abbrev pub functions_tokens : List FunctionTree → List Marked
functions_tokens = numbered no_room function_tokens start

plain_functions : (fs : List FunctionTree) → Inner (functions_tokens fs)
plain_functions = plain_numbered no_room function_tokens plain_function start

plain_hints : (y : Option (List HintTree)) → Inner (hints_tokens y)
plain_hints None = tt
plain_hints (Some hs) = (refl, plain_numbered no_room hint_tokens (λ k h. (refl, (refl, (refl, (refl, (refl, (refl, (refl, (refl, (refl, (refl, tt))))))))))) start hs)

-- ---- jobs and programs

-- a job without its end
abbrev pub job_body : JobTree → List Marked
job_body j = word (codes "old") ∷ (schema_tokens j.source ++ word (codes "new") ∷ (schema_tokens j.target ++ word (codes "program") ∷ (functions_tokens j.functions ++ hints_tokens j.hints)))

pub job_last : (j : JobTree) → job_tokens j ≡ job_body j ++ (End, None) ∷ []
job_last j = regroup (schema_tokens j.source) (schema_tokens j.target) (functions_tokens j.functions) (hints_tokens j.hints)
  where
    regroup : (a b c d : List Marked) → word (codes "old") ∷ (a ++ word (codes "new") ∷ (b ++ word (codes "program") ∷ (c ++ (d ++ (End, None) ∷ []))))
        ≡ (word (codes "old") ∷ (a ++ word (codes "new") ∷ (b ++ word (codes "program") ∷ (c ++ d)))) ++ (End, None) ∷ []
    regroup a b c d = simp append_assoc

plain_job : (j : JobTree) → Inner (job_body j)
plain_job j = (
  refl,
  both (schema_tokens j.source) from_new (plain_schema j.source) (
    refl,
    both (schema_tokens j.target) from_program (plain_schema j.target)
        (refl, both (functions_tokens j.functions) (hints_tokens j.hints) (plain_functions j.functions) (plain_hints j.hints)),
  ),
)
  where
    from_program : List Marked
    from_program = word (codes "program") ∷ (functions_tokens j.functions ++ hints_tokens j.hints)

    from_new : List Marked
    from_new = word (codes "new") ∷ (schema_tokens j.target ++ from_program)

pub job_once : (j : JobTree) (a b : List Token) → bare (job_tokens j) ≡ a ++ End ∷ b → b ≡ []
job_once j a b e = last_end (bare (job_body j)) a b (plain_job j) (sym (ap bare (job_last j) ∙ bare-append (job_body j) ((End, None) ∷ [])) ∙ e)

pub program_once : (fs : List FunctionTree) (a b : List Token) → bare (program_tokens fs) ≡ a ++ End ∷ b → b ≡ []
program_once fs a b e = last_end (bare (functions_tokens fs)) a b (plain_functions fs) (sym (bare-append (functions_tokens fs) ((End, None) ∷ [])) ∙ e)
