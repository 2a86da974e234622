-- The tokens of printed columns, conditions and joins.
use Rattle.std.proofs.Common.{ℕ, Bool, true, false, if◌then◌else◌, List, [], ◌∷◌, ◌++◌, map, length, Option, None, inl, inr, refl, codes, decimal}
use Rattle.std.specs.Fmt.{signed_decimal}
use Rattle.std.specs.List.{AllByRecursion, flat_map, join_by}
use Rattle.mig_schema.specs.Columns.{column_at}
use Rattle.mig_schema.specs.declared.tables.ColId.{ColId}
use Rattle.mig_schema.specs.declared.tables.Schema.{Schema}
use Rattle.mig_schema.specs.declared.programs.Cmp.{Cmp}
use Rattle.mig_schema.specs.declared.programs.Cond.{Cond}
use Rattle.mig_schema.specs.declared.programs.Item.{Item}
use Rattle.mig_schema.specs.declared.programs.Item.TheVariants as item
use Rattle.mig_schema.specs.declared.programs.Join.{Join}
use Rattle.mig_schema.specs.declared.programs.Joined.{Joined}
use Rattle.mig_schema.specs.declared.programs.Op.{Op}
use Rattle.mig_schema.specs.declared.programs.Op.TheVariants.{Eq, Ne, Lt, Le, Gt, Ge}
use Rattle.mig_schema.specs.declared.programs.Param.{Param}
use Rattle.mig_schema.specs.declared.programs.Scalar.{Scalar}
use Rattle.mig_schema.specs.declared.programs.Scalar.TheVariants as scalar
use Rattle.mig_tokens.specs.declared.token.Token.TheVariants.{Word, Int, Text}
use Rattle.mig_schema.specs.declared.limits.Limit.{Limit}
use Rattle.mig_schema.specs.declared.limits.Limit.TheVariants as limit
use Rattle.mig_tokens.specs.Forms.{Before, no_room, numbered, led, word, sign, name, AllOfSome}
use Rattle.mig_tokens.specs.Limits.{over, full, first_of, name_mark, int_mark, text_mark}
use Rattle.mig_tokens.specs.Marked.{Marked, bare}
use Rattle.mig_grammar.specs.declared.tree.CmpTree.{CmpTree}
use Rattle.mig_grammar.specs.Spelling.{op_sign, label_mark, col_marked, col_tokens, scalar_marked, value_tokens, item_marked, cmp_tokens, and_tokens, one_each, case_tokens, or_tokens, where_tokens, joined_tokens, join_tokens}
use Rattle.mig_printing.specs.Printing.{table_text, col_text, param_name, scalar_text, item_text, op_text, cmp_text, case_text, is_always, where_text, joined_text, join_text, quoted}
use Rattle.mig_syntax.proofs.Lexing.{Breaks, Starts, Cuts, Ends, Prints, as_prints, ends_prints, prints_prints, starts_flat, prints_flat, prints_joined}
use Rattle.mig_syntax.proofs.LexingBytes.{space, prints_name, prints_int, prints_label, ends_text}
use Rattle.mig_syntax.proofs.Nice.{NiceCol, NiceJoined, NiceJoin, NiceScalar, NiceValue, NiceItem, NiceCmp, NiceCase, NiceCases}
use Rattle.mig_syntax.proofs.Trees.{col_tree, joined_tree, join_tree, scalar_tree_of, value_tree_of, item_tree_of, cmp_tree, cases_tree}

-- ---- words and signs that always stand between spaces

dot : Ends (codes ".") (sign (codes ".") ∷ [])
dot rest more h = (46, rest, refl, refl, h)

pub equal : Ends (codes " = ") (sign (codes "=") ∷ [])
equal rest more h = (61, codes " " ++ rest, refl, refl, space rest more h)

fresh_word : Ends (codes "fresh ") (word (codes "fresh") ∷ [])
fresh_word rest more h = (102, codes "resh " ++ rest, refl, refl, space rest more h)

join_word : (m : Option Limit) → Ends (codes " join ") ((Word (codes "join"), m) ∷ [])
join_word m rest more h = (106, codes "oin " ++ rest, refl, refl, space rest more h)

on_word : Ends (codes " on ") (word (codes "on") ∷ [])
on_word rest more h = (111, codes "n " ++ rest, refl, refl, space rest more h)

where_word : Ends (codes " where ") (word (codes "where") ∷ [])
where_word rest more h = (119, codes "here " ++ rest, refl, refl, space rest more h)

and_word : Ends (codes " and ") (word (codes "and") ∷ [])
and_word rest more h = (97, codes "nd " ++ rest, refl, refl, space rest more h)

or_word : (m : Option Limit) → Ends (codes " or ") ((Word (codes "or"), m) ∷ [])
or_word m rest more h = (111, codes "r " ++ rest, refl, refl, space rest more h)

-- an operator and what stands behind it
operator : (o : Op) (right : List ℕ) (ms : List Marked) → Prints right ms → Prints (codes " " ++ (op_text o ++ (codes " " ++ right))) (sign (op_sign o) ∷ ms)
operator Eq right ms f rest more br h = (61, codes " " ++ (right ++ rest), refl, refl, space (right ++ rest) (bare ms ++ more) (f rest more br h))
operator Ne right ms f rest more br h = (60, codes "> " ++ (right ++ rest), refl, refl, space (right ++ rest) (bare ms ++ more) (f rest more br h))
operator Lt right ms f rest more br h = (60, codes " " ++ (right ++ rest), refl, refl, space (right ++ rest) (bare ms ++ more) (f rest more br h))
operator Le right ms f rest more br h = (60, codes "= " ++ (right ++ rest), refl, refl, space (right ++ rest) (bare ms ++ more) (f rest more br h))
operator Gt right ms f rest more br h = (62, codes " " ++ (right ++ rest), refl, refl, space (right ++ rest) (bare ms ++ more) (f rest more br h))
operator Ge right ms f rest more br h = (62, codes "= " ++ (right ++ rest), refl, refl, space (right ++ rest) (bare ms ++ more) (f rest more br h))

module _ (s : Schema) where
  pub prints_col : (m : Option Limit) (c : ColId) → NiceCol s c → Prints (col_text s c) (col_marked m (col_tree s c))
  prints_col m c n =
      prints_prints (table_text s c.table) (codes "." ++ (column_at s c).name) ((Word (table_text s c.table), first_of m (name_mark (table_text s c.table))) ∷ []) (sign (codes ".") ∷ name (column_at s c).name ∷ [])
      (prints_name (table_text s c.table) (first_of m (name_mark (table_text s c.table))) n.0)
      (λ rest br. refl)
      (ends_prints (codes ".") (column_at s c).name (sign (codes ".") ∷ []) (name (column_at s c).name ∷ []) dot (prints_name (column_at s c).name (name_mark (column_at s c).name) n.1))

  -- ---- joins

  pub prints_joined_table : (st : Before) (j : Joined) → NiceJoined s j → Prints (joined_text s j) (joined_tokens st (joined_tree s j))
  prints_joined_table st j n =
      let table = table_text s j.table in
      let right = codes " = " ++ col_text s j.right in
      let columns = codes " on " ++ (col_text s j.left ++ right) in
      let right_tokens = sign (codes "=") ∷ col_tokens (col_tree s j.right) in
      let column_tokens = word (codes "on") ∷ (col_tokens (col_tree s j.left) ++ right_tokens) in
      ends_prints (codes " join ") (table ++ columns) ((Word (codes "join"), over limit.Joined 4 st.0) ∷ []) (name table ∷ column_tokens) (join_word (over limit.Joined 4 st.0))
      (prints_prints table columns (name table ∷ []) column_tokens (prints_name table (name_mark table) n.table.0) (λ rest br. refl)
      (ends_prints (codes " on ") (col_text s j.left ++ right) (word (codes "on") ∷ []) (col_tokens (col_tree s j.left) ++ right_tokens) on_word
      (prints_prints (col_text s j.left) right (col_tokens (col_tree s j.left)) right_tokens (prints_col None j.left n.left) (λ rest br. refl)
      (ends_prints (codes " = ") (col_text s j.right) (sign (codes "=") ∷ []) (col_tokens (col_tree s j.right)) equal (prints_col None j.right n.right)))))

  joined_cuts : (j : Joined) → Cuts (joined_text s j)
  joined_cuts j rest = refl

  pub prints_join : (j : Join) → NiceJoin s j → Prints (join_text s j) (join_tokens (join_tree s j))
  prints_join j n =
      let table = table_text s j.first in
      prints_prints table (flat_map (joined_text s) j.more) (name table ∷ []) (numbered no_room joined_tokens (1, 0) (map (joined_tree s) j.more)) (prints_name table (name_mark table) n.first.0) (starts_flat (joined_text s) joined_cuts j.more)
      (prints_flat (NiceJoined s) (joined_tree s) no_room (joined_text s) joined_tokens joined_cuts prints_joined_table (1, 0) j.more n.more)

  -- ---- scalars and comparisons

  module _ (ps : List Param) where
    pub prints_scalar : (m : Option Limit) (x : Scalar) → NiceScalar s ps x → Prints (scalar_text ps x) (scalar_marked m (scalar_tree_of s ps x))
    prints_scalar m (scalar.Param p) n = prints_name (param_name ps p) (first_of m (name_mark (param_name ps p))) n.0
    prints_scalar m (scalar.Int i) n = prints_int i (first_of m (int_mark (signed_decimal i))) n
    prints_scalar m (scalar.Text t) n = as_prints (quoted t) ((Text t, first_of m (text_mark t)) ∷ []) (ends_text t (first_of m (text_mark t)) n.0)
    prints_scalar m (scalar.Fresh k) n = absurd n

    pub prints_value : (x : Scalar) → NiceValue s ps x → Prints (scalar_text ps x) (value_tokens (value_tree_of s ps x))
    prints_value (scalar.Param p) n = prints_scalar None (scalar.Param p) n
    prints_value (scalar.Int i) n = prints_scalar None (scalar.Int i) n
    prints_value (scalar.Text t) n = prints_scalar None (scalar.Text t) n
    prints_value (scalar.Fresh k) n = ends_prints (codes "fresh ") (decimal k) (word (codes "fresh") ∷ []) ((Int (decimal k), label_mark (decimal k)) ∷ []) fresh_word (prints_label k (label_mark (decimal k)) n)

    prints_item : (m : Option Limit) (x : Item) → NiceItem s ps x → Prints (item_text s ps x) (item_marked m (item_tree_of s ps x))
    prints_item m (item.Col c) n = prints_col m c n
    prints_item m (item.Scalar x) n = prints_scalar m x n

    prints_cmp : (st : Before) (c : Cmp) → NiceCmp s ps c → Prints (cmp_text s ps c) (cmp_tokens st (cmp_tree s ps c))
    prints_cmp st c n =
        let right = item_text s ps c.right in
        let right_tokens = item_marked None (item_tree_of s ps c.right) in
        prints_prints (item_text s ps c.left) (codes " " ++ (op_text c.op ++ (codes " " ++ right))) (item_marked (full limit.Comparisons st.1) (item_tree_of s ps c.left)) (sign (op_sign c.op) ∷ right_tokens)
        (prints_item (full limit.Comparisons st.1) c.left n.0) (λ rest br. refl) (operator c.op right right_tokens (prints_item None c.right n.1))

    prints_and : (st : Before) (c : Cmp) → NiceCmp s ps c → Prints (codes " and " ++ cmp_text s ps c) (and_tokens st (cmp_tree s ps c))
    prints_and st c n = ends_prints (codes " and ") (cmp_text s ps c) (word (codes "and") ∷ []) (cmp_tokens st (cmp_tree s ps c)) and_word (prints_cmp st c n)

    -- ---- cases and conditions

    some_all : {A : Type 0} (P : A → Type 0) (xs : List A) → AllOfSome P xs → AllByRecursion P xs
    some_all P [] h = absurd h
    some_all P (x ∷ xs) h = h

    prints_case : (st : Before) (cs : List Cmp) → NiceCase s ps cs → Prints (case_text s ps cs) (case_tokens st (map (cmp_tree s ps) cs))
    prints_case st cs n =
        prints_joined (NiceCmp s ps) (cmp_tree s ps) one_each (cmp_text s ps) (codes " and ") cmp_tokens and_tokens (λ c rest. refl) prints_cmp prints_and (0, st.1) cs (some_all (NiceCmp s ps) cs n)

    prints_or : (st : Before) (cs : List Cmp) → NiceCase s ps cs → Prints (codes " or " ++ case_text s ps cs) (or_tokens st (map (cmp_tree s ps) cs))
    prints_or st cs n =
        ends_prints (codes " or ") (case_text s ps cs) ((Word (codes "or"), over limit.Cases 16 st.0) ∷ []) (case_tokens st (map (cmp_tree s ps) cs)) (or_word (over limit.Cases 16 st.0)) (prints_case st cs n)

    -- a case with a comparison, and other cases
    prints_cases : (c : Cmp) (cs : List Cmp) (more : List (List Cmp)) → AllOfSome (NiceCase s ps) ((c ∷ cs) ∷ more)
        → Prints (codes " where " ++ join_by (case_text s ps) (codes " or ") ((c ∷ cs) ∷ more)) (where_tokens (map (λ (d : List Cmp). map (cmp_tree s ps) d) ((c ∷ cs) ∷ more)))
    prints_cases c cs more n =
        ends_prints (codes " where ") (join_by (case_text s ps) (codes " or ") ((c ∷ cs) ∷ more)) (word (codes "where") ∷ [])
        (led (λ (d : List CmpTree). length d) case_tokens or_tokens (0, 16) (map (λ (d : List Cmp). map (cmp_tree s ps) d) ((c ∷ cs) ∷ more))) where_word
        (prints_joined (NiceCase s ps) (λ (d : List Cmp). map (cmp_tree s ps) d) (λ (d : List CmpTree). length d) (case_text s ps) (codes " or ") case_tokens or_tokens (λ d rest. refl) prints_case prints_or (0, 16) ((c ∷ cs) ∷ more) n)

    pub prints_where : (cond : Cond) → NiceCases s ps cond.cases → Prints (where_text s ps cond) (where_tokens (cases_tree s ps cond.cases))
    prints_where cond n = by cond.cases n
      where
        by : (cases : List (List Cmp)) → NiceCases s ps cases → Prints (if is_always cases then [] else codes " where " ++ join_by (case_text s ps) (codes " or ") cases) (where_tokens (cases_tree s ps cases))
        by [] n = elim n [ inl e ↦ absurd cc | inr h ↦ absurd h.0 ]
        by ([] ∷ []) n = λ rest more br h. h
        by ([] ∷ (d ∷ ds)) n = elim n [ inl e ↦ absurd cc | inr h ↦ absurd h.0.0 ]
        by ((c ∷ cs) ∷ ds) n = elim n [ inl e ↦ absurd cc | inr h ↦ prints_cases c cs ds h.0 ]

    pub where_starts : (cond : Cond) → Starts (where_text s ps cond)
    where_starts cond rest br = by (is_always cond.cases) (join_by (case_text s ps) (codes " or ") cond.cases)
      where
        by : (b : Bool) (xs : List ℕ) → Breaks ((if b then [] else codes " where " ++ xs) ++ rest)
        by true xs = br
        by false xs = refl
