-- The bags of a view's and a query's expressions are the outputs and the answer that they speak of.
use Rattle.std.proofs.Common.{◌≡◌, ℕ, ◌+◌, Bool, true, false, cond, not, ◌&&◌, ◌||◌, List, [], ◌∷◌, ◌++◌, map, refl, sym, ap, ap₂, ◌∙◌, append-nil, arith}
use Rattle.std.specs.Prelude.{filter}
use Rattle.mig_schema.specs.declared.values.Value.{Value}
use Rattle.mig_schema.specs.declared.tables.ColId.{ColId}
use Rattle.mig_schema.specs.declared.faults.Side.{Side}
use Rattle.mig_schema.specs.declared.programs.Joined.{Joined}
use Rattle.mig_schema.specs.declared.programs.Scalar.TheVariants as scalar
use Rattle.mig_schema.specs.declared.programs.Item.{Item}
use Rattle.mig_schema.specs.declared.programs.Item.TheVariants as item
use Rattle.mig_schema.specs.declared.programs.Op.TheVariants.{Eq}
use Rattle.mig_schema.specs.declared.programs.Cmp.{Cmp}
use Rattle.mig_schema.specs.declared.programs.Query.{Query}
use Rattle.mig_schema.specs.Joins.{tables_of}
use Rattle.mig_meaning.specs.declared.relating.View.{View}
use Rattle.mig_meaning.specs.declared.states.State.{State}
use Rattle.mig_meaning.specs.Lists.{total, bit, product}
use Rattle.mig_meaning.specs.Values.{compares}
use Rattle.mig_meaning.specs.Rows.{rows_of, column_in, meets, join_rows}
use Rattle.mig_meaning.specs.Conditions.{Given, item_value, case_true, cases_true}
use Rattle.mig_meaning.specs.Effect.{answer}
use Rattle.mig_meaning.specs.Bags.{row_eq, SameBag}
use Rattle.mig_meaning.specs.Holds.{outputs}
use Rattle.mig_meaning.proofs.Maps.{map-same, map-split}
use Rattle.mig_meaning.proofs.Bags.{total-append, total-map}
use Rattle.mig_algebra.specs.declared.terms.Term.{Term}
use Rattle.mig_algebra.specs.Meaning.{Setting, Env, value_of, choices, lit_true, lits_true, head_of, term_bag, terms_bag}
use Rattle.mig_algebra.specs.Obligations.{var_of, col_atom, item_atom, join_lits, case_lits, not_case, view_term, answer_from, answer_terms}
use Rattle.mig_algebra.specs.Shown.{Shows}
use Rattle.mig_algebra.proofs.Sums.{when, when_and, total-same, total-zero, total-add, total-filter}
use Rattle.mig_algebra.proofs.Truth.{oriented_true, lits-append}
use Rattle.mig_algebra.proofs.Bodies.{any_true}
use Rattle.mig_algebra.proofs.Weights.{total-term_bag}

-- a filter by an equal test
pub filter-same : {X : Type 0} (p q : X → Bool) → ((x : X) → p x ≡ q x) → (xs : List X) → filter p xs ≡ filter q xs
filter-same p q h [] = refl
filter-same p q h (x ∷ xs) = ap₂ (λ b ys. cond b (x ∷ ys) ys) (h x) (filter-same p q h xs)

-- ---- joins

-- the choices for a join's variables are the choices of rows of its tables
pub join_choices : (s : Setting) (side : Side) (n : ℕ) (st : State) → Shows s side n st → (ts : List ℕ) → choices s (map (var_of side n) ts) ≡ product (map (rows_of st) ts)
join_choices s side n st sh ts = ap product (sym (map-split (rows_of st) s.rows (var_of side n) (λ t. sym (sh.by t)) ts))

-- the equalities of a join are true where a join row meets them
pub join_lits_true : (s : Setting) (ts : List ℕ) (ms : List Joined) (e : Env) → lits_true s e (join_lits ts ms) ≡ meets ts ms e
join_lits_true s ts [] e = refl
join_lits_true s ts (m ∷ ms) e = ap₂ (λ a b. a && b) (oriented_true s e Eq (col_atom ts m.left) (col_atom ts m.right)) (join_lits_true s ts ms e)

head_is : (s : Setting) (ts : List ℕ) (cs : List ColId) (e : Env) → head_of s (map (col_atom ts) cs) e ≡ map (column_in ts e) cs
head_is s ts cs e = sym (map-split (column_in ts e) (value_of s e) (col_atom ts) (λ c. refl) cs)

-- a view's term has as its bag the outputs of the view's join rows, in their order
pub view_bag : (s : Setting) (side : Side) (n : ℕ) (st : State) → Shows s side n st → (v : View) → terms_bag s (view_term side n v ∷ []) ≡ outputs v st
view_bag s side n st sh v =
    append-nil (term_bag s (view_term side n v))
    ∙ map-same _ (λ e. map (column_in (tables_of v.join) e) v.outs) (head_is s (tables_of v.join) v.outs) _
    ∙ ap (map (λ e. map (column_in (tables_of v.join) e) v.outs))
    (filter-same _ (meets (tables_of v.join) v.join.more) (join_lits_true s (tables_of v.join) v.join.more) _
    ∙ ap (filter (meets (tables_of v.join) v.join.more)) (join_choices s side n st sh (tables_of v.join)))

-- ---- conditions

item_value_is : (s : Setting) (ts : List ℕ) (e : Env) (x : Item) → value_of s e (item_atom ts x) ≡ item_value s.given ts e x
item_value_is s ts e (item.Col c) = refl
item_value_is s ts e (item.Scalar (scalar.Param p)) = refl
item_value_is s ts e (item.Scalar (scalar.Int i)) = refl
item_value_is s ts e (item.Scalar (scalar.Text t)) = refl
item_value_is s ts e (item.Scalar (scalar.Fresh n)) = refl

-- a case's literals are true where the case is
pub case_lits_true : (s : Setting) (ts : List ℕ) (cs : List Cmp) (e : Env) → lits_true s e (case_lits ts cs) ≡ case_true s.given ts e cs
case_lits_true s ts [] e = refl
case_lits_true s ts (c ∷ cs) e =
    ap₂ (λ a b. a && b) (oriented_true s e c.op (item_atom ts c.left) (item_atom ts c.right) ∙ ap₂ (compares c.op) (item_value_is s ts e c.left) (item_value_is s ts e c.right)) (case_lits_true s ts cs e)

or_false : (a : Bool) → (a || false) ≡ a
or_false true = refl
or_false false = refl

not_case_true : (s : Setting) (ts : List ℕ) (cs : List Cmp) (e : Env) → lit_true s e (not_case ts cs) ≡ not (case_true s.given ts e cs)
not_case_true s ts cs e =
    any_true s e false [] (case_lits ts cs) ∙ ap not (or_false (lits_true s (e ++ []) (case_lits ts cs)) ∙ ap (λ l. lits_true s l (case_lits ts cs)) (append-nil e) ∙ case_lits_true s ts cs e)

not_cases_true : (s : Setting) (ts : List ℕ) (before : List (List Cmp)) (e : Env) → lits_true s e (map (not_case ts) before) ≡ not (cases_true s.given ts e before)
not_cases_true s ts [] e = refl
not_cases_true s ts (c ∷ cs) e = ap₂ (λ a b. a && b) (not_case_true s ts c e) (not_cases_true s ts cs e) ∙ go (case_true s.given ts e c) (cases_true s.given ts e cs)
  where
    go : (a b : Bool) → (not a && not b) ≡ not (a || b)
    go true b = refl
    go false b = refl

cases_append : (g : Given) (ts : List ℕ) (e : Env) (xs : List (List Cmp)) (c : List Cmp) → cases_true g ts e (xs ++ (c ∷ [])) ≡ (cases_true g ts e xs || case_true g ts e c)
cases_append g ts e [] c = or_false (case_true g ts e c)
cases_append g ts e (x ∷ xs) c = ap (λ b. case_true g ts e x || b) (cases_append g ts e xs c) ∙ go (case_true g ts e x) (cases_true g ts e xs) (case_true g ts e c)
  where
    go : (a b c : Bool) → (a || (b || c)) ≡ ((a || b) || c)
    go true b c = refl
    go false b c = refl

-- ---- answers

module _ (s : Setting) (side : Side) (st : State) (sh : Shows s side 0 st) (q : Query) (w : List Value → ℕ) where
  -- all choices of rows of the joined tables
  abbrev rows : List Env
  rows = product (map (rows_of st) (tables_of q.join))

  -- what the query selects of a choice
  abbrev selected : Env → List Value
  selected e = map (column_in (tables_of q.join) e) q.columns

  abbrev joined : Env → Bool
  joined e = meets (tables_of q.join) q.join.more e

  -- whether a choice meets some of these cases
  abbrev some : List (List Cmp) → Env → Bool
  some cs e = cases_true s.given (tables_of q.join) e cs

  -- a choice counts where it meets the join and some of these cases, and none of the cases before
  abbrev counts : (before cs : List (List Cmp)) → Env → ℕ
  counts before cs e = when (joined e && (not (some before e) && some cs e)) (w (selected e))

  -- the same of one case
  abbrev counts_once : (before : List (List Cmp)) (c : List Cmp) → Env → ℕ
  counts_once before c e = when (joined e && (case_true s.given (tables_of q.join) e c && not (some before e))) (w (selected e))

  -- a choice counts for its first case alone
  first_case : (before cs : List (List Cmp)) (c : List Cmp) (e : Env) → counts before (c ∷ cs) e ≡ counts_once before c e + counts (before ++ (c ∷ [])) cs e
  first_case before cs c e =
      go (joined e) (some before e) (case_true s.given (tables_of q.join) e c) (some cs e) (w (selected e))
      ∙ ap (λ b. counts_once before c e + when (joined e && (not b && some cs e)) (w (selected e))) (sym (cases_append s.given (tables_of q.join) e before c))
    where
      go : (m b c r : Bool) (n : ℕ) → when (m && (not b && (c || r))) n ≡ when (m && (c && not b)) n + when (m && (not (b || c) && r)) n
      go false b c r n = refl
      go true true true r n = refl
      go true true false r n = refl
      go true false true r n = omega arith
      go true false false r n = omega arith

  no_case : (before : List (List Cmp)) (e : Env) → counts before [] e ≡ 0
  no_case before e = go (joined e) (not (some before e)) (w (selected e))
    where
      go : (m b : Bool) (n : ℕ) → when (m && (b && false)) n ≡ 0
      go true true n = refl
      go true false n = refl
      go false b n = refl

  -- the term of a case
  abbrev case_term : (before : List (List Cmp)) → List Cmp → Term
  case_term before c = record {
    vars = map (var_of side 0) (tables_of q.join);
    lits = join_lits (tables_of q.join) q.join.more ++ (case_lits (tables_of q.join) c ++ map (not_case (tables_of q.join)) before);
    head = map (col_atom (tables_of q.join)) q.columns;
  }

  case_test : (before : List (List Cmp)) (c : List Cmp) (e : Env) → lits_true s e (case_term before c).lits ≡ (joined e && (case_true s.given (tables_of q.join) e c && not (some before e)))
  case_test before c e =
      lits-append s e (join_lits (tables_of q.join) q.join.more) (case_lits (tables_of q.join) c ++ map (not_case (tables_of q.join)) before)
      ∙ ap₂ (λ x y. x && y) (join_lits_true s (tables_of q.join) q.join.more e)
      (lits-append s e (case_lits (tables_of q.join) c) (map (not_case (tables_of q.join)) before) ∙ ap₂ (λ x y. x && y) (case_lits_true s (tables_of q.join) c e) (not_cases_true s (tables_of q.join) before e))

  case_total : (before : List (List Cmp)) (c : List Cmp) → total w (term_bag s (case_term before c)) ≡ total (counts_once before c) rows
  case_total before c =
      total-term_bag s w (case_term before c)
      ∙ total-same _ (counts_once before c) (λ e. ap₂ (λ b r. when b (w r)) (case_test before c e) (head_is s (tables_of q.join) q.columns e)) (choices s (map (var_of side 0) (tables_of q.join)))
      ∙ ap (total (counts_once before c)) (join_choices s side 0 st sh (tables_of q.join))

  -- the terms from some case on have the rows that these cases are the first to meet
  from_total : (before cs : List (List Cmp)) → total w (terms_bag s (answer_from side q before cs)) ≡ total (counts before cs) rows
  from_total before [] = sym (total-same (counts before []) (λ e. 0) (no_case before) rows ∙ total-zero rows)
  from_total before (c ∷ cs) =
      total-append w (term_bag s (case_term before c)) (terms_bag s (answer_from side q (before ++ (c ∷ [])) cs))
      ∙ ap₂ (λ m n. m + n) (case_total before c) (from_total (before ++ (c ∷ [])) cs)
      ∙ sym (total-same (counts before (c ∷ cs)) _ (first_case before cs c) rows ∙ total-add (counts_once before c) (counts (before ++ (c ∷ [])) cs) rows)

  -- the same of the answer
  of_answer : total w (answer s.given q st) ≡ total (counts [] q.cond.cases) rows
  of_answer =
      total-map w selected (filter (some q.cond.cases) (join_rows st q.join))
      ∙ total-filter (λ e. w (selected e)) (some q.cond.cases) (join_rows st q.join)
      ∙ total-filter (λ e. when (some q.cond.cases e) (w (selected e))) joined rows
      ∙ total-same _ (counts [] q.cond.cases) (λ e. sym (when_and (joined e) (some q.cond.cases e) (w (selected e)))) rows

  -- a query's terms and its answer have equal sums of every weight
  pub answer_total : total w (terms_bag s (answer_terms side q)) ≡ total w (answer s.given q st)
  answer_total = from_total [] q.cond.cases ∙ sym of_answer

-- a query's terms have the answer as their bag
pub answer_bag : (s : Setting) (side : Side) (st : State) → Shows s side 0 st → (q : Query) → SameBag (terms_bag s (answer_terms side q)) (answer s.given q st)
answer_bag s side st sh q = record { by = λ r. answer_total s side st sh q (λ x. bit (row_eq r x)) }
