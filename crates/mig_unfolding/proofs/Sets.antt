-- A variable unfolded by a set: for each case the written host where its body is met and none before, and last the host where none is met.
use Rattle.std.proofs.Common.{◌≡◌, ◌≢◌, ℕ, zero, suc, ◌+◌, ◌<◌, Bool, true, false, cond, not, ◌&&◌, ◌||◌, List, [], ◌∷◌, ◌++◌, map, length, refl, sym, ap, ap₂, ◌∙◌, arith, append_assoc, length-append, inl, inr, ◌⊎◌, subst, subst₂}
use Rattle.std.specs.Prelude.{◌==◌, slice_index_or}
use Rattle.std.specs.List.{list_any}
use Rattle.std.proofs.lemmas.Bool.{eq-eqb, ne_eqb, and_parts}
use Rattle.std.proofs.lemmas.Bool.Decides.{eqb_tells}
use Rattle.std.proofs.lemmas.List.{get_or_at}
use Rattle.std.proofs.lemmas.List.Folds.{list_any-append}
use Rattle.mig_schema.specs.declared.faults.Side.{Side}
use Rattle.mig_schema.specs.declared.tables.ColId.{ColId}
use Rattle.mig_schema.specs.declared.tables.Column.{Column}
use Rattle.mig_schema.specs.declared.tables.Schema.{Schema}
use Rattle.mig_schema.specs.declared.values.Value.{Value}
use Rattle.mig_schema.specs.declared.programs.Cmp.{Cmp}
use Rattle.mig_schema.specs.declared.programs.Cond.{Cond}
use Rattle.mig_schema.specs.declared.programs.Join.{Join}
use Rattle.mig_schema.specs.declared.programs.Scalar.{Scalar}
use Rattle.mig_schema.specs.declared.programs.Scalar.TheVariants as scalar
use Rattle.mig_schema.specs.declared.programs.Stmt.TheVariants.{Set}
use Rattle.mig_base.specs.Lists.{numbered}
use Rattle.mig_schema.specs.Joins.{tables_of, is_among}
use Rattle.mig_meaning.specs.declared.states.Placed.{Placed}
use Rattle.mig_meaning.specs.declared.states.State.{State}
use Rattle.mig_meaning.specs.Lists.{total, In, Each}
use Rattle.mig_meaning.specs.Values.{no_value, of_kind}
use Rattle.mig_meaning.specs.Rows.{no_row, rows_of, value_at}
use Rattle.mig_meaning.specs.Conditions.{Given, met_rows, scalar_value}
use Rattle.mig_meaning.specs.Effect.{takes_part, with_value, effect}
use Rattle.mig_meaning.specs.States.{Rising, row_fits}
use Rattle.mig_meaning.proofs.Bags.{total-map}
use Rattle.mig_meaning.proofs.Within.{each-weaker}
use Rattle.mig_algebra.specs.declared.atoms.Var.{Var}
use Rattle.mig_algebra.specs.declared.atoms.Atom.{Atom}
use Rattle.mig_algebra.specs.declared.atoms.Atom.TheVariants.{Int, Text, Param, Fresh, Col}
use Rattle.mig_algebra.specs.declared.literals.Inner.{Inner}
use Rattle.mig_algebra.specs.declared.literals.Lit.{Lit}
use Rattle.mig_algebra.specs.declared.literals.Lit.TheVariants.{Any}
use Rattle.mig_algebra.specs.declared.terms.Term.{Term}
use Rattle.mig_algebra.specs.Meaning.{Setting, Env, row_at, value_of, head_of, choices, lits_true}
use Rattle.mig_algebra.specs.Obligations.{var_of, scalar_atom}
use Rattle.mig_algebra.specs.Shown.{Shows}
use Rattle.mig_algebra.proofs.Sums.{when, when_and, when_swap, total-same, total-each, total-swap}
use Rattle.mig_algebra.proofs.Products.{total-product}
use Rattle.mig_algebra.proofs.Truth.{Reads, lits_with-true, head-reads, lits-append}
use Rattle.mig_algebra.proofs.Bodies.{any_true}
use Rattle.mig_algebra.proofs.Without.{any_atom, all-any_atom, row-below}
use Rattle.mig_algebra.proofs.Moved.{any_id, all-lits}
use Rattle.mig_algebra.proofs.Hosts.{choice-lengths, total-choices_append}
use Rattle.mig_replacing.specs.Reaching.{is_met}
use Rattle.mig_unfolding.proofs.Alike.{counted, host_weight}
use Rattle.mig_unfolding.proofs.Bridge.{told, taking-part}
use Rattle.mig_unfolding.proofs.Deletes.{numbered-total, unmet-true, each-in, row-of-own, own-length}
use Rattle.mig_unfolding.specs.Cases.{case_body, unmet}
use Rattle.mig_unfolding.specs.Hosts.{with_more}
use Rattle.mig_unfolding.specs.Unfolding.{written, write, by_cases}

-- ---- states

-- what a set does to the table of a number
abbrev set_in : (tables : List ℕ) → List (List Placed) → ColId → Value → ℕ → List Placed → List Placed
set_in ts es c v n rows = cond (n == c.table) (map (λ p. cond (takes_part ts es n p) (with_value c.column v p) p) rows) rows

-- the rows that a set leaves of its column's table
pub set-rows : (schema : Schema) (g : Given) (c : ColId) (x : Scalar) (join : Join) (test : Cond) (st : State) (t : ℕ) → c.table ≡ t → rows_of (effect schema g (Set c x join test) st) t ≡ map (λ p. cond (takes_part (tables_of join) (met_rows g st join test.cases) t p) (with_value c.column (scalar_value g x) p) p) (rows_of st t)
set-rows schema g c x join test st t h =
    numbered-total (set_in (tables_of join) (met_rows g st join test.cases) c (scalar_value g x)) (λ n. either (n == c.table)) 0 st.tables t
    ∙ ap (λ n. set_in (tables_of join) (met_rows g st join test.cases) c (scalar_value g x) n (rows_of st t)) k
    ∙ ap (λ b. cond b (map (λ p. cond (takes_part (tables_of join) (met_rows g st join test.cases) t p) (with_value c.column (scalar_value g x) p) p) (rows_of st t)) (rows_of st t)) (eq-eqb t c.table (sym h))
  where
    either : (b : Bool) → cond {A = List Placed} b [] [] ≡ []
    either true = refl
    either false = refl

    k : 0 + t ≡ t
    k = omega arith

written-index : (c : ℕ) (v d : Value) (n : ℕ) (vs : List Value) (u : ℕ) → c < n + length vs → slice_index_or (numbered (λ m (x : Value). cond (m == c) v x) n vs) u d ≡ cond (n + u == c) v (slice_index_or vs u d)
written-index c v d n [] u h = ap (λ b. cond b v d) (sym (ne_eqb (n + u) c (λ e. absurd (omega (arith, e, h)))))
written-index c v d n (x ∷ xs) zero h = let e : n ≡ n + zero = omega arith in ap (λ m. cond (m == c) v x) e
written-index c v d n (x ∷ xs) (suc u) h =
    let e : (n + 1) + u ≡ n + suc u = omega arith in
    written-index c v d (n + 1) xs u (omega (arith, h)) ∙ ap (λ m. cond (m == c) v (slice_index_or xs u d)) e

-- a row's columns where one of them is written
pub value-written : (c : ℕ) (v : Value) (p : Placed) → c < length p.row.values → (col : ℕ) → value_at (with_value c v p) col ≡ cond (col == c) v (value_at p col)
value-written c v p h col = let e : 0 + col ≡ col = omega arith in written-index c v no_value 0 p.row.values col (omega (arith, h)) ∙ ap (λ n. cond (n == c) v (value_at p col)) e

-- a row has a value for each column
pub row-width : (cs : List Column) (vs : List Value) → row_fits cs vs ≡ true → length vs ≡ length cs
row-width [] [] h = refl
row-width [] (v ∷ vs) h = cc
row-width (c ∷ cs) [] h = cc
row-width (c ∷ cs) (v ∷ vs) h = ap suc (row-width cs vs (and_parts (of_kind c.kind v) (row_fits cs vs) h).1)

-- a scalar's value
pub scalar-atom-value : (s : Setting) (e : Env) (x : Scalar) → scalar_value s.given x ≡ value_of s e (scalar_atom x)
scalar-atom-value s e (scalar.Param p) = refl
scalar-atom-value s e (scalar.Int i) = refl
scalar-atom-value s e (scalar.Text t) = refl
scalar-atom-value s e (scalar.Fresh n) = refl

-- ---- the written column

-- what is read at a row with the column written is read by the value's atom in its place
pub reads-written : (s : Setting) (a b : Env) (p q : Placed) (v c : ℕ) (x : Atom) (y : Value) → length a ≡ v → q.id ≡ p.id → ((col : ℕ) → value_at q col ≡ cond (col == c) y (value_at p col)) → ((f : Env) → value_of s f x ≡ y) → Reads s (a ++ (q ∷ b)) (a ++ (p ∷ b)) any_atom any_id (written v c x) (λ w. w)
reads-written s a b p q v c x y h id cols val = record {
  atoms = λ f z t. atom f z;
  ids = λ f i t. told-id f i (eqb_tells i v);
}
  where
    own : (r : Placed) (f : Env) (i : ℕ) → i ≡ v → row_at ((a ++ (r ∷ b)) ++ f) i ≡ r
    own r f i e = ap (λ l. row_at l i) (append_assoc a (r ∷ b) f) ∙ get_or_at a r (b ++ f) no_row i (h ∙ sym e)

    other : (f : Env) (i : ℕ) → i ≢ v → row_at ((a ++ (q ∷ b)) ++ f) i ≡ row_at ((a ++ (p ∷ b)) ++ f) i
    other f i e =
        ap (λ l. row_at l i) (append_assoc a (q ∷ b) f) ∙ row-below a (b ++ f) q v i h e
        ∙ sym (row-below a (b ++ f) p v i h e) ∙ ap (λ l. row_at l i) (sym (append_assoc a (p ∷ b) f))

    told-id : (f : Env) (i : ℕ) → ((i == v) ≡ true) × (i ≡ v) ⊎ ((i == v) ≡ false) × (i ≢ v) → (row_at ((a ++ (q ∷ b)) ++ f) i).id ≡ (row_at ((a ++ (p ∷ b)) ++ f) i).id
    told-id f i (inl e) = ap (λ (r : Placed). r.id) (own q f i e.1) ∙ id ∙ ap (λ (r : Placed). r.id) (sym (own p f i e.1))
    told-id f i (inr e) = ap (λ (r : Placed). r.id) (other f i e.1)

    pick : (f : Env) (i col : ℕ) (t : Bool) → i ≡ v → cond t y (value_at p col) ≡ value_of s ((a ++ (p ∷ b)) ++ f) (cond t x (Col i col))
    pick f i col true e = sym (val ((a ++ (p ∷ b)) ++ f))
    pick f i col false e = ap (λ (r : Placed). value_at r col) (sym (own p f i e))

    column : (f : Env) (i col : ℕ) → ((i == v) ≡ true) × (i ≡ v) ⊎ ((i == v) ≡ false) × (i ≢ v) → value_of s ((a ++ (q ∷ b)) ++ f) (Col i col) ≡ value_of s ((a ++ (p ∷ b)) ++ f) (written v c x (Col i col))
    column f i col (inl e) =
        ap (λ (r : Placed). value_at r col) (own q f i e.1) ∙ cols col ∙ pick f i col (col == c) e.1
        ∙ ap (λ t. value_of s ((a ++ (p ∷ b)) ++ f) (cond (t && col == c) x (Col i col))) (sym e.0)
    column f i col (inr e) =
        ap (λ (r : Placed). value_at r col) (other f i e.1)
        ∙ ap (λ t. value_of s ((a ++ (p ∷ b)) ++ f) (cond (t && col == c) x (Col i col))) (sym e.0)

    atom : (f : Env) (z : Atom) → value_of s ((a ++ (q ∷ b)) ++ f) z ≡ value_of s ((a ++ (p ∷ b)) ++ f) (written v c x z)
    atom f (Int n) = refl
    atom f (Text t) = refl
    atom f (Param n) = refl
    atom f (Fresh n) = refl
    atom f (Col i col) = column f i col (eqb_tells i v)

-- ---- hosts

-- the choices with a variable in the middle innermost
pub total-split : (s : Setting) (f : Env → ℕ) (vs : List Var) (v : Var) (ws : List Var) → total f (choices s (vs ++ (v ∷ ws))) ≡ total (λ c. total (λ d. total (λ p. f (c ++ (p ∷ d))) (s.rows v)) (choices s ws)) (choices s vs)
total-split s f vs v ws =
    total-choices_append s f vs (v ∷ ws)
    ∙ total-same _ _ (λ c. total-product (λ d. f (c ++ d)) (s.rows v) (map s.rows ws) ∙ total-swap (λ p d. f (c ++ (p ∷ d))) (s.rows v) (choices s ws)) (choices s vs)

module _ (s : Setting) (w : List Value → ℕ) (body : List Cmp → Inner) (kept wrote : Term) where
  -- whether some of these cases' bodies is met
  abbrev pub some_met : Env → List (List Cmp) → Bool
  some_met f cases = list_any (λ cs. is_met s f (body cs)) cases

  kept-counted : (f : Env) (before : List (List Cmp)) → counted s w (with_more kept (unmet body before)) f ≡ when (not (some_met f before)) (counted s w kept f)
  kept-counted f before =
      ap (λ b. when b (w (head_of s kept.head f))) (lits-append s f kept.lits (unmet body before) ∙ ap (λ b. lits_true s f kept.lits && b) (unmet-true s f body before))
      ∙ when_and (lits_true s f kept.lits) (not (some_met f before)) (w (head_of s kept.head f))
      ∙ when_swap (lits_true s f kept.lits) (not (some_met f before)) (w (head_of s kept.head f))

  wrote-counted : (f : Env) (c : List Cmp) (before : List (List Cmp)) → counted s w (with_more wrote (Any true (body c) ∷ unmet body before)) f ≡ when (lits_true s f wrote.lits && (is_met s f (body c) && not (some_met f before))) (w (head_of s wrote.head f))
  wrote-counted f c before =
      ap (λ b. when b (w (head_of s wrote.head f)))
      (lits-append s f wrote.lits (Any true (body c) ∷ unmet body before)
      ∙ ap₂ (λ x y. lits_true s f wrote.lits && (x && y)) (any_true s f true (body c).vars (body c).lits) (unmet-true s f body before))

  -- the hosts from some case on count what the first met case says
  pub cases-counted : (f : Env) (before cases : List (List Cmp)) → total (λ h. counted s w h f) (by_cases body kept wrote before cases) ≡ when (not (some_met f before)) (cond (some_met f cases) (counted s w wrote f) (counted s w kept f))
  cases-counted f before [] = let e : counted s w (with_more kept (unmet body before)) f + 0 ≡ counted s w (with_more kept (unmet body before)) f = omega arith in e ∙ kept-counted f before
  cases-counted f before (c ∷ cs) =
      ap₂ (λ m n. m + n) (wrote-counted f c before) (cases-counted f (before ++ c ∷ []) cs ∙ ap (λ b. when (not b) (cond (some_met f cs) (counted s w wrote f) (counted s w kept f))) (list_any-append (λ x. is_met s f (body x)) before (c ∷ [])))
      ∙ go (some_met f before) (is_met s f (body c)) (lits_true s f wrote.lits) (some_met f cs) (w (head_of s wrote.head f)) (counted s w kept f)
    where
      go : (b m l r : Bool) (x y : ℕ) → when (l && (m && not b)) x + when (not (b || (m || false))) (cond r (when l x) y) ≡ when (not b) (cond (m || r) (when l x) y)
      go true true true r x y = refl
      go true true false r x y = refl
      go true false true r x y = refl
      go true false false r x y = refl
      go false true true r x y = omega arith
      go false true false r x y = refl
      go false false true r x y = omega arith
      go false false false r x y = omega arith

  -- all these hosts have the host's variables
  same-vars : wrote.vars ≡ kept.vars → (before cases : List (List Cmp)) → Each (λ (h : Term). h.vars ≡ kept.vars) (by_cases body kept wrote before cases)
  same-vars v before [] = (refl, tt)
  same-vars v before (c ∷ cs) = (v, same-vars v (before ++ c ∷ []) cs)

  -- their sum
  pub cases-total : wrote.vars ≡ kept.vars → (e : Env) (cases : List (List Cmp)) → total (host_weight s e w) (by_cases body kept wrote [] cases) ≡ total (λ c. cond (some_met (e ++ c) cases) (counted s w wrote (e ++ c)) (counted s w kept (e ++ c))) (choices s kept.vars)
  cases-total v e cases =
      total-each (host_weight s e w) (λ h. total (λ c. counted s w h (e ++ c)) (choices s kept.vars)) (by_cases body kept wrote [] cases)
      (each-weaker (λ (h : Term). h.vars ≡ kept.vars) (λ (h : Term). host_weight s e w h ≡ total (λ c. counted s w h (e ++ c)) (choices s kept.vars)) (λ (h : Term) k. ap (λ us. total (λ c. counted s w h (e ++ c)) (choices s us)) k) (by_cases body kept wrote [] cases) (same-vars v [] cases))
      ∙ total-swap (λ h c. counted s w h (e ++ c)) (by_cases body kept wrote [] cases) (choices s kept.vars)
      ∙ total-same _ _ (λ c. cases-counted (e ++ c) [] cases) (choices s kept.vars)

-- ---- the law

module _ (s : Setting) (side : Side) (j : ℕ) (st : State) (sh : Shows s side j st) (join : Join) (t : ℕ) (among : is_among t (tables_of join) ≡ true) (rising : Rising (rows_of st t)) (cases : List (List Cmp)) (col : ℕ) (wide : Each (λ (p : Placed). col < length p.row.values) (rows_of st t)) (x : Atom) (y : Value) (val : (f : Env) → value_of s f x ≡ y) where
  set_row : Placed → Placed
  set_row p = cond (takes_part (tables_of join) (met_rows s.given st join cases) t p) (with_value col y p) p

  -- the hosts of a variable u of table t, whose rows are those with the column set where they take part
  pub host-set : (e : Env) (w : List Value → ℕ) (vs : List Var) (u : Var) (ws : List Var) (lits : List Lit) (head : List Atom) (n : ℕ) → length e + (length vs + suc (length ws)) ≡ n → s.rows u ≡ map (λ p. cond (takes_part (tables_of join) (met_rows s.given st join cases) t p) (with_value col y p) p) (rows_of st t)
      → host_weight s e w (record { vars = vs ++ (u ∷ ws); lits = lits; head = head })
      ≡ total (host_weight s e w) (by_cases (case_body side j join t (length e + length vs) n) (record { vars = vs ++ (var_of side j t ∷ ws); lits = lits; head = head }) (write (length e + length vs) col x (record { vars = vs ++ (var_of side j t ∷ ws); lits = lits; head = head })) [] cases)
  host-set e w vs u ws lits head n count rows =
      total-split s (λ c. counted s w old (e ++ c)) vs u ws
      ∙ total-each _ _ (choices s vs) (each-weaker _ _ (λ c l. total-each _ _ (choices s ws) (each-weaker _ _ (λ d m. cells c d l m) (choices s ws) (choice-lengths s ws))) (choices s vs) (choice-lengths s vs))
      ∙ sym (total-split s (λ c. both (e ++ c)) vs (var_of side j t) ws)
      ∙ sym (cases-total s w body kept (write (length e + length vs) col x kept) refl e cases)
    where
      body : List Cmp → Inner
      body = case_body side j join t (length e + length vs) n

      old : Term
      old = record { vars = vs ++ (u ∷ ws); lits = lits; head = head }

      kept : Term
      kept = record { vars = vs ++ (var_of side j t ∷ ws); lits = lits; head = head }

      met : Env → Bool
      met f = list_any (λ cs. is_met s f (body cs)) cases

      both : Env → ℕ
      both f = cond (met f) (counted s w (write (length e + length vs) col x kept) f) (counted s w kept f)

      part : Placed → Bool
      part p = takes_part (tables_of join) (met_rows s.given st join cases) t p

      reads : (c d : Env) (p : Placed) → length c ≡ length vs → col < length p.row.values → Reads s (e ++ (c ++ (with_value col y p ∷ d))) (e ++ (c ++ (p ∷ d))) any_atom any_id (written (length e + length vs) col x) (λ i. i)
      reads c d p l k =
          subst₂ (λ f g. Reads s f g any_atom any_id (written (length e + length vs) col x) (λ i. i)) (append_assoc e c (with_value col y p ∷ d)) (append_assoc e c (p ∷ d))
          (reads-written s (e ++ c) d p (with_value col y p) (length e + length vs) col x y (length-append e c ∙ ap (λ m. length e + m) l) refl (value-written col y p k) val)

      wrote : (c d : Env) (p : Placed) → length c ≡ length vs → col < length p.row.values → counted s w old (e ++ (c ++ (with_value col y p ∷ d))) ≡ counted s w (write (length e + length vs) col x kept) (e ++ (c ++ (p ∷ d)))
      wrote c d p l k =
          ap₂ (λ b m. when b (w m)) (lits_with-true s any_atom any_id _ _ _ _ (reads c d p l k) lits (all-lits lits)) (head-reads s any_atom any_id _ _ _ _ (reads c d p l k) head (all-any_atom head))

      choose : (b : Bool) (c d : Env) (p : Placed) → length c ≡ length vs → col < length p.row.values → counted s w old (e ++ (c ++ (cond b (with_value col y p) p ∷ d))) ≡ cond b (counted s w (write (length e + length vs) col x kept) (e ++ (c ++ (p ∷ d)))) (counted s w kept (e ++ (c ++ (p ∷ d))))
      choose true c d p l k = wrote c d p l k
      choose false c d p l k = refl

      cell : (c d : Env) → length c ≡ length vs → length d ≡ length ws → (p : Placed) → In p (rows_of st t) → col < length p.row.values → counted s w old (e ++ (c ++ (cond (part p) (with_value col y p) p ∷ d))) ≡ both (e ++ (c ++ (p ∷ d)))
      cell c d l m p h k =
          let long : length (e ++ (c ++ (p ∷ d))) ≡ n = own-length e c d p (length vs) (length ws) l m ∙ count in
          let same : part p ≡ met (e ++ (c ++ (p ∷ d))) =
          subst (λ z. part p ≡ list_any (λ cs. is_met s (e ++ (c ++ (p ∷ d))) (case_body side j join t (length e + length vs) z cs)) cases) long
          (taking-part s side j st sh join t among (e ++ (c ++ (p ∷ d))) p (length e + length vs) (omega (arith, long, count)) (row-of-own e c d p (length vs) l) h (told p (rows_of st t) h rising) cases) in
          choose (part p) c d p l k
          ∙ ap (λ b. cond b (counted s w (write (length e + length vs) col x kept) (e ++ (c ++ (p ∷ d)))) (counted s w kept (e ++ (c ++ (p ∷ d))))) same

      all-cells : (c d : Env) → length c ≡ length vs → length d ≡ length ws → (ps : List Placed) → Each (λ p. In p (rows_of st t)) ps → Each (λ (p : Placed). col < length p.row.values) ps → Each (λ p. counted s w old (e ++ (c ++ (cond (part p) (with_value col y p) p ∷ d))) ≡ both (e ++ (c ++ (p ∷ d)))) ps
      all-cells c d l m [] a b = tt
      all-cells c d l m (p ∷ ps) a b = (cell c d l m p a.0 b.0, all-cells c d l m ps a.1 b.1)

      cells : (c d : Env) → length c ≡ length vs → length d ≡ length ws → total (λ p. counted s w old (e ++ (c ++ (p ∷ d)))) (s.rows u) ≡ total (λ p. both (e ++ (c ++ (p ∷ d)))) (s.rows (var_of side j t))
      cells c d l m =
          ap (total (λ p. counted s w old (e ++ (c ++ (p ∷ d))))) rows
          ∙ total-map (λ p. counted s w old (e ++ (c ++ (p ∷ d)))) (λ p. cond (part p) (with_value col y p) p) (rows_of st t)
          ∙ total-each _ _ (rows_of st t) (all-cells c d l m (rows_of st t) (each-in (rows_of st t)) wide)
          ∙ ap (total (λ p. both (e ++ (c ++ (p ∷ d))))) (sym (sh.by t))
