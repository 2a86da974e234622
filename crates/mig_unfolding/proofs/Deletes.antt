-- A variable unfolded by a delete: the host with the variable a stage before, and no case's body met.
use Rattle.std.proofs.Common.{◌≡◌, ℕ, zero, suc, ◌+◌, Bool, true, false, cond, not, ◌&&◌, ◌||◌, List, [], ◌∷◌, ◌++◌, length, refl, sym, ap, ap₂, ◌∙◌, arith, append_assoc, length-append, inl, inr, subst}
use Rattle.std.specs.Prelude.{◌==◌, slice_index_or, filter}
use Rattle.std.specs.List.{list_any}
use Rattle.std.proofs.lemmas.List.{get_or_at}
use Rattle.mig_schema.specs.declared.faults.Side.{Side}
use Rattle.mig_schema.specs.declared.tables.Schema.{Schema}
use Rattle.mig_schema.specs.declared.programs.Cmp.{Cmp}
use Rattle.mig_schema.specs.declared.programs.Cond.{Cond}
use Rattle.mig_schema.specs.declared.programs.Join.{Join}
use Rattle.mig_schema.specs.declared.programs.Stmt.TheVariants.{Delete}
use Rattle.mig_base.specs.Lists.{numbered}
use Rattle.mig_schema.specs.Joins.{tables_of, is_among}
use Rattle.mig_meaning.specs.declared.states.Placed.{Placed}
use Rattle.mig_meaning.specs.declared.states.State.{State}
use Rattle.mig_meaning.specs.Lists.{total, In, Each}
use Rattle.mig_meaning.specs.Rows.{no_row, rows_of}
use Rattle.mig_meaning.specs.Conditions.{Given, met_rows}
use Rattle.mig_meaning.specs.Effect.{takes_part, effect}
use Rattle.mig_meaning.specs.States.{Rising}
use Rattle.mig_meaning.proofs.Within.{each-weaker}
use Rattle.mig_algebra.specs.declared.atoms.Var.{Var}
use Rattle.mig_algebra.specs.declared.literals.Inner.{Inner}
use Rattle.mig_algebra.specs.declared.literals.Lit.{Lit}
use Rattle.mig_algebra.specs.Meaning.{Setting, Env, row_at, choices, lits_true}
use Rattle.mig_algebra.specs.Obligations.{var_of}
use Rattle.mig_algebra.specs.Shown.{Shows}
use Rattle.mig_algebra.proofs.Sums.{when, when_and, when_swap, total-each, total-filter}
use Rattle.mig_algebra.proofs.Truth.{lits-append}
use Rattle.mig_algebra.proofs.Bodies.{any_true}
use Rattle.mig_algebra.proofs.Hosts.{host_sum, at_row, choice-lengths, host-split}
use Rattle.mig_replacing.specs.Reaching.{is_met}
use Rattle.mig_unfolding.proofs.Bridge.{told, taking-part}
use Rattle.mig_unfolding.specs.Cases.{case_body, unmet}

-- ---- states

-- the table of a number, where each is changed by f, which leaves an empty one
pub numbered-total : {X : Type 0} (f : ℕ → List X → List X) → ((n : ℕ) → f n [] ≡ []) → (n : ℕ) (xs : List (List X)) (u : ℕ) → slice_index_or (numbered f n xs) u [] ≡ f (n + u) (slice_index_or xs u [])
numbered-total f none n [] u = sym (none (n + u))
numbered-total f none n (x ∷ xs) zero = let e : n ≡ n + zero = omega arith in ap (λ m. f m x) e
numbered-total f none n (x ∷ xs) (suc u) =
    let e : (n + 1) + u ≡ n + suc u = omega arith in
    numbered-total f none (n + 1) xs u ∙ ap (λ m. f m (slice_index_or xs u [])) e

-- what a delete does to the table of a number
abbrev left_of : (tables listed : List ℕ) → List (List Placed) → ℕ → List Placed → List Placed
left_of ts listed es n rows = cond (list_any (λ u. u == n) listed) (filter (λ p. not (takes_part ts es n p)) rows) rows

-- the rows that a delete leaves of a table that it lists
pub deleted-rows : (schema : Schema) (g : Given) (listed : List ℕ) (join : Join) (test : Cond) (st : State) (t : ℕ) → is_among t listed ≡ true → rows_of (effect schema g (Delete listed join test) st) t ≡ filter (λ p. not (takes_part (tables_of join) (met_rows g st join test.cases) t p)) (rows_of st t)
deleted-rows schema g listed join test st t h =
    numbered-total (left_of (tables_of join) listed (met_rows g st join test.cases)) (λ n. either (list_any (λ u. u == n) listed)) 0 st.tables t
    ∙ ap (λ n. left_of (tables_of join) listed (met_rows g st join test.cases) n (rows_of st t)) k
    ∙ ap (λ b. cond b (filter (λ p. not (takes_part (tables_of join) (met_rows g st join test.cases) t p)) (rows_of st t)) (rows_of st t)) h
  where
    either : (b : Bool) → cond {A = List Placed} b [] [] ≡ []
    either true = refl
    either false = refl

    k : 0 + t ≡ t
    k = omega arith

-- ---- literals

-- no case's body is met
pub unmet-true : (s : Setting) (e : Env) (body : List Cmp → Inner) (cases : List (List Cmp)) → lits_true s e (unmet body cases) ≡ not (list_any (λ cs. is_met s e (body cs)) cases)
unmet-true s e body [] = refl
unmet-true s e body (c ∷ cs) =
    ap₂ (λ a b. a && b) (any_true s e false (body c).vars (body c).lits) (unmet-true s e body cs)
    ∙ go (is_met s e (body c)) (list_any (λ x. is_met s e (body x)) cs)
  where
    go : (a b : Bool) → (not a && not b) ≡ not (a || b)
    go true b = refl
    go false b = refl

-- ---- hosts

pub each-in : {X : Type 0} (xs : List X) → Each (λ x. In x xs) xs
each-in [] = tt
each-in (x ∷ xs) = (inl refl, each-weaker (λ y. In y xs) (λ y. In y (x ∷ xs)) (λ y h. inr h) xs (each-in xs))

module _ (s : Setting) (e : Env) (k : Env → ℕ) (vs : List Var) (u u' : Var) (ws : List Var) (lits lits' : List Lit) where
  -- two hosts whose variables' rows count alike at each choice of the others
  pub host-cells : ((c d : Env) → length c ≡ length vs → length d ≡ length ws → total (at_row s e k lits c d) (s.rows u) ≡ total (at_row s e k lits' c d) (s.rows u')) → host_sum s e k (vs ++ (u ∷ ws)) lits ≡ host_sum s e k (vs ++ (u' ∷ ws)) lits'
  host-cells h =
      host-split s e k vs u ws lits
      ∙ total-each _ _ (choices s vs) (each-weaker _ _ (λ c l. total-each _ _ (choices s ws) (each-weaker _ _ (λ d m. h c d l m) (choices s ws) (choice-lengths s ws))) (choices s vs) (choice-lengths s vs))
      ∙ sym (host-split s e k vs u' ws lits')

-- the row of the variable
pub row-of-own : (e c d : Env) (p : Placed) (n : ℕ) → length c ≡ n → row_at (e ++ (c ++ (p ∷ d))) (length e + n) ≡ p
row-of-own e c d p n l =
    ap (λ x. row_at x (length e + n)) (sym (append_assoc e c (p ∷ d))) ∙ get_or_at (e ++ c) p d no_row (length e + n) (length-append e c ∙ ap (λ m. length e + m) l)

-- how many rows a choice has
pub own-length : (e c d : Env) (p : Placed) (m n : ℕ) → length c ≡ m → length d ≡ n → length (e ++ (c ++ (p ∷ d))) ≡ length e + (m + suc n)
own-length e c d p m n l r = omega (arith, length-append e (c ++ (p ∷ d)), length-append c (p ∷ d), l, r)

module _ (s : Setting) (side : Side) (j : ℕ) (st : State) (sh : Shows s side j st) (join : Join) (t : ℕ) (among : is_among t (tables_of join) ≡ true) (rising : Rising (rows_of st t)) (cases : List (List Cmp)) where
  -- the host of a variable u of table t, whose rows are those that take no part: the host with the variable before the statement, and no case's body met
  pub host-deleted : (e : Env) (k : Env → ℕ) (vs : List Var) (u : Var) (ws : List Var) (lits : List Lit) (n : ℕ) → length e + (length vs + suc (length ws)) ≡ n → s.rows u ≡ filter (λ p. not (takes_part (tables_of join) (met_rows s.given st join cases) t p)) (rows_of st t) → host_sum s e k (vs ++ (u ∷ ws)) lits ≡ host_sum s e k (vs ++ (var_of side j t ∷ ws)) (lits ++ unmet (case_body side j join t (length e + length vs) n) cases)
  host-deleted e k vs u ws lits n count rows =
      host-cells s e k vs u (var_of side j t) ws lits (lits ++ unmet body cases) (λ c d l m.
      ap (total (at_row s e k lits c d)) rows
      ∙ total-filter (at_row s e k lits c d) (λ p. not (part p)) (rows_of st t)
      ∙ total-each _ _ (rows_of st t) (each-weaker _ _ (λ p h. cell c d l m p h) (rows_of st t) (each-in (rows_of st t)))
      ∙ ap (total (at_row s e k (lits ++ unmet body cases) c d)) (sym (sh.by t)))
    where
      body : List Cmp → Inner
      body = case_body side j join t (length e + length vs) n

      part : Placed → Bool
      part p = takes_part (tables_of join) (met_rows s.given st join cases) t p

      cell : (c d : Env) → length c ≡ length vs → length d ≡ length ws → (p : Placed) → In p (rows_of st t) → when (not (part p)) (at_row s e k lits c d p) ≡ at_row s e k (lits ++ unmet body cases) c d p
      cell c d l m p h =
          let long : length (e ++ (c ++ (p ∷ d))) ≡ n = own-length e c d p (length vs) (length ws) l m ∙ count in
          let met : part p ≡ list_any (λ cs. is_met s (e ++ (c ++ (p ∷ d))) (body cs)) cases =
          subst (λ x. part p ≡ list_any (λ cs. is_met s (e ++ (c ++ (p ∷ d))) (case_body side j join t (length e + length vs) x cs)) cases) long
          (taking-part s side j st sh join t among (e ++ (c ++ (p ∷ d))) p (length e + length vs) (omega (arith, long, count)) (row-of-own e c d p (length vs) l) h (told p (rows_of st t) h rising) cases) in
          when_swap (not (part p)) (lits_true s (e ++ (c ++ (p ∷ d))) lits) (k (e ++ (c ++ (p ∷ d))))
          ∙ sym (when_and (lits_true s (e ++ (c ++ (p ∷ d))) lits) (not (part p)) (k (e ++ (c ++ (p ∷ d)))))
          ∙ ap (λ b. when b (k (e ++ (c ++ (p ∷ d))))) (ap (λ b. lits_true s (e ++ (c ++ (p ∷ d))) lits && not b) met ∙ ap (λ b. lits_true s (e ++ (c ++ (p ∷ d))) lits && b) (sym (unmet-true s (e ++ (c ++ (p ∷ d))) body cases)) ∙ sym (lits-append s (e ++ (c ++ (p ∷ d))) lits (unmet body cases)))
