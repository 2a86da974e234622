-- A row takes part in what meets a condition exactly where the body of some case is met at a variable that has the row.
use Rattle.std.proofs.Common.{◌≡◌, ◌≢◌, ℕ, suc, ◌+◌, ◌-◌, ◌<◌, Bool, true, false, cond, ◌&&◌, ◌||◌, List, [], ◌∷◌, ◌++◌, map, length, take, drop, Some, refl, sym, ap, ap₂, ◌∙◌, arith, append_assoc, inl, inr, ◌⊎◌, subst}
use Rattle.std.specs.Prelude.{◌==◌, slice_get, filter}
use Rattle.std.specs.List.{list_any}
use Rattle.std.proofs.lemmas.Bool.{cases_Bool, eqb-true, eq-eqb}
use Rattle.std.proofs.lemmas.Bool.Decides.{eqb_tells}
use Rattle.std.proofs.lemmas.List.{map-append, length-map, get_or_at}
use Rattle.mig_schema.specs.declared.faults.Side.{Side}
use Rattle.mig_schema.specs.declared.programs.Cmp.{Cmp}
use Rattle.mig_schema.specs.declared.programs.Join.{Join}
use Rattle.mig_schema.specs.Joins.{tables_of, is_among}
use Rattle.mig_meaning.specs.declared.states.Placed.{Placed}
use Rattle.mig_meaning.specs.declared.states.State.{State}
use Rattle.mig_meaning.specs.Lists.{place, product, Each, In}
use Rattle.mig_meaning.specs.Rows.{no_row, value_at, rows_of, meets}
use Rattle.mig_meaning.specs.Conditions.{case_true, cases_true, met_rows}
use Rattle.mig_meaning.specs.Effect.{takes_part}
use Rattle.mig_meaning.specs.States.{Rising}
use Rattle.mig_meaning.proofs.Within.{each-weaker}
use Rattle.mig_algebra.specs.declared.atoms.Atom.{Atom}
use Rattle.mig_algebra.specs.declared.atoms.Atom.TheVariants.{Int, Text, Param, Fresh, Col}
use Rattle.mig_algebra.specs.Meaning.{Setting, Env, row_at, value_of, lits_true}
use Rattle.mig_algebra.specs.Obligations.{join_lits, case_lits}
use Rattle.mig_algebra.specs.Rename.{renumbered, below}
use Rattle.mig_algebra.specs.Shown.{Shows}
use Rattle.mig_algebra.proofs.Some.{any-same, any-each}
use Rattle.mig_algebra.proofs.SomeChoice.{any-swap, any-product, any-product_append}
use Rattle.mig_algebra.proofs.Products.{product_lengths}
use Rattle.mig_algebra.proofs.Members.{in-any}
use Rattle.mig_algebra.proofs.Truth.{Reads, lits_with-true, lits-append}
use Rattle.mig_algebra.proofs.Without.{any_atom, row-before, row-after, row-below}
use Rattle.mig_algebra.proofs.Moved.{any_id, all-lits}
use Rattle.mig_algebra.proofs.Obliged.{join_choices, join_lits_true, case_lits_true}
use Rattle.mig_replacing.specs.Reaching.{is_met}
use Rattle.mig_unfolding.proofs.Alike.{parts-at}
use Rattle.mig_unfolding.specs.Cases.{case_number, case_body}

-- ---- lists

-- a test of what a filter leaves
pub any-filter : {X : Type 0} (f g : X → Bool) (xs : List X) → list_any f (filter g xs) ≡ list_any (λ x. g x && f x) xs
any-filter f g [] = refl
any-filter f g (x ∷ xs) = go (g x) (filter g xs) (any-filter f g xs)
  where
    go : (b : Bool) (ys : List _) → list_any f ys ≡ list_any (λ x. g x && f x) xs → list_any f (cond b (x ∷ ys) ys) ≡ ((b && f x) || list_any (λ x. g x && f x) xs)
    go true ys e = ap (λ b. f x || b) e
    go false ys e = e

-- a test beside one that does not look at the elements
any-and : {X : Type 0} (b : Bool) (f : X → Bool) (xs : List X) → list_any (λ x. b && f x) xs ≡ (b && list_any f xs)
any-and true f xs = refl
any-and false f [] = refl
any-and false f (x ∷ xs) = any-and false f xs

-- the choices of lists, one of them in the middle innermost
any-parts : {X : Type 0} (f : List X → Bool) (xss : List (List X)) (ys : List X) (zss : List (List X)) → list_any f (product (xss ++ (ys ∷ zss))) ≡ list_any (λ a. list_any (λ b. list_any (λ q. f (a ++ (q ∷ b))) ys) (product zss)) (product xss)
any-parts f xss ys zss =
    any-product_append f xss (ys ∷ zss)
    ∙ any-same _ _ (λ a. any-product (λ d. f (a ++ d)) ys zss ∙ any-swap (λ q b. f (a ++ (q ∷ b))) ys (product zss)) (product xss)

-- where a joined table stands
pub got-place : (ts : List ℕ) (t : ℕ) → is_among t ts ≡ true → slice_get ts (place ts t) ≡ Some t
got-place [] t h = cc
got-place (u ∷ us) t h = go (got-place us t) (cases_Bool (u == t))
  where
    go : (is_among t us ≡ true → slice_get us (place us t) ≡ Some t) → (u == t) ≡ true ⊎ (u == t) ≡ false → slice_get (u ∷ us) (cond (u == t) 0 (place us t + 1)) ≡ Some t
    go ih (inl e) = ap (λ b. slice_get (u ∷ us) (cond b 0 (place us t + 1))) e ∙ ap Some (eqb-true u t e)
    go ih (inr e) =
        let n : place us t + 1 ≡ suc (place us t) = omega arith in
        ap (λ b. slice_get (u ∷ us) (cond b 0 (place us t + 1))) e ∙ ap (slice_get (u ∷ us)) n
        ∙ ih (ap (λ b. b || is_among t us) (sym e) ∙ h)

-- ---- ids

-- a row is told by its id
abbrev pub ToldBy : Placed → List Placed → Type 0
ToldBy p rows = Each (λ (q : Placed). q.id ≡ p.id → q ≡ p) rows

each-at : {X : Type 0} (P : X → Type 0) (x : X) (xs : List X) → In x xs → Each P xs → P x
each-at P x [] h k = absurd h
each-at P x (y ∷ ys) (inl e) k = subst P (sym e) k.0
each-at P x (y ∷ ys) (inr h) k = each-at P x ys h k.1

-- where ids rise
pub told : (p : Placed) (rows : List Placed) → In p rows → Rising rows → ToldBy p rows
told p [] h r = tt
told p (x ∷ xs) (inl e) r = (λ _. sym e, each-weaker (λ (q : Placed). x.id < q.id) (λ (q : Placed). q.id ≡ p.id → q ≡ p) (λ (q : Placed) l k. absurd (omega (arith, l, k, ap (λ (y : Placed). y.id) e))) xs r.0)
told p (x ∷ xs) (inr h) r = (λ k. absurd (omega (arith, each-at (λ (q : Placed). x.id < q.id) p xs h r.0, k)), told p xs h r.1)

-- the one row that has an id
pub only-one : (f : Placed → Bool) (p : Placed) (rows : List Placed) → In p rows → ToldBy p rows → list_any (λ (q : Placed). f q && (q.id == p.id)) rows ≡ f p
only-one f p rows h told = go (cases_Bool (f p))
  where
    none : f p ≡ false → (qs : List Placed) → ToldBy p qs → list_any (λ (q : Placed). f q && (q.id == p.id)) qs ≡ false
    none n [] k = refl
    none n (q ∷ qs) k = ap₂ (λ a b. a || b) (one (eqb_tells q.id p.id)) (none n qs k.1)
      where
        last : (b : Bool) → (b && false) ≡ false
        last true = refl
        last false = refl

        one : ((q.id == p.id) ≡ true) × (q.id ≡ p.id) ⊎ ((q.id == p.id) ≡ false) × (q.id ≢ p.id) → (f q && (q.id == p.id)) ≡ false
        one (inl e) = ap (λ b. b && (q.id == p.id)) (ap f (k.0 e.1) ∙ n)
        one (inr e) = ap (λ b. f q && b) e.0 ∙ last (f q)

    go : (f p ≡ true) ⊎ (f p ≡ false) → list_any (λ (q : Placed). f q && (q.id == p.id)) rows ≡ f p
    go (inl t) = in-any (λ (q : Placed). f q && (q.id == p.id)) p rows h (ap₂ (λ a b. a && b) t (eq-eqb p.id p.id refl)) ∙ sym t
    go (inr n) = none n rows told ∙ sym n

-- ---- a case's body

-- what a case reads at a join row, its body reads at the host's choice and the other rows
pub reads-case : (s : Setting) (a b e : Env) (p : Placed) (k v : ℕ) → length a ≡ k → v < length e → row_at e v ≡ p → Reads s (a ++ (p ∷ b)) (e ++ (a ++ b)) any_atom any_id (renumbered (case_number k v (length e))) (case_number k v (length e))
reads-case s a b e p k v h l at = record {
  atoms = λ c x t. atom c x;
  ids = λ c i t. ap (λ (r : Placed). r.id) (row c i (eqb_tells i k));
}
  where
    row : (c : Env) (i : ℕ) → ((i == k) ≡ true) × (i ≡ k) ⊎ ((i == k) ≡ false) × (i ≢ k) → row_at ((a ++ (p ∷ b)) ++ c) i ≡ row_at ((e ++ (a ++ b)) ++ c) (case_number k v (length e) i)
    row c i (inl t) =
        ap (λ l. row_at l i) (append_assoc a (p ∷ b) c) ∙ get_or_at a p (b ++ c) no_row i (h ∙ sym t.1)
        ∙ sym at ∙ sym (row-before e ((a ++ b) ++ c) v l) ∙ ap (λ l. row_at l v) (sym (append_assoc e (a ++ b) c))
        ∙ ap (λ w. row_at ((e ++ (a ++ b)) ++ c) (cond w v (length e + below k i))) (sym t.0)
    row c i (inr t) =
        let n : length e + below k i - length e ≡ below k i = omega arith in
        ap (λ l. row_at l i) (append_assoc a (p ∷ b) c) ∙ row-below a (b ++ c) p k i h t.1
        ∙ ap (λ l. row_at l (below k i)) (sym (append_assoc a b c))
        ∙ ap (row_at ((a ++ b) ++ c)) (sym n)
        ∙ sym (row-after e ((a ++ b) ++ c) (length e + below k i) (omega arith))
        ∙ ap (λ l. row_at l (length e + below k i)) (sym (append_assoc e (a ++ b) c))
        ∙ ap (λ w. row_at ((e ++ (a ++ b)) ++ c) (cond w v (length e + below k i))) (sym t.0)

    atom : (c : Env) (x : Atom) → value_of s ((a ++ (p ∷ b)) ++ c) x ≡ value_of s ((e ++ (a ++ b)) ++ c) (renumbered (case_number k v (length e)) x)
    atom c (Int n) = refl
    atom c (Text t) = refl
    atom c (Param n) = refl
    atom c (Fresh n) = refl
    atom c (Col i col) = ap (λ (r : Placed). value_at r col) (row c i (eqb_tells i k))

module _ (s : Setting) (side : Side) (j : ℕ) (st : State) (sh : Shows s side j st) (join : Join) (t : ℕ) where
  -- the join's tables before and behind the table
  abbrev before : List ℕ
  before = take (place (tables_of join) t) (tables_of join)

  abbrev behind : List ℕ
  behind = drop (place (tables_of join) t + 1) (tables_of join)

  abbrev rows : List ℕ → List Env
  rows ts = product (map (rows_of st) ts)

  -- some join row with p meets the join and a test
  abbrev some : Placed → (Env → Bool) → Bool
  some p f = list_any (λ a. list_any (λ b. meets (tables_of join) join.more (a ++ (p ∷ b)) && f (a ++ (p ∷ b))) (rows behind)) (rows before)

  parts : is_among t (tables_of join) ≡ true → (tables_of join ≡ before ++ (t ∷ behind)) × (length before ≡ place (tables_of join) t)
  parts among = parts-at (tables_of join) (place (tables_of join) t) t (got-place (tables_of join) t among)

  before-lengths : is_among t (tables_of join) ≡ true → Each (λ a. length a ≡ place (tables_of join) t) (rows before)
  before-lengths among =
      subst (λ n. Each (λ a. length a ≡ n) (rows before)) (length-map before (rows_of st) ∙ (parts among).1) (product_lengths (map (rows_of st) before))

  -- a case's body is met where some join row with the variable's row meets the case
  pub case-met : is_among t (tables_of join) ≡ true → (e : Env) (p : Placed) (v : ℕ) → v < length e → row_at e v ≡ p → (cs : List Cmp) → is_met s e (case_body side j join t v (length e) cs) ≡ some p (λ x. case_true s.given (tables_of join) x cs)
  case-met among e p v l at cs =
      ap (list_any test) (join_choices s side j st sh (before ++ behind) ∙ ap product (map-append (rows_of st) before behind))
      ∙ any-product_append test (map (rows_of st) before) (map (rows_of st) behind)
      ∙ any-each _ _ (rows before) (each-weaker _ _ (λ a len. any-same _ _ (λ b. cell a b len) (rows behind)) (rows before) (before-lengths among))
    where
      test : Env → Bool
      test c = lits_true s (e ++ c) (case_body side j join t v (length e) cs).lits

      cell : (a b : Env) → length a ≡ place (tables_of join) t → lits_true s (e ++ (a ++ b)) (case_body side j join t v (length e) cs).lits ≡ (meets (tables_of join) join.more (a ++ (p ∷ b)) && case_true s.given (tables_of join) (a ++ (p ∷ b)) cs)
      cell a b len =
          sym (lits_with-true s any_atom any_id _ _ _ _ (reads-case s a b e p (place (tables_of join) t) v len l at) (join_lits (tables_of join) join.more ++ case_lits (tables_of join) cs) (all-lits (join_lits (tables_of join) join.more ++ case_lits (tables_of join) cs)))
          ∙ lits-append s (a ++ (p ∷ b)) (join_lits (tables_of join) join.more) (case_lits (tables_of join) cs)
          ∙ ap₂ (λ x y. x && y) (join_lits_true s (tables_of join) join.more (a ++ (p ∷ b))) (case_lits_true s (tables_of join) cs (a ++ (p ∷ b)))

  -- a row takes part where some join row with it meets some case
  pub part-taken : is_among t (tables_of join) ≡ true → (p : Placed) → In p (rows_of st t) → ToldBy p (rows_of st t) → (cases : List (List Cmp)) → takes_part (tables_of join) (met_rows s.given st join cases) t p ≡ some p (λ x. cases_true s.given (tables_of join) x cases)
  part-taken among p h tells cases =
      any-filter has-id met (filter joined (rows (tables_of join)))
      ∙ any-filter (λ x. met x && has-id x) joined (rows (tables_of join))
      ∙ ap (λ ts. list_any (λ x. joined x && (met x && has-id x)) (product (map (rows_of st) ts))) (parts among).0
      ∙ ap (λ l. list_any (λ x. joined x && (met x && has-id x)) (product l)) (map-append (rows_of st) before (t ∷ behind))
      ∙ any-parts (λ x. joined x && (met x && has-id x)) (map (rows_of st) before) (rows_of st t) (map (rows_of st) behind)
      ∙ any-each _ _ (rows before) (each-weaker _ _ (λ a len. any-same _ _ (λ b. cell a b len) (rows behind)) (rows before) (before-lengths among))
    where
      has-id : Env → Bool
      has-id x = (row_at x (place (tables_of join) t)).id == p.id

      joined : Env → Bool
      joined x = meets (tables_of join) join.more x

      met : Env → Bool
      met x = cases_true s.given (tables_of join) x cases

      cell : (a b : Env) → length a ≡ place (tables_of join) t → list_any (λ q. joined (a ++ (q ∷ b)) && (met (a ++ (q ∷ b)) && has-id (a ++ (q ∷ b)))) (rows_of st t) ≡ (joined (a ++ (p ∷ b)) && met (a ++ (p ∷ b)))
      cell a b len =
          any-same _ _ (λ q. ap (λ (r : Placed). joined (a ++ (q ∷ b)) && (met (a ++ (q ∷ b)) && (r.id == p.id))) (get_or_at a q b no_row (place (tables_of join) t) len) ∙ go (joined (a ++ (q ∷ b))) (met (a ++ (q ∷ b))) (q.id == p.id)) (rows_of st t)
          ∙ only-one (λ q. joined (a ++ (q ∷ b)) && met (a ++ (q ∷ b))) p (rows_of st t) h tells
        where
          go : (x y z : Bool) → (x && (y && z)) ≡ ((x && y) && z)
          go true y z = refl
          go false y z = refl

  some-case : (x : Env) (cases : List (List Cmp)) → list_any (λ cs. case_true s.given (tables_of join) x cs) cases ≡ cases_true s.given (tables_of join) x cases
  some-case x [] = refl
  some-case x (c ∷ cs) = ap (λ b. case_true s.given (tables_of join) x c || b) (some-case x cs)

  -- a row takes part in the join rows that meet a condition exactly where the body of some case is met at a variable that has the row
  pub taking-part : is_among t (tables_of join) ≡ true → (e : Env) (p : Placed) (v : ℕ) → v < length e → row_at e v ≡ p → In p (rows_of st t) → ToldBy p (rows_of st t) → (cases : List (List Cmp)) → takes_part (tables_of join) (met_rows s.given st join cases) t p ≡ list_any (λ cs. is_met s e (case_body side j join t v (length e) cs)) cases
  taking-part among e p v l at h tells cases =
      part-taken among p h tells cases
      ∙ any-same _ _ (λ a. any-same _ _ (λ b. ap (λ z. meets (tables_of join) join.more (a ++ (p ∷ b)) && z) (sym (some-case (a ++ (p ∷ b)) cases)) ∙ sym (any-and (meets (tables_of join) join.more (a ++ (p ∷ b))) (λ cs. case_true s.given (tables_of join) (a ++ (p ∷ b)) cs) cases)) (rows behind) ∙ any-swap (λ b cs. meets (tables_of join) join.more (a ++ (p ∷ b)) && case_true s.given (tables_of join) (a ++ (p ∷ b)) cs) (rows behind) cases) (rows before)
      ∙ any-swap (λ a cs. list_any (λ b. meets (tables_of join) join.more (a ++ (p ∷ b)) && case_true s.given (tables_of join) (a ++ (p ∷ b)) cs) (rows behind)) (rows before) cases
      ∙ any-same _ _ (λ cs. sym (case-met among e p v l at cs)) cases
