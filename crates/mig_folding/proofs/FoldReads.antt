-- What a folded host reads: at rows that join, with equal outputs on both sides, what the host read.
use Rattle.std.proofs.Common.{◌≡◌, ℕ, suc, ◌+◌, Bool, true, false, cond, not, ◌&&◌, ◌||◌, List, [], ◌∷◌, ◌++◌, map, length, refl, sym, ap, ◌∙◌, arith, inl, inr, ◌⊎◌, append_assoc, append-nil}
use Rattle.std.specs.Prelude.{slice_index_or}
use Rattle.std.specs.List.{list_all, list_any}
use Rattle.std.proofs.lemmas.Bool.{cases_Bool, and_parts, and_from, not-true}
use Rattle.std.proofs.lemmas.List.{get_or-append-add}
use Rattle.mig_schema.specs.declared.faults.Side.TheVariants.{Old}
use Rattle.mig_schema.specs.declared.tables.ColId.{ColId}
use Rattle.mig_schema.specs.declared.programs.Join.{Join}
use Rattle.mig_schema.specs.declared.programs.Joined.{Joined}
use Rattle.mig_schema.specs.declared.programs.Op.TheVariants.{Eq, Ne, Lt, Le, Gt, Ge}
use Rattle.mig_schema.specs.Joins.{tables_of, is_among, in_one_class}
use Rattle.mig_meaning.specs.declared.states.Placed.{Placed}
use Rattle.mig_meaning.specs.declared.relating.View.{View}
use Rattle.mig_meaning.specs.Lists.{place, has, In, Each, AllDifferent}
use Rattle.mig_meaning.specs.Values.{value_eq}
use Rattle.mig_meaning.specs.Rows.{value_at, column_in, meets}
use Rattle.mig_meaning.proofs.Bags.{value_eq-refl}
use Rattle.mig_algebra.specs.declared.atoms.Var.{Var}
use Rattle.mig_algebra.specs.declared.atoms.Atom.{Atom}
use Rattle.mig_algebra.specs.declared.atoms.Atom.TheVariants.{Int, Text, Param, Fresh, Col}
use Rattle.mig_algebra.specs.declared.literals.Lit.{Lit, Cmp, Other, Any'}
use Rattle.mig_algebra.specs.Meaning.{Setting, Env, value_of, row_at, lit_true, lits_true}
use Rattle.mig_algebra.specs.Obligations.{var_of, join_lits}
use Rattle.mig_algebra.specs.Rename.{lit_with, renumbered}
use Rattle.mig_algebra.specs.Tidied.{slots, numbers_of, vars_of}
use Rattle.mig_algebra.proofs.Slots.{place-in}
use Rattle.mig_algebra.proofs.Truth.{Reads, lits_with-true}
use Rattle.mig_algebra.proofs.Without.{any_atom}
use Rattle.mig_algebra.proofs.Moved.{any_id, all-lits}
use Rattle.mig_algebra.proofs.Obliged.{join_lits_true}
use Rattle.mig_classes.specs.Given.{given}
use Rattle.mig_folding.specs.Folding.{Numbered, Fold, moved, old_column, column_of, join_given, is_named, both_inner, is_inner, outer_lits, has_output, atom_folds, id_folds, image_of, added_atom, folded_atom}
use Rattle.mig_classes.proofs.Equalities.{given-equal}
use Rattle.mig_folding.proofs.JoinClasses.{class-equal}
use Rattle.mig_folding.proofs.Picked.{place-get, has-get}
use Rattle.mig_folding.proofs.FoldRows.{fold_at, others, own_rows, added-at, named-at, other-at, column-at, as-many}

-- ---- images of outputs

module _ (j : Join) (us : List ℕ) (x y : Env) (joins : meets (tables_of j) j.more x ≡ true) where
  -- a column whose class holds an output has the value of its image, at rows with equal outputs
  pub image-value : (c : ColId) (os is : List ColId) → map (column_in (tables_of j) x) os ≡ map (column_in us y) is → list_any (in_one_class j c) os ≡ true → column_in (tables_of j) x c ≡ column_in us y (image_of j os is c)
  image-value c [] is e h = cc
  image-value c (o ∷ os) [] e h = cc
  image-value c (o ∷ os) (i ∷ is) e h =
      let one : column_in (tables_of j) x o ≡ column_in us y i = cc in
      let rest : map (column_in (tables_of j) x) os ≡ map (column_in us y) is = cc in
      go one (image-value c os is rest) (cases_Bool (in_one_class j c o)) h
    where
      go : column_in (tables_of j) x o ≡ column_in us y i → (list_any (in_one_class j c) os ≡ true → column_in (tables_of j) x c ≡ column_in us y (image_of j os is c)) → (in_one_class j c o ≡ true) ⊎ (in_one_class j c o ≡ false) → (in_one_class j c o || list_any (in_one_class j c) os) ≡ true → column_in (tables_of j) x c ≡ column_in us y (cond (in_one_class j c o) i (image_of j os is c))
      go one ih (inl t) k =
          class-equal (tables_of j) x j c o joins t ∙ one ∙ ap (λ b. column_in us y (cond b i (image_of j os is c))) (sym t)
      go one ih (inr f) k =
          ih (ap (λ b. b || list_any (in_one_class j c) os) (sym f) ∙ k) ∙ ap (λ b. column_in us y (cond b i (image_of j os is c))) (sym f)

-- an image passes what all outputs of the new view pass
pub image-passes : (j : Join) (q : ColId → Bool) (c : ColId) (os is : List ColId) → length os ≡ length is → list_all q is ≡ true → list_any (in_one_class j c) os ≡ true → q (image_of j os is c) ≡ true
image-passes j q c [] is e a h = cc
image-passes j q c (o ∷ os) [] e a h = absurd (omega (arith, e))
image-passes j q c (o ∷ os) (i ∷ is) e a h =
    let k = and_parts (q i) (list_all q is) a in
    go k.0 (image-passes j q c os is (omega (arith, e)) k.1) (cases_Bool (in_one_class j c o)) h
  where
    go : q i ≡ true → (list_any (in_one_class j c) os ≡ true → q (image_of j os is c) ≡ true) → (in_one_class j c o ≡ true) ⊎ (in_one_class j c o ≡ false) → (in_one_class j c o || list_any (in_one_class j c) os) ≡ true → q (cond (in_one_class j c o) i (image_of j os is c)) ≡ true
    go one ih (inl t) k = ap (λ b. q (cond b i (image_of j os is c))) t ∙ one
    go one ih (inr f) k =
        ap (λ b. q (cond b i (image_of j os is c))) f ∙ ih (ap (λ b. b || list_any (in_one_class j c) os) (sym f) ∙ k)

same-lengths : {X Y Z : Type 0} (f : X → Z) (g : Y → Z) (xs : List X) (ys : List Y) → map f xs ≡ map g ys → length xs ≡ length ys
same-lengths f g [] [] e = refl
same-lengths f g [] (y ∷ ys) e = cc
same-lengths f g (x ∷ xs) [] e = cc
same-lengths f g (x ∷ xs) (y ∷ ys) e = let k : map f xs ≡ map g ys = cc in ap suc (same-lengths f g xs ys k)

-- ---- literals of the new join

shifted-reads : (s : Setting) (c y : Env) (n : ℕ) → length c ≡ n → Reads s y (c ++ y) any_atom any_id (renumbered (λ k. n + k)) (λ k. n + k)
shifted-reads s c y n h = record {
  atoms = λ k x t. atom k x;
  ids = λ k v t. ap (λ (r : Placed). r.id) (row k v);
}
  where
    row : (k : Env) (v : ℕ) → row_at (y ++ k) v ≡ row_at ((c ++ y) ++ k) (n + v)
    row k v = sym (get_or-append-add c (y ++ k) v _) ∙ ap (λ m. row_at (c ++ (y ++ k)) (m + v)) h ∙ ap (λ l. row_at l (n + v)) (sym (append_assoc c y k))

    atom : (k : Env) (x : Atom) → value_of s (y ++ k) x ≡ value_of s ((c ++ y) ++ k) (renumbered (λ j. n + j) x)
    atom k (Int i) = refl
    atom k (Text t) = refl
    atom k (Param q) = refl
    atom k (Fresh q) = refl
    atom k (Col v col) = ap (λ (r : Placed). value_at r col) (row k v)

-- the new join's equalities are true where its rows join
pub joined-true : (s : Setting) (c y : Env) (n : ℕ) (ts : List ℕ) (ms : List Joined) → length c ≡ n → lits_true s (c ++ y) (map (lit_with (renumbered (λ k. n + k)) (λ k. n + k)) (join_lits ts ms)) ≡ meets ts ms y
joined-true s c y n ts ms h =
    sym (lits_with-true s any_atom any_id (renumbered (λ k. n + k)) (λ k. n + k) y (c ++ y) (shifted-reads s c y n h) (join_lits ts ms) (all-lits (join_lits ts ms)))
    ∙ join_lits_true s ts ms y

-- ---- reading

module _ (s : Setting) (e : Env) (vars : List Var) (named : List Numbered) (source target : View) (within : Each (λ q. In q (slots (length e) vars)) named) (vs : vars_of named ≡ map (var_of Old 0) (tables_of source.join)) (once : AllDifferent (tables_of source.join)) where
  abbrev pub f : Fold
  f = fold_at e vars named source target

  -- the choice before the fold
  abbrev pub all_rows : Env → Env → Env
  all_rows c x = e ++ own_rows e vars named source target c x

  abbrev pub ts : List ℕ
  ts = tables_of source.join

  abbrev pub us : List ℕ
  us = tables_of target.join

  column-is : (c x k : Env) (v col : ℕ) → length c ≡ length (others e vars named source target) → has (numbers_of named) v ≡ true → value_at (row_at (all_rows c x ++ k) v) col ≡ column_in ts x (old_column f v col)
  column-is c x k v col lc h = column-at e vars named source target within vs once c x k v col lc h

  -- the same with no rows behind
  pub own-column : (c x : Env) (v col : ℕ) → length c ≡ length (others e vars named source target) → has (numbers_of named) v ≡ true → value_at (row_at (all_rows c x) v) col ≡ column_in ts x (old_column f v col)
  own-column c x v col lc h = ap (λ r. value_at (row_at r v) col) (sym (append-nil (all_rows c x))) ∙ column-is c x [] v col lc h

  -- ---- inner literals

  both-true : (c x : Env) → length c ≡ length (others e vars named source target) → meets ts source.join.more x ≡ true → (a b : Atom) → both_inner f a b ≡ true → value_eq (value_of s (all_rows c x) a) (value_of s (all_rows c x) b) ≡ true
  both-true c x lc m (Col v i) (Col w j) h =
      let k = and_parts (is_named f v) (is_named f w && in_one_class source.join (old_column f v i) (old_column f w j)) h in
      let l = and_parts (is_named f w) (in_one_class source.join (old_column f v i) (old_column f w j)) k.1 in
      let same : value_of s (all_rows c x) (Col v i) ≡ value_of s (all_rows c x) (Col w j) = own-column c x v i lc k.0 ∙ class-equal ts x source.join (old_column f v i) (old_column f w j) m l.1 ∙ sym (own-column c x w j lc l.0) in
      ap (λ z. value_eq z (value_of s (all_rows c x) (Col w j))) same ∙ value_eq-refl (value_of s (all_rows c x) (Col w j))
  both-true c x lc m _ _ h = cc

  inner-true : (c x : Env) → length c ≡ length (others e vars named source target) → meets ts source.join.more x ≡ true → (l : Lit) → is_inner f l ≡ true → lit_true s (all_rows c x) l ≡ true
  inner-true c x lc m (Cmp Eq a b) h = both-true c x lc m a b h
  inner-true c x lc m (Cmp Ne a b) h = cc
  inner-true c x lc m (Cmp Lt a b) h = cc
  inner-true c x lc m (Cmp Le a b) h = cc
  inner-true c x lc m (Cmp Gt a b) h = cc
  inner-true c x lc m (Cmp Ge a b) h = cc
  inner-true c x lc m (Other a b) h = cc
  inner-true c x lc m (Any' held vs' n lits) h = cc

  -- inner literals may be dropped where the rows join
  pub outer-true : (c x : Env) → length c ≡ length (others e vars named source target) → meets ts source.join.more x ≡ true → (ls : List Lit) → lits_true s (all_rows c x) (outer_lits f ls) ≡ lits_true s (all_rows c x) ls
  outer-true c x lc m [] = refl
  outer-true c x lc m (l ∷ ls) = go (cases_Bool (is_inner f l)) (outer-true c x lc m ls)
    where
      go : (is_inner f l ≡ true) ⊎ (is_inner f l ≡ false) → lits_true s (all_rows c x) (outer_lits f ls) ≡ lits_true s (all_rows c x) ls → lits_true s (all_rows c x) (cond (not (is_inner f l)) (l ∷ outer_lits f ls) (outer_lits f ls)) ≡ (lit_true s (all_rows c x) l && lits_true s (all_rows c x) ls)
      go (inl t) ih =
          ap (λ b. lits_true s (all_rows c x) (cond (not b) (l ∷ outer_lits f ls) (outer_lits f ls))) t ∙ ih
          ∙ sym (ap (λ b. b && lits_true s (all_rows c x) ls) (inner-true c x lc m l t))
      go (inr n) ih =
          ap (λ b. lits_true s (all_rows c x) (cond (not b) (l ∷ outer_lits f ls) (outer_lits f ls))) n
          ∙ ap (λ b. lit_true s (all_rows c x) l && b) ih

  -- ---- given equalities

  module _ (apart : AllDifferent (numbers_of named)) where
    -- a column of the old view's join by the named variables
    atom-is : (c x : Env) (col : ColId) → length c ≡ length (others e vars named source target) → is_among col.table ts ≡ true → value_of s (all_rows c x) (column_of source.join (numbers_of named) col) ≡ column_in ts x col
    atom-is c x col lc h =
        let i = place ts col.table in
        let l = place-in ts col.table h in
        let n = as-many e vars named source target within vs once in
        let v = slice_index_or (numbers_of named) i 0 in
        let p : place (numbers_of named) v ≡ i = place-get (numbers_of named) apart i (omega (arith, l, n)) in
        ap (λ r. value_at (row_at r v) col.column) (sym (append-nil (all_rows c x)))
        ∙ ap (λ r. value_at r col.column) (named-at e vars named source target within c x [] v lc (has-get (numbers_of named) i (omega (arith, l, n))) ∙ ap (row_at x) p)

    meets-each : (c x : Env) (scope : List Var) (known : List Lit) → length c ≡ length (others e vars named source target) → lits_true s (all_rows c x) known ≡ true → (ms : List Joined) → list_all (λ (m : Joined). given scope known Eq (column_of source.join (numbers_of named) m.left) (column_of source.join (numbers_of named) m.right)) ms ≡ true → list_all (λ (m : Joined). is_among m.left.table ts && is_among m.right.table ts) ms ≡ true → meets ts ms x ≡ true
    meets-each c x scope known lc truth [] h k = refl
    meets-each c x scope known lc truth (m ∷ ms) h k =
        let a = and_parts (given scope known Eq (column_of source.join (numbers_of named) m.left) (column_of source.join (numbers_of named) m.right)) (list_all (λ (m : Joined). given scope known Eq (column_of source.join (numbers_of named) m.left) (column_of source.join (numbers_of named) m.right)) ms) h in
        let b = and_parts (is_among m.left.table ts && is_among m.right.table ts) (list_all (λ (m : Joined). is_among m.left.table ts && is_among m.right.table ts) ms) k in
        let d = and_parts (is_among m.left.table ts) (is_among m.right.table ts) b.0 in
        let same : column_in ts x m.left ≡ column_in ts x m.right = sym (atom-is c x m.left lc d.0) ∙ given-equal s (all_rows c x) known truth scope (column_of source.join (numbers_of named) m.left) (column_of source.join (numbers_of named) m.right) a.0 ∙ atom-is c x m.right lc d.1 in
        and_from (value_eq (column_in ts x m.left) (column_in ts x m.right)) (meets ts ms x)
        (ap (λ z. value_eq z (column_in ts x m.right)) same ∙ value_eq-refl (column_in ts x m.right))
        (meets-each c x scope known lc truth ms a.1 b.1)

    -- where what is known is true, the named rows join
    pub named-meet : (c x : Env) (scope : List Var) (known : List Lit) → length c ≡ length (others e vars named source target) → lits_true s (all_rows c x) known ≡ true → join_given f scope known ≡ true → list_all (λ (m : Joined). is_among m.left.table ts && is_among m.right.table ts) source.join.more ≡ true → meets ts source.join.more x ≡ true
    named-meet c x scope known lc truth h k = meets-each c x scope known lc truth source.join.more h k

  -- ---- atoms

  -- at rows that join, with equal outputs, the folded atoms read what the atoms read
  pub fold-reads : (c x y : Env) → length c ≡ length (others e vars named source target) → length y ≡ length us → meets ts source.join.more x ≡ true → map (column_in ts x) source.outs ≡ map (column_in us y) target.outs → list_all (λ o. is_among o.table us) target.outs ≡ true → Reads s (all_rows c x) (e ++ (c ++ y)) (atom_folds f) (id_folds f) (folded_atom f) (moved f)
  fold-reads c x y lc ly m same outs = record {
    atoms = λ k a h. atom k a h;
    ids = λ k v h. ap (λ (r : Placed). r.id) (other-at e vars named source target within c x y k v lc ly (not-true (has (numbers_of named) v) h));
  }
    where
      column : (k : Env) (v col : ℕ) → atom_folds f (Col v col) ≡ true → (has (numbers_of named) v ≡ true) ⊎ (has (numbers_of named) v ≡ false) → value_of s (all_rows c x ++ k) (Col v col) ≡ value_of s ((e ++ (c ++ y)) ++ k) (folded_atom f (Col v col))
      column k v col h (inl t) =
          let o = old_column f v col in
          let out : has_output f o ≡ true = ap (λ b. not b || has_output f o) (sym t) ∙ h in
          let img = image_of source.join source.outs target.outs o in
          let among : is_among img.table us ≡ true = image-passes source.join (λ o. is_among o.table us) o source.outs target.outs (same-lengths _ _ source.outs target.outs same) outs out in
          let l = place-in us img.table among in
          column-is c x k v col lc t
          ∙ image-value source.join us x y m o source.outs target.outs same out
          ∙ ap (λ r. value_at r img.column) (sym (added-at e vars named source target c y k (place us img.table) lc (omega (arith, l, ly))))
          ∙ ap (λ b. value_of s ((e ++ (c ++ y)) ++ k) (cond b (added_atom f img) (Col (moved f v) col))) (sym t)
      column k v col h (inr n) =
          ap (λ r. value_at r col) (other-at e vars named source target within c x y k v lc ly n)
          ∙ ap (λ b. value_of s ((e ++ (c ++ y)) ++ k) (cond b (added_atom f (image_of source.join source.outs target.outs (old_column f v col))) (Col (moved f v) col))) (sym n)

      atom : (k : Env) (a : Atom) → atom_folds f a ≡ true → value_of s (all_rows c x ++ k) a ≡ value_of s ((e ++ (c ++ y)) ++ k) (folded_atom f a)
      atom k (Int i) h = refl
      atom k (Text t) h = refl
      atom k (Param q) h = refl
      atom k (Fresh q) h = refl
      atom k (Col v col) h = column k v col h (cases_Bool (has (numbers_of named) v))
