-- A fold leads from what fits to what fits.
use Rattle.std.proofs.Common.{◌≡◌, ℕ, ◌+◌, ◌<◌, ◌≤◌, Bool, true, false, cond, not, ◌&&◌, ◌||◌, List, [], ◌∷◌, ◌++◌, map, length, Some, None, refl, sym, ap, ap₂, ◌∙◌, arith, inl, inr, ⊎_elim, ◌⊎◌, subst, append_assoc}
use Rattle.std.specs.Prelude.{filter, slice_get, slice_index_or}
use Rattle.std.specs.List.{list_all, list_any}
use Rattle.std.proofs.lemmas.Bool.{cases_Bool, and_parts, and_from, not-true, lt-ltb}
use Rattle.std.proofs.lemmas.List.Folds.{list_all-append}
use Rattle.std.proofs.lemmas.Option.{slice_get-get_or, slice_get_cases}
use Rattle.mig_schema.specs.declared.faults.Side.TheVariants.{Old, New}
use Rattle.mig_schema.specs.declared.tables.ColId.{ColId}
use Rattle.mig_schema.specs.declared.tables.Column.{Column}
use Rattle.mig_schema.specs.declared.tables.Kind.{Kind}
use Rattle.mig_schema.specs.declared.tables.Schema.{Schema}
use Rattle.mig_schema.specs.declared.programs.Join.{Join}
use Rattle.mig_schema.specs.declared.programs.Joined.{Joined}
use Rattle.mig_schema.specs.Columns.{has_table, has_column, columns_of, kind_of, no_column, same_col, same_kind}
use Rattle.mig_schema.specs.Joins.{tables_of, leader, in_one_class, is_among, all_join_on}
use Rattle.mig_schema.specs.Typed.{stands_twice}
use Rattle.mig_meaning.specs.declared.relating.View.{View}
use Rattle.mig_meaning.specs.declared.relating.Invariant.TheVariants.{Views}
use Rattle.mig_meaning.specs.Lists.{place, has, Each}
use Rattle.mig_algebra.specs.declared.atoms.Var.{Var}
use Rattle.mig_algebra.specs.declared.atoms.Atom.{Atom}
use Rattle.mig_algebra.specs.declared.atoms.Atom.TheVariants.{Int, Text, Param, Fresh, Col}
use Rattle.mig_algebra.specs.declared.literals.Inner.{Inner}
use Rattle.mig_algebra.specs.declared.literals.Lit.{Lit}
use Rattle.mig_algebra.specs.declared.terms.Term.{Term}
use Rattle.mig_algebra.specs.Obligations.{var_of, join_lits}
use Rattle.mig_algebra.specs.Rename.{lit_with, renumbered}
use Rattle.mig_algebra.specs.Proper.{Sides, last_stage, var_fits, column_kind, atom_kind, other_fits, lit_fits, lit_oriented, IsProperTerm}
use Rattle.mig_algebra.specs.Tidied.{slots, vars_of}
use Rattle.mig_algebra.proofs.Lists.{each-all}
use Rattle.mig_algebra.proofs.Slots.{place-in, vars-slots}
use Rattle.mig_algebra.proofs.Without.{any_atom}
use Rattle.mig_algebra.proofs.Moved.{any_id, all-lits}
use Rattle.mig_algebra.proofs.RenamedFits.{Fits, others_fit, lits_with-fit, lits_with-oriented, head_with-kinds}
use Rattle.mig_algebra.proofs.Ranges.{JoinFits, equalities-fit}
use Rattle.mig_algebra.proofs.ObligedFits.{vars-in-range, joined-kind, join-lits-fit}
use Rattle.mig_replacing.specs.Replaced.{FitIn}
use Rattle.mig_replacing.specs.Given.{plain}
use Rattle.mig_obligations.specs.Shaped.{join_shaped, view_shaped, same_kinds, is_shaped}
use Rattle.mig_steps.proofs.SameKinds.{other-numbers, same-kind}
use Rattle.mig_folding.proofs.Shifted.{fits-shifted, kinds-lengths}
use Rattle.mig_folding.specs.Folding.{Numbered, Fold, are_named, join_given, old_tables, new_tables, staying, moved, first_added, old_column, has_output, outer_lits, is_inner, lits_fold, host_folds, atom_folds, id_folds, image_of, added_atom, folded_atom, folded_vars, folded_lits, term_fold, folded, fold_of, body_fold, foldin_of}
use Rattle.mig_folding.proofs.FoldHosts.{MayFold}
use Rattle.mig_folding.proofs.JoinClasses.{same_col-true}
use Rattle.mig_folding.proofs.FoldReads.{image-passes}
use Rattle.mig_folding.proofs.FoldScopes.{get-moved, get-added, get-named, moved-apart, long}

-- ---- views of the right shape

columns-in : (s : Schema) (ms : List Joined) → list_all (λ (m : Joined). has_column s m.left && has_column s m.right) ms ≡ true → Each (λ (m : Joined). Each (λ c. has_column s c ≡ true) (m.left ∷ (m.right ∷ []))) ms
columns-in s [] h = tt
columns-in s (m ∷ ms) h =
    let k = and_parts (has_column s m.left && has_column s m.right) (list_all (λ (m : Joined). has_column s m.left && has_column s m.right) ms) h in
    let l = and_parts (has_column s m.left) (has_column s m.right) k.0 in
    ((l.0, (l.1, tt)), columns-in s ms k.1)

module _ (s : Schema) (j : Join) (h : join_shaped s j ≡ true) where
  first-parts : (list_all (has_table s) (tables_of j) ≡ true) × ((list_all (λ (m : Joined). has_column s m.left && has_column s m.right) j.more && (not (stands_twice (tables_of j)) && all_join_on s (j.first ∷ []) j.more)) ≡ true)
  first-parts = and_parts (list_all (has_table s) (tables_of j)) _ h

  second-parts : (list_all (λ (m : Joined). has_column s m.left && has_column s m.right) j.more ≡ true) × ((not (stands_twice (tables_of j)) && all_join_on s (j.first ∷ []) j.more) ≡ true)
  second-parts = and_parts (list_all (λ (m : Joined). has_column s m.left && has_column s m.right) j.more) _ first-parts.1

  third-parts : (not (stands_twice (tables_of j)) ≡ true) × (all_join_on s (j.first ∷ []) j.more ≡ true)
  third-parts = and_parts (not (stands_twice (tables_of j))) (all_join_on s (j.first ∷ []) j.more) second-parts.1

  -- the equalities of a join
  equalities : Each (JoinFits s (tables_of j)) j.more
  equalities = equalities-fit s (j.first ∷ []) j.more (tables_of j) refl third-parts.1 (columns-in s j.more second-parts.0)

joined-among : (s : Schema) (ts : List ℕ) (ms : List Joined) → Each (JoinFits s ts) ms → list_all (λ (m : Joined). is_among m.left.table ts && is_among m.right.table ts) ms ≡ true
joined-among s ts [] e = refl
joined-among s ts (m ∷ ms) e =
    and_from (is_among m.left.table ts && is_among m.right.table ts) (list_all (λ (m : Joined). is_among m.left.table ts && is_among m.right.table ts) ms)
    (and_from (is_among m.left.table ts) (is_among m.right.table ts) e.0.left.0 e.0.right.0) (joined-among s ts ms e.1)

only-among : (s : Schema) (ts : List ℕ) (cs : List ColId) → list_all (λ (c : ColId). has_column s c && is_among c.table ts) cs ≡ true → list_all (λ (c : ColId). is_among c.table ts) cs ≡ true
only-among s ts [] h = refl
only-among s ts (c ∷ cs) h =
    let k = and_parts (has_column s c && is_among c.table ts) (list_all (λ (c : ColId). has_column s c && is_among c.table ts) cs) h in
    and_from (is_among c.table ts) (list_all (λ (c : ColId). is_among c.table ts) cs) (and_parts (has_column s c) (is_among c.table ts) k.0).1 (only-among s ts cs k.1)

-- such a view may fold
pub may-fold : (s s' : Schema) (source target : View) → is_shaped s s' (Views source target) ≡ true → MayFold source target
may-fold s s' source target h =
    let k = and_parts (view_shaped s source) (view_shaped s' target && same_kinds s s' source.outs target.outs) h in
    let l = and_parts (view_shaped s' target) (same_kinds s s' source.outs target.outs) k.1 in
    let a = and_parts (join_shaped s source.join) (list_all (λ (c : ColId). has_column s c && is_among c.table (tables_of source.join)) source.outs) k.0 in
    let b = and_parts (join_shaped s' target.join) (list_all (λ (c : ColId). has_column s' c && is_among c.table (tables_of target.join)) target.outs) l.0 in
    record {
      once = not-true (stands_twice (tables_of source.join)) (third-parts s source.join a.0).0;
      joined = joined-among s (tables_of source.join) source.join.more (equalities s source.join a.0);
      outs = only-among s' (tables_of target.join) target.outs b.1;
    }

-- ---- kinds of classes

module _ (s : Schema) where
  leader-kind : (ts : List ℕ) (ms : List Joined) → Each (JoinFits s ts) ms → (c : ColId) → kind_of s (leader ms c) ≡ kind_of s c
  leader-kind ts [] e c = refl
  leader-kind ts (m ∷ ms) e c = go (leader-kind ts ms e.1) (same-kind (kind_of s m.left) (kind_of s m.right) e.0.kinds) (cases_Bool (same_col (leader ms c) (leader ms m.right)))
    where
      go : ((d : ColId) → kind_of s (leader ms d) ≡ kind_of s d) → kind_of s m.left ≡ kind_of s m.right → (same_col (leader ms c) (leader ms m.right) ≡ true) ⊎ (same_col (leader ms c) (leader ms m.right) ≡ false) → kind_of s (cond (same_col (leader ms c) (leader ms m.right)) (leader ms m.left) (leader ms c)) ≡ kind_of s c
      go ih q (inl t) =
          ap (λ b. kind_of s (cond b (leader ms m.left) (leader ms c))) t ∙ ih m.left ∙ q ∙ sym (ih m.right)
          ∙ ap (kind_of s) (sym (same_col-true (leader ms c) (leader ms m.right) t)) ∙ ih c
      go ih q (inr n) = ap (λ b. kind_of s (cond b (leader ms m.left) (leader ms c))) n ∙ ih c

  -- columns of one class have one kind
  pub class-kind : (j : Join) → Each (JoinFits s (tables_of j)) j.more → (a b : ColId) → in_one_class j a b ≡ true → kind_of s a ≡ kind_of s b
  class-kind j e a b h =
      sym (leader-kind (tables_of j) j.more e a) ∙ ap (kind_of s) (same_col-true (leader j.more a) (leader j.more b) h) ∙ leader-kind (tables_of j) j.more e b

  -- so has the image
  pub image-kind : (s' : Schema) (j : Join) → Each (JoinFits s (tables_of j)) j.more → (c : ColId) (os is : List ColId) → same_kinds s s' os is ≡ true → list_any (in_one_class j c) os ≡ true → kind_of s' (image_of j os is c) ≡ kind_of s c
  image-kind s' j e c [] is h a = cc
  image-kind s' j e c (o ∷ os) [] h a = cc
  image-kind s' j e c (o ∷ os) (i ∷ is) h a =
      let k = and_parts (same_kind (kind_of s o) (kind_of s' i)) (same_kinds s s' os is) h in
      go (same-kind (kind_of s o) (kind_of s' i) k.0) (image-kind s' j e c os is k.1) (cases_Bool (in_one_class j c o)) a
    where
      go : kind_of s o ≡ kind_of s' i → (list_any (in_one_class j c) os ≡ true → kind_of s' (image_of j os is c) ≡ kind_of s c) → (in_one_class j c o ≡ true) ⊎ (in_one_class j c o ≡ false) → (in_one_class j c o || list_any (in_one_class j c) os) ≡ true → kind_of s' (cond (in_one_class j c o) i (image_of j os is c)) ≡ kind_of s c
      go one ih (inl t) b = ap (λ q. kind_of s' (cond q i (image_of j os is c))) t ∙ sym one ∙ sym (class-kind j e c o t)
      go one ih (inr f) b = ap (λ q. kind_of s' (cond q i (image_of j os is c))) f ∙ ih (ap (λ q. q || list_any (in_one_class j c) os) (sym f) ∙ b)

-- a column's kind, where it has one
kind-read : (p : Sides) (t c : ℕ) (k : Kind) → column_kind p (Some (var_of Old 0 t)) c ≡ Some k → kind_of p.source (record { table = t; column = c }) ≡ k
kind-read p t c k e = ⊎_elim there missing (slice_get_cases (columns_of p.source t) c).1
  where
    there : (x : Column) × (c < length (columns_of p.source t)) × (slice_get (columns_of p.source t) c ≡ Some x) × (slice_index_or (columns_of p.source t) c x ≡ x) → kind_of p.source (record { table = t; column = c }) ≡ k
    there q =
        let g = slice_get-get_or (columns_of p.source t) c no_column q.1 in
        let here : column_kind p (Some (var_of Old 0 t)) c ≡ Some (kind_of p.source (record { table = t; column = c })) = rw g refl in
        let both : Some (kind_of p.source (record { table = t; column = c })) ≡ Some k = sym here ∙ e in
        cc

    missing : (length (columns_of p.source t) ≤ c) × (slice_get (columns_of p.source t) c ≡ None) → kind_of p.source (record { table = t; column = c }) ≡ k
    missing q =
        let here : column_kind p (Some (var_of Old 0 t)) c ≡ None = rw q.1 refl in
        let bad : None ≡ Some k = sym here ∙ e in
        cc

-- ---- a folded host

all-filter : {X : Type 0} (t q : X → Bool) (xs : List X) → list_all t xs ≡ true → list_all t (filter q xs) ≡ true
all-filter t q [] h = refl
all-filter t q (x ∷ xs) h = let k = and_parts (t x) (list_all t xs) h in go (q x) k.0 (all-filter t q xs k.1)
  where
    go : (b : Bool) → t x ≡ true → list_all t (filter q xs) ≡ true → list_all t (cond b (x ∷ filter q xs) (filter q xs)) ≡ true
    go true i ih = and_from (t x) (list_all t (filter q xs)) i ih
    go false i ih = ih

both-lists : {X : Type 0} (t : X → Bool) (xs ys : List X) → list_all t xs ≡ true → list_all t ys ≡ true → list_all t (xs ++ ys) ≡ true
both-lists t xs ys h k = list_all-append t xs ys ∙ and_from (list_all t xs) (list_all t ys) h k

vars-pass : (t : Var → Bool) (ps : List Numbered) → list_all t (vars_of ps) ≡ list_all (λ (q : Numbered). t q.var) ps
vars-pass t [] = refl
vars-pass t (q ∷ qs) = ap (λ b. t q.var && b) (vars-pass t qs)

module _ (p : Sides) (f : Fold) (sc : List Var) (len : length sc ≡ f.base) (shaped : is_shaped p.source p.target (Views f.source f.target) ≡ true) (named : are_named f.base f.vars f.named (old_tables f) ≡ true) where
  olds : (view_shaped p.source f.source ≡ true) × ((view_shaped p.target f.target && same_kinds p.source p.target f.source.outs f.target.outs) ≡ true)
  olds = and_parts (view_shaped p.source f.source) _ shaped

  news : (view_shaped p.target f.target ≡ true) × (same_kinds p.source p.target f.source.outs f.target.outs ≡ true)
  news = and_parts (view_shaped p.target f.target) _ olds.1

  old-join : join_shaped p.source f.source.join ≡ true
  old-join = (and_parts (join_shaped p.source f.source.join) _ olds.0).0

  new-join : (join_shaped p.target f.target.join ≡ true) × (list_all (λ (c : ColId). has_column p.target c && is_among c.table (new_tables f)) f.target.outs ≡ true)
  new-join = and_parts (join_shaped p.target f.target.join) _ news.0

  -- folded atoms have the atoms' kinds
  pub fits-folded : Fits p (sc ++ f.vars) (sc ++ folded_vars f) (atom_folds f) (id_folds f) (folded_atom f) (moved f)
  fits-folded = record {
    atoms = λ d a k t e. atom d a k t e;
    others = λ d a b s t e. others d a b (not-true (has f.named a) s) (not-true (has f.named b) t) e;
  }
    where
      column : (d : List Var) (i c : ℕ) (k : Kind) → atom_folds f (Col i c) ≡ true → (has f.named i ≡ true) ⊎ (has f.named i ≡ false) → column_kind p (slice_get ((sc ++ f.vars) ++ d) i) c ≡ Some k → atom_kind p ((sc ++ folded_vars f) ++ d) (folded_atom f (Col i c)) ≡ Some k
      column d i c k h (inl t) e =
          let o = old_column f i c in
          let out : has_output f o ≡ true = ap (λ b. not b || has_output f o) (sym t) ∙ h in
          let img = image_of f.source.join f.source.outs f.target.outs o in
          let inside = and_parts (has_column p.target img) (is_among img.table (new_tables f)) (image-passes f.source.join (λ (z : ColId). has_column p.target z && is_among z.table (new_tables f)) o f.source.outs f.target.outs (kinds-lengths p.source p.target f.source.outs f.target.outs news.1) new-join.1 out) in
          let l = place-in (new_tables f) img.table inside.1 in
          ap (λ b. atom_kind p ((sc ++ folded_vars f) ++ d) (cond b (added_atom f img) (Col (moved f i) c))) t
          ∙ ap (λ v. column_kind p v img.column) (get-added f sc len named d (place (new_tables f) img.table) l)
          ∙ joined-kind p New 0 (new_tables f) img (inside.1, inside.0)
          ∙ ap Some (image-kind p.source p.target f.source.join (equalities p.source f.source.join old-join) o f.source.outs f.target.outs news.1 out
          ∙ kind-read p o.table c k (ap (λ v. column_kind p v c) (sym (get-named f sc len named d i t)) ∙ e))
      column d i c k h (inr n) e =
          ap (λ b. atom_kind p ((sc ++ folded_vars f) ++ d) (cond b (added_atom f (image_of f.source.join f.source.outs f.target.outs (old_column f i c))) (Col (moved f i) c))) n
          ∙ ap (λ v. column_kind p v c) (sym (get-moved f sc len named d i n)) ∙ e

      atom : (d : List Var) (a : Atom) (k : Kind) → atom_folds f a ≡ true → atom_kind p ((sc ++ f.vars) ++ d) a ≡ Some k → atom_kind p ((sc ++ folded_vars f) ++ d) (folded_atom f a) ≡ Some k
      atom d (Int i) k t e = e
      atom d (Text i) k t e = e
      atom d (Param i) k t e = e
      atom d (Fresh i) k t e = e
      atom d (Col i c) k t e = column d i c k t (cases_Bool (has f.named i)) e

      others : (d : List Var) (a b : ℕ) → has f.named a ≡ false → has f.named b ≡ false → others_fit ((sc ++ f.vars) ++ d) a b ≡ true → others_fit ((sc ++ folded_vars f) ++ d) (moved f a) (moved f b) ≡ true
      others d a b s t e =
          sym (other-numbers a b (moved f a) (moved f b) (slice_get ((sc ++ folded_vars f) ++ d) (moved f a)) (slice_get ((sc ++ folded_vars f) ++ d) (moved f b)) (moved-apart f sc len named a b s t))
          ∙ ap₂ (other_fits a b) (sym (get-moved f sc len named d a s)) (sym (get-moved f sc len named d b t)) ∙ e

  -- the variables
  pub vars-folded : list_all (var_fits p) f.vars ≡ true → list_all (var_fits p) (folded_vars f) ≡ true
  vars-folded h =
      both-lists (var_fits p) (vars_of (staying f)) (map (var_of New 0) (new_tables f))
      (vars-pass (var_fits p) (staying f) ∙ all-filter (λ (q : Numbered). var_fits p q.var) (λ q. not (has f.named q.number)) (slots f.base f.vars) (sym (vars-pass (var_fits p) (slots f.base f.vars)) ∙ ap (list_all (var_fits p)) (vars-slots f.base f.vars) ∙ h))
      (vars-in-range p New 0 (lt-ltb 0 (last_stage p New + 1) (omega arith)) (new_tables f) (each-all (has_table p.target) (new_tables f) (first-parts p.target f.target.join new-join.0).0))

  -- the literals
  pub lits-folded : (lits : List Lit) → lits_fold f lits ≡ true → FitIn p (sc ++ f.vars) lits → FitIn p (sc ++ folded_vars f) (folded_lits f lits)
  lits-folded lits folds fit = record {
    fits = both-lists (lit_fits p (sc ++ folded_vars f)) (map (lit_with (folded_atom f) (moved f)) (outer_lits f lits)) added
        (lits_with-fit p (atom_folds f) (id_folds f) (folded_atom f) (moved f) (sc ++ f.vars) (sc ++ folded_vars f) fits-folded (outer_lits f lits) folds (all-filter (lit_fits p (sc ++ f.vars)) (λ l. not (is_inner f l)) lits fit.fits))
        (lits_with-fit p any_atom any_id (renumbered (λ k. first_added f + k)) (λ k. first_added f + k) (map (var_of New 0) (new_tables f)) (sc ++ folded_vars f) behind (join_lits (new_tables f) f.target.join.more) (all-lits (join_lits (new_tables f) f.target.join.more))
        (join-lits-fit p New 0 (new_tables f) f.target.join.more (equalities p.target f.target.join new-join.0)));
    oriented = both-lists lit_oriented (map (lit_with (folded_atom f) (moved f)) (outer_lits f lits)) added
        (lits_with-oriented (folded_atom f) (moved f) (outer_lits f lits)) (lits_with-oriented (renumbered (λ k. first_added f + k)) (λ k. first_added f + k) (join_lits (new_tables f) f.target.join.more));
  }
    where
      added : List Lit
      added = map (lit_with (renumbered (λ k. first_added f + k)) (λ k. first_added f + k)) (join_lits (new_tables f) f.target.join.more)

      behind : Fits p (map (var_of New 0) (new_tables f)) (sc ++ folded_vars f) any_atom any_id (renumbered (λ k. first_added f + k)) (λ k. first_added f + k)
      behind = subst (λ l. Fits p (map (var_of New 0) (new_tables f)) l any_atom any_id (renumbered (λ k. first_added f + k)) (λ k. first_added f + k)) (append_assoc sc (vars_of (staying f)) (map (var_of New 0) (new_tables f)))
          (fits-shifted p (sc ++ vars_of (staying f)) (map (var_of New 0) (new_tables f)) (first_added f) (long f sc len named))

-- ---- terms and bodies

folds-parts : (f : Fold) (scope : List Var) (known lits : List Lit) → host_folds f scope known lits ≡ true → (are_named f.base f.vars f.named (old_tables f) ≡ true) × (lits_fold f lits ≡ true)
folds-parts f scope known lits h =
    let a = and_parts (are_named f.base f.vars f.named (old_tables f)) (join_given f scope known && lits_fold f lits) h in
    (a.0, (and_parts (join_given f scope known) (lits_fold f lits) a.1).1)

given-some : {X : Type 0} (b : Bool) (x y : X) → cond b (Some x) None ≡ Some y → (b ≡ true) × (x ≡ y)
given-some true x y h = let e : x ≡ y = cc in (refl, e)
given-some false x y h = cc

pub term-proper : (p : Sides) (kinds : List Kind) (source target : View) (xs : List ℕ) (t u : Term) → is_shaped p.source p.target (Views source target) ≡ true → IsProperTerm p kinds t → fold_of source target xs t ≡ Some u → IsProperTerm p kinds u
term-proper p kinds source target xs t u shaped h is =
    let f = term_fold source target xs t in
    let g = given-some (host_folds f t.vars (plain t.lits) t.lits && list_all (atom_folds f) t.head) (folded f t) u is in
    let a = and_parts (host_folds f t.vars (plain t.lits) t.lits) (list_all (atom_folds f) t.head) g.0 in
    let b = folds-parts f t.vars (plain t.lits) t.lits a.0 in
    let r = lits-folded p f [] refl shaped b.0 t.lits b.1 (record { fits = h.fits; oriented = h.oriented }) in
    subst (IsProperTerm p kinds) g.1 (record {
      vars = vars-folded p f [] refl shaped b.0 h.vars;
      fits = r.fits;
      oriented = r.oriented;
      head = head_with-kinds p (atom_folds f) (id_folds f) (folded_atom f) (moved f) t.vars (folded_vars f) (fits-folded p f [] refl shaped b.0) t.head kinds a.1 h.head;
    })

pub body-proper : (p : Sides) (source target : View) (xs : List ℕ) (scope : List Var) (context : List Lit) (b c : Inner) → is_shaped p.source p.target (Views source target) ≡ true → list_all (var_fits p) b.vars ≡ true → FitIn p (scope ++ b.vars) b.lits → foldin_of source target xs scope context b ≡ Some c → (list_all (var_fits p) c.vars ≡ true) × FitIn p (scope ++ c.vars) c.lits
body-proper p source target xs scope context b c shaped vars lits is =
    let f = body_fold source target xs scope b in
    let made : Inner = record { vars = folded_vars f; lits = folded_lits f b.lits } in
    let g = given-some (host_folds f (scope ++ b.vars) (context ++ plain b.lits) b.lits) made c is in
    let k = folds-parts f (scope ++ b.vars) (context ++ plain b.lits) b.lits g.0 in
    subst (λ (i : Inner). (list_all (var_fits p) i.vars ≡ true) × FitIn p (scope ++ i.vars) i.lits) g.1
    (vars-folded p f scope refl shaped k.0 vars, lits-folded p f scope refl shaped k.0 b.lits k.1 lits)
