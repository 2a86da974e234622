-- A proper term stays proper where a variable is written for another one of its side, table and stage 0.
use Rattle.std.proofs.Common.{◌≡◌, ◌≢◌, ℕ, ◌+◌, Bool, true, false, cond, not, ◌&&◌, ◌||◌, List, [], ◌∷◌, ◌++◌, take, drop, length, Option, Some, None, refl, sym, ap, ap₂, ◌∙◌, inl, inr, ◌⊎◌, subst, append_assoc}
use Rattle.std.specs.Prelude.{◌==◌, slice_get}
use Rattle.std.proofs.lemmas.Bool.{and_parts, and_from, eqb-true, eq-eqb}
use Rattle.std.proofs.lemmas.Bool.Decides.{eqb_tells}
use Rattle.mig_schema.specs.declared.tables.Kind.{Kind}
use Rattle.mig_meaning.specs.Lists.{Each}
use Rattle.mig_algebra.specs.declared.atoms.Var.{Var}
use Rattle.mig_algebra.specs.declared.atoms.Atom.{Atom}
use Rattle.mig_algebra.specs.declared.atoms.Atom.TheVariants.{Int, Text, Param, Fresh, Col}
use Rattle.mig_algebra.specs.declared.literals.Inner.{Inner}
use Rattle.mig_algebra.specs.declared.literals.Lit.TheVariants.{Any}
use Rattle.mig_algebra.specs.declared.terms.Term.{Term}
use Rattle.mig_algebra.specs.Proper.{Sides, var_fits, column_kind, atom_kind, same_side, other_fits, IsProperTerm}
use Rattle.mig_algebra.specs.Rename.{below, renumbered}
use Rattle.mig_algebra.proofs.Lists.{each-drop_middle, each-all, all-each}
use Rattle.mig_algebra.proofs.Without.{any_atom, all-any_atom}
use Rattle.mig_algebra.proofs.Moved.{any_id, all-lits}
use Rattle.mig_algebra.proofs.RenamedFits.{Fits, lits_with-fit, lits_with-oriented, head_with-kinds}
use Rattle.mig_classes.proofs.WrittenProper.{parts-at}
use Rattle.mig_replacing.specs.Replaced.{spread, FitIn}
use Rattle.mig_replacing.proofs.Reached.{some-same}
use Rattle.mig_rows.specs.Writing.{into, term_into}
use Rattle.mig_steps.proofs.Options.{get-within}
use Rattle.mig_rows.proofs.Numbered.{get-front, get-middle, get-other, below-same}

-- the last test of an `Other`, where both its variables become one that is of stage 0
one-stage : (p q r : Bool) → (p ≡ false → q ≡ true → r ≡ true) → (not p || r) ≡ true → (not q || r) ≡ true
one-stage true true r h e = e
one-stage true false r h e = refl
one-stage false true r h e = h refl refl
one-stage false false r h e = refl

pub other-stays : (u : Var) → u.stage ≡ 0 → (a b a' b' : ℕ) (x y : Option Var) → ((a == b) ≡ false → (a' == b') ≡ true → x ≡ Some u) → other_fits a b x y ≡ true → other_fits a' b' x y ≡ true
other-stays u z a b a' b' None y h e = cc
other-stays u z a b a' b' (Some v) None h e = cc
other-stays u z a b a' b' (Some v) (Some w) h e =
    let k = and_parts (same_side v.side w.side) (v.table == w.table && (not (a == b) || v.stage == 0)) e in
    let m = and_parts (v.table == w.table) (not (a == b) || v.stage == 0) k.1 in
    and_from (same_side v.side w.side) (v.table == w.table && (not (a' == b') || v.stage == 0)) k.0
    (and_from (v.table == w.table) (not (a' == b') || v.stage == 0) m.0
    (one-stage (a == b) (a' == b') (v.stage == 0) (λ f t. eq-eqb v.stage 0 (ap (λ (o : Var). o.stage) (some-same v u (h f t)) ∙ z)) m.1))

module _ (p : Sides) (xs : List Var) (u : Var) (ys : List Var) (i x : ℕ) (at : length xs ≡ i) (ne : x ≢ i) (there : slice_get (xs ++ (u ∷ ys)) x ≡ Some u) (first : u.stage ≡ 0) where
  -- the variable i
  own : (d : List Var) → slice_get ((xs ++ (u ∷ ys)) ++ d) i ≡ Some u
  own d = ap (λ l. slice_get l i) (append_assoc xs (u ∷ ys) d) ∙ get-middle xs u (ys ++ d) i at

  -- any other in its new number
  still : (d : List Var) (v : ℕ) → v ≢ i → slice_get ((xs ++ (u ∷ ys)) ++ d) v ≡ slice_get ((xs ++ ys) ++ d) (below i v)
  still d v h =
      ap (λ l. slice_get l v) (append_assoc xs (u ∷ ys) d) ∙ get-other xs u (ys ++ d) i v at h ∙ ap (λ l. slice_get l (below i v)) (sym (append_assoc xs ys d))

  -- each variable in its new number
  var-into : (d : List Var) (v : ℕ) → slice_get ((xs ++ (u ∷ ys)) ++ d) v ≡ slice_get ((xs ++ ys) ++ d) (into i x v)
  var-into d v = go (eqb_tells v i)
    where
      go : ((v == i) ≡ true) × (v ≡ i) ⊎ ((v == i) ≡ false) × (v ≢ i) → slice_get ((xs ++ (u ∷ ys)) ++ d) v ≡ slice_get ((xs ++ ys) ++ d) (into i x v)
      go (inl h) =
          ap (slice_get ((xs ++ (u ∷ ys)) ++ d)) h.1 ∙ own d
          ∙ sym (get-front (xs ++ (u ∷ ys)) d x (get-within (xs ++ (u ∷ ys)) x u there) ∙ there)
          ∙ still d x ne ∙ ap (λ b. slice_get ((xs ++ ys) ++ d) (below i (cond b x v))) (sym h.0)
      go (inr h) = still d v h.1 ∙ ap (λ b. slice_get ((xs ++ ys) ++ d) (below i (cond b x v))) (sym h.0)

  -- two variables that become one are u
  become-one : (d : List Var) (a b : ℕ) → (a == b) ≡ false → (into i x a == into i x b) ≡ true → slice_get ((xs ++ (u ∷ ys)) ++ d) a ≡ Some u
  become-one d a b f t = go (eqb_tells a i) (eqb_tells b i)
    where
      go : ((a == i) ≡ true) × (a ≡ i) ⊎ ((a == i) ≡ false) × (a ≢ i) → ((b == i) ≡ true) × (b ≡ i) ⊎ ((b == i) ≡ false) × (b ≢ i) → slice_get ((xs ++ (u ∷ ys)) ++ d) a ≡ Some u
      go (inl h) k = ap (slice_get ((xs ++ (u ∷ ys)) ++ d)) h.1 ∙ own d
      go (inr h) (inl k) =
          var-into d a ∙ ap (slice_get ((xs ++ ys) ++ d)) (eqb-true (into i x a) (into i x b) t)
          ∙ sym (var-into d b) ∙ ap (slice_get ((xs ++ (u ∷ ys)) ++ d)) k.1 ∙ own d
      go (inr h) (inr k) =
          let same : (a == b) ≡ (into i x a == into i x b) =
          below-same i a b h.1 k.1 ∙ ap₂ (λ p q. below i (cond p x a) == below i (cond q x b)) (sym h.0) (sym k.0) in
          let bad : false ≡ true = sym f ∙ same ∙ t in cc

  atom-into : (d : List Var) (a : Atom) → atom_kind p ((xs ++ (u ∷ ys)) ++ d) a ≡ atom_kind p ((xs ++ ys) ++ d) (renumbered (into i x) a)
  atom-into d (Int n) = refl
  atom-into d (Text t) = refl
  atom-into d (Param n) = refl
  atom-into d (Fresh n) = refl
  atom-into d (Col v c) = ap (λ o. column_kind p o c) (var-into d v)

  pub fits-into : Fits p (xs ++ (u ∷ ys)) (xs ++ ys) any_atom any_id (renumbered (into i x)) (into i x)
  fits-into = record {
    atoms = λ d a k t e. sym (atom-into d a) ∙ e;
    others = λ d a b h k e.
        ap₂ (other_fits (into i x a) (into i x b)) (sym (var-into d a)) (sym (var-into d b))
        ∙ other-stays u first a b (into i x a) (into i x b) (slice_get ((xs ++ (u ∷ ys)) ++ d) a) (slice_get ((xs ++ (u ∷ ys)) ++ d) b) (become-one d a b) e;
  }

-- the alternatives for one body in place of another
pub one-spread : (p : Sides) (scope : List Var) (held : Bool) (b : Inner) → FitIn p scope (Any held b ∷ []) → Each (FitIn p scope) (spread held (b ∷ []))
one-spread p scope true b f = (f, tt)
one-spread p scope false b f = (f, tt)

-- a term
pub merge-proper : (p : Sides) (ks : List Kind) (t : Term) (i x : ℕ) (v : Var) → slice_get t.vars i ≡ Some v → slice_get t.vars x ≡ Some v → x ≢ i → v.stage ≡ 0 → IsProperTerm p ks t → IsProperTerm p ks (term_into i x t)
merge-proper p ks t i x v own there ne first h =
    let front = take i t.vars in
    let rest = drop (i + 1) t.vars in
    let k = parts-at t.vars i v own in
    let fits = fits-into p front v rest i x k.1 ne (ap (λ l. slice_get l x) (sym k.0) ∙ there) first in
    let fits' = subst (λ l. Fits p l (front ++ rest) any_atom any_id (renumbered (into i x)) (into i x)) (sym k.0) fits in
    record {
      vars = all-each (var_fits p) (front ++ rest) (each-drop_middle (λ x. var_fits p x ≡ true) front v rest (subst (Each (λ x. var_fits p x ≡ true)) k.0 (each-all (var_fits p) t.vars h.vars)));
      fits = lits_with-fit p any_atom any_id (renumbered (into i x)) (into i x) t.vars (front ++ rest) fits' t.lits (all-lits t.lits) h.fits;
      oriented = lits_with-oriented (renumbered (into i x)) (into i x) t.lits;
      head = head_with-kinds p any_atom any_id (renumbered (into i x)) (into i x) t.vars (front ++ rest) fits' t.head ks (all-any_atom t.head) h.head;
    }
