-- A proper term with its classes written once is proper: the atoms of a class are of one kind.
use Rattle.std.proofs.Common.{◌≡◌, ℕ, zero, suc, ◌<◌, Bool, true, false, not, ◌&&◌, List, [], ◌∷◌, ◌++◌, length, Option, Some, None, refl, sym, ap, ap₂, ◌∙◌, inl, inr, arith}
use Rattle.std.specs.Prelude.{slice_get}
use Rattle.std.specs.Cmp.{IsEquivalence}
use Rattle.std.specs.List.{list_all}
use Rattle.std.proofs.lemmas.Bool.{and_parts, and_from}
use Rattle.std.proofs.lemmas.List.Folds.{list_all-append}
use Rattle.mig_schema.specs.declared.programs.Op.TheVariants.{Eq, Ne, Lt, Le, Gt, Ge}
use Rattle.mig_schema.specs.declared.tables.Kind.{Kind}
use Rattle.mig_schema.specs.declared.tables.Kind.TheVariants as kind
use Rattle.mig_schema.specs.Columns.{same_kind}
use Rattle.mig_meaning.specs.Lists.{In}
use Rattle.mig_meaning.proofs.Lists.{all-true, each-by}
use Rattle.mig_algebra.specs.declared.atoms.Atom.{Atom}
use Rattle.mig_algebra.specs.declared.atoms.Atom.TheVariants.{Int, Text, Param, Fresh, Col}
use Rattle.mig_algebra.specs.declared.atoms.Var.{Var}
use Rattle.mig_algebra.specs.declared.literals.Lit.{Lit, Cmp, Other, Any'}
use Rattle.mig_algebra.specs.declared.terms.Term.{Term}
use Rattle.mig_algebra.specs.Proper.{Sides, column_kind, atom_kind, cmp_fits, lit_fits, lit_oriented, IsProperTerm}
use Rattle.mig_algebra.specs.Rename.{lits_with}
use Rattle.mig_algebra.proofs.Moved.{any_id, all-lits}
use Rattle.mig_algebra.proofs.ObligedFits.{kinds-same}
use Rattle.mig_algebra.proofs.RenamedFits.{Fits, lits_with-fit, lits_with-oriented, head_with-kinds}
use Rattle.mig_algebra.proofs.Without.{any_atom, all-any_atom}
use Rattle.mig_classes.specs.Classes.{least, equated, all_equated}
use Rattle.mig_classes.proofs.Classed.{class-equivalence, least-same}
use Rattle.mig_classes.proofs.LeastAtoms.{class-first}
use Rattle.mig_literals.specs.Same.{same_lits, unequated, kept, term_same}
use Rattle.mig_steps.proofs.Options.{get-within}
use Rattle.mig_steps.proofs.SameKinds.{same-kind}
use Rattle.mig_literals.proofs.SameKeeps.{same-in}

-- an item of the front
get-front : {X : Type 0} (xs ys : List X) (v : ℕ) → v < length xs → slice_get (xs ++ ys) v ≡ slice_get xs v
get-front [] ys v h = absurd (omega (arith, h))
get-front (x ∷ xs) ys zero h = refl
get-front (x ∷ xs) ys (suc v) h = get-front xs ys v (omega (arith, h))

-- ---- kinds

abbrev like : Option Kind → Option Kind → Bool
like None None = true
like (Some a) (Some b) = same_kind a b
like None (Some b) = false
like (Some a) None = false

like-true : (a b : Option Kind) → like a b ≡ true → a ≡ b
like-true None None h = refl
like-true (Some a) (Some b) h = ap Some (same-kind a b h)
like-true None (Some b) h = cc
like-true (Some a) None h = cc

like-itself : (a : Option Kind) → like a a ≡ true
like-itself None = refl
like-itself (Some k) = kinds-same k

turn-kinds : (a b : Kind) → same_kind a b ≡ same_kind b a
turn-kinds kind.Int kind.Int = refl
turn-kinds kind.Int kind.Text = refl
turn-kinds kind.Int kind.Key = refl
turn-kinds kind.Text kind.Int = refl
turn-kinds kind.Text kind.Text = refl
turn-kinds kind.Text kind.Key = refl
turn-kinds kind.Key kind.Int = refl
turn-kinds kind.Key kind.Text = refl
turn-kinds kind.Key kind.Key = refl

like-turned : (a b : Option Kind) → like a b ≡ like b a
like-turned None None = refl
like-turned (Some a) (Some b) = turn-kinds a b
like-turned None (Some b) = refl
like-turned (Some a) None = refl

-- both sides of an equality that fits have a kind, the same one
equal-kinds : (x y : Option Kind) → cmp_fits Eq x y ≡ true → (k : Kind) × (x ≡ Some k) × (y ≡ Some k)
equal-kinds None y h = cc
equal-kinds (Some a) None h = cc
equal-kinds (Some a) (Some b) h = let k = and_parts (same_kind a b) true h in (a, refl, ap Some (sym (same-kind a b (go (same_kind a b) h))))
  where
    go : (x : Bool) → (x && true) ≡ true → x ≡ true
    go true t = refl
    go false t = cc

kinds-fit : (x y : Option Kind) (k : Kind) → x ≡ Some k → y ≡ Some k → cmp_fits Eq x y ≡ true
kinds-fit x y k e f = ap₂ (cmp_fits Eq) e f ∙ ap (λ b. b && true) (kinds-same k)

-- ---- among variables of which all kinds stay

module _ (p : Sides) (sc sc' : List Var) (stay : (a : Atom) (k : Kind) → atom_kind p sc a ≡ Some k → atom_kind p sc' a ≡ Some k) where
  kind-equivalence : IsEquivalence (λ a b. like (atom_kind p sc' a) (atom_kind p sc' b))
  kind-equivalence = record {
    refl = λ a. like-itself (atom_kind p sc' a);
    symm = λ a b. like-turned (atom_kind p sc' a) (atom_kind p sc' b);
    congr = λ a b c h. ap (λ o. like o (atom_kind p sc' c)) (like-true (atom_kind p sc' a) (atom_kind p sc' b) h);
  }

  equated-alike : (ls : List Lit) → list_all (lit_fits p sc) ls ≡ true → all_equated (λ a b. like (atom_kind p sc' a) (atom_kind p sc' b)) ls
  equated-alike [] h = tt
  equated-alike (Cmp Eq x y ∷ ls) h =
      let k = and_parts (lit_fits p sc (Cmp Eq x y)) (list_all (lit_fits p sc) ls) h in
      let m = equal-kinds (atom_kind p sc x) (atom_kind p sc y) k.0 in
      (ap₂ like (stay x m.0 m.1) (stay y m.0 m.2) ∙ kinds-same m.0, equated-alike ls k.1)
  equated-alike (Cmp Ne x y ∷ ls) h = equated-alike ls (and_parts (lit_fits p sc (Cmp Ne x y)) (list_all (lit_fits p sc) ls) h).1
  equated-alike (Cmp Lt x y ∷ ls) h = equated-alike ls (and_parts (lit_fits p sc (Cmp Lt x y)) (list_all (lit_fits p sc) ls) h).1
  equated-alike (Cmp Le x y ∷ ls) h = equated-alike ls (and_parts (lit_fits p sc (Cmp Le x y)) (list_all (lit_fits p sc) ls) h).1
  equated-alike (Cmp Gt x y ∷ ls) h = equated-alike ls (and_parts (lit_fits p sc (Cmp Gt x y)) (list_all (lit_fits p sc) ls) h).1
  equated-alike (Cmp Ge x y ∷ ls) h = equated-alike ls (and_parts (lit_fits p sc (Cmp Ge x y)) (list_all (lit_fits p sc) ls) h).1
  equated-alike (Other x y ∷ ls) h = equated-alike ls (and_parts (lit_fits p sc (Other x y)) (list_all (lit_fits p sc) ls) h).1
  equated-alike (Any' held vars n row ∷ ls) h = equated-alike ls (and_parts (lit_fits p sc (Any' held vars n row)) (list_all (lit_fits p sc) ls) h).1

  -- the least atom of a class is of its kind
  least-kind : (ls : List Lit) → list_all (lit_fits p sc) ls ≡ true → (a : Atom) → atom_kind p sc' (least ls a) ≡ atom_kind p sc' a
  least-kind ls h a = like-true (atom_kind p sc' (least ls a)) (atom_kind p sc' a) (least-same (λ a b. like (atom_kind p sc' a) (atom_kind p sc' b)) kind-equivalence ls (equated-alike ls h) a)

-- an atom keeps its kind with more variables behind
kind-further : (p : Sides) (sc d : List Var) (a : Atom) (k : Kind) → atom_kind p sc a ≡ Some k → atom_kind p (sc ++ d) a ≡ Some k
kind-further p sc d (Int i) k h = h
kind-further p sc d (Text t) k h = h
kind-further p sc d (Param n) k h = h
kind-further p sc d (Fresh n) k h = h
kind-further p sc d (Col v c) k h = go (slice_get sc v) refl h
  where
    go : (o : Option Var) → slice_get sc v ≡ o → column_kind p o c ≡ Some k → column_kind p (slice_get (sc ++ d) v) c ≡ Some k
    go None e i = cc
    go (Some u) e i = ap (λ o. column_kind p o c) (get-front sc d v (get-within sc v u e) ∙ e) ∙ i

-- an atom of an equality that fits has a kind
equated-kind : (p : Sides) (sc : List Var) (ls : List Lit) (a : Atom) → list_all (lit_fits p sc) ls ≡ true → In a (equated ls) → (k : Kind) × (atom_kind p sc a ≡ Some k)
equated-kind p sc [] a h i = absurd i
equated-kind p sc (Cmp Eq x y ∷ ls) a h (inl e) =
    let k = and_parts (lit_fits p sc (Cmp Eq x y)) (list_all (lit_fits p sc) ls) h in
    let m = equal-kinds (atom_kind p sc x) (atom_kind p sc y) k.0 in (m.0, ap (atom_kind p sc) e ∙ m.1)
equated-kind p sc (Cmp Eq x y ∷ ls) a h (inr (inl e)) =
    let k = and_parts (lit_fits p sc (Cmp Eq x y)) (list_all (lit_fits p sc) ls) h in
    let m = equal-kinds (atom_kind p sc x) (atom_kind p sc y) k.0 in (m.0, ap (atom_kind p sc) e ∙ m.2)
equated-kind p sc (Cmp Eq x y ∷ ls) a h (inr (inr i)) = equated-kind p sc ls a (and_parts (lit_fits p sc (Cmp Eq x y)) (list_all (lit_fits p sc) ls) h).1 i
equated-kind p sc (Cmp Ne x y ∷ ls) a h i = equated-kind p sc ls a (and_parts (lit_fits p sc (Cmp Ne x y)) (list_all (lit_fits p sc) ls) h).1 i
equated-kind p sc (Cmp Lt x y ∷ ls) a h i = equated-kind p sc ls a (and_parts (lit_fits p sc (Cmp Lt x y)) (list_all (lit_fits p sc) ls) h).1 i
equated-kind p sc (Cmp Le x y ∷ ls) a h i = equated-kind p sc ls a (and_parts (lit_fits p sc (Cmp Le x y)) (list_all (lit_fits p sc) ls) h).1 i
equated-kind p sc (Cmp Gt x y ∷ ls) a h i = equated-kind p sc ls a (and_parts (lit_fits p sc (Cmp Gt x y)) (list_all (lit_fits p sc) ls) h).1 i
equated-kind p sc (Cmp Ge x y ∷ ls) a h i = equated-kind p sc ls a (and_parts (lit_fits p sc (Cmp Ge x y)) (list_all (lit_fits p sc) ls) h).1 i
equated-kind p sc (Other x y ∷ ls) a h i = equated-kind p sc ls a (and_parts (lit_fits p sc (Other x y)) (list_all (lit_fits p sc) ls) h).1 i
equated-kind p sc (Any' held vars n row ∷ ls) a h i = equated-kind p sc ls a (and_parts (lit_fits p sc (Any' held vars n row)) (list_all (lit_fits p sc) ls) h).1 i

-- ---- lists

all-rest : (q : Lit → Bool) (ls : List Lit) → list_all q ls ≡ true → list_all q (unequated ls) ≡ true
all-rest q [] h = refl
all-rest q (Cmp Eq x y ∷ ls) h = all-rest q ls (and_parts (q (Cmp Eq x y)) (list_all q ls) h).1
all-rest q (Cmp Ne x y ∷ ls) h = let k = and_parts (q (Cmp Ne x y)) (list_all q ls) h in and_from (q (Cmp Ne x y)) (list_all q (unequated ls)) k.0 (all-rest q ls k.1)
all-rest q (Cmp Lt x y ∷ ls) h = let k = and_parts (q (Cmp Lt x y)) (list_all q ls) h in and_from (q (Cmp Lt x y)) (list_all q (unequated ls)) k.0 (all-rest q ls k.1)
all-rest q (Cmp Le x y ∷ ls) h = let k = and_parts (q (Cmp Le x y)) (list_all q ls) h in and_from (q (Cmp Le x y)) (list_all q (unequated ls)) k.0 (all-rest q ls k.1)
all-rest q (Cmp Gt x y ∷ ls) h = let k = and_parts (q (Cmp Gt x y)) (list_all q ls) h in and_from (q (Cmp Gt x y)) (list_all q (unequated ls)) k.0 (all-rest q ls k.1)
all-rest q (Cmp Ge x y ∷ ls) h = let k = and_parts (q (Cmp Ge x y)) (list_all q ls) h in and_from (q (Cmp Ge x y)) (list_all q (unequated ls)) k.0 (all-rest q ls k.1)
all-rest q (Other x y ∷ ls) h = let k = and_parts (q (Other x y)) (list_all q ls) h in and_from (q (Other x y)) (list_all q (unequated ls)) k.0 (all-rest q ls k.1)
all-rest q (Any' held vars n row ∷ ls) h = let k = and_parts (q (Any' held vars n row)) (list_all q ls) h in and_from (q (Any' held vars n row)) (list_all q (unequated ls)) k.0 (all-rest q ls k.1)

-- ---- the term

pub same-proper : (p : Sides) (ks : List Kind) (t : Term) → IsProperTerm p ks t → IsProperTerm p ks (term_same t)
same-proper p ks t h = record {
  vars = h.vars;
  fits =
      list_all-append (lit_fits p t.vars) (same_lits t.lits) (lits_with (least t.lits) kept (unequated t.lits))
      ∙ ap₂ (λ x y. x && y) classes-fit (lits_with-fit p any_atom any_id (least t.lits) kept t.vars t.vars fits (unequated t.lits) (all-lits (unequated t.lits)) (all-rest (lit_fits p t.vars) t.lits h.fits));
  oriented =
      list_all-append lit_oriented (same_lits t.lits) (lits_with (least t.lits) kept (unequated t.lits))
      ∙ ap₂ (λ x y. x && y) classes-oriented (lits_with-oriented (least t.lits) kept (unequated t.lits));
  head = head_with-kinds p any_atom any_id (least t.lits) kept t.vars t.vars fits t.head ks (all-any_atom t.head) h.head;
}
  where
    fits : Fits p t.vars t.vars any_atom any_id (least t.lits) kept
    fits = record {
      atoms = λ d a k i e. least-kind p t.vars (t.vars ++ d) (kind-further p t.vars d) t.lits h.fits a ∙ e;
      others = λ d a b i j e. e;
    }

    classes-fit : list_all (lit_fits p t.vars) (same_lits t.lits) ≡ true
    classes-fit = all-true (lit_fits p t.vars) (same_lits t.lits) (each-by (λ l. lit_fits p t.vars l ≡ true) (same_lits t.lits) (λ l i.
        let b = same-in t.lits l i in
        let k = equated-kind p t.vars t.lits b.0 h.fits b.1 in
        ap (lit_fits p t.vars) b.2
        ∙ kinds-fit (atom_kind p t.vars (least t.lits b.0)) (atom_kind p t.vars b.0) k.0 (least-kind p t.vars t.vars (λ a k e. e) t.lits h.fits b.0 ∙ k.1) k.1))

    classes-oriented : list_all lit_oriented (same_lits t.lits) ≡ true
    classes-oriented = all-true lit_oriented (same_lits t.lits) (each-by (λ l. lit_oriented l ≡ true) (same_lits t.lits) (λ l i.
        let b = same-in t.lits l i in
        ap lit_oriented b.2 ∙ ap not (class-first t.lits b.0 b.0 ((class-equivalence t.lits).refl b.0))))
