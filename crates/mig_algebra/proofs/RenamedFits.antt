-- Renamed literals fit in another scope, and are oriented whatever they were.
use Rattle.std.proofs.Common.{◌≡◌, ℕ, Bool, true, ◌&&◌, List, [], ◌∷◌, ◌++◌, map, Option, Some, None, refl, sym, ap, ap₂, ◌∙◌, append_assoc, append-nil}
use Rattle.std.specs.Prelude.{slice_get}
use Rattle.std.specs.List.{list_all}
use Rattle.std.proofs.lemmas.Bool.{and_parts, and_from}
use Rattle.mig_schema.specs.declared.tables.Kind.{Kind}
use Rattle.mig_schema.specs.declared.programs.Op.{Op}
use Rattle.mig_algebra.specs.declared.atoms.Var.{Var}
use Rattle.mig_algebra.specs.declared.atoms.Atom.{Atom}
use Rattle.mig_algebra.specs.declared.literals.Lit.{Lit, Cmp, Other, Any', Row_of-Lit, end_of-Lit, more_of-Lit}
use Rattle.mig_algebra.specs.Rename.{lit_with, row_with, lit_all, row_all}
use Rattle.mig_algebra.specs.Proper.{Sides, var_fits, atom_kind, cmp_fits, other_fits, lit_fits, row_fits, lit_oriented, row_oriented}
use Rattle.mig_algebra.proofs.OrientedFits.{oriented-fits, oriented-oriented}

-- whether two variables are of one side and table in a scope
abbrev pub others_fit : List Var → ℕ → ℕ → Bool
others_fit sc v w = other_fits v w (slice_get sc v) (slice_get sc w)

-- what fits in sc at the atoms and variables that pass, fits by f and g in sc', also with more variables behind both
pub record Fits (p : Sides) (sc sc' : List Var) (a : Atom → Bool) (n : ℕ → Bool) (f : Atom → Atom) (g : ℕ → ℕ) : Type 0 where
  pub atoms : (d : List Var) (x : Atom) (k : Kind) → a x ≡ true → atom_kind p (sc ++ d) x ≡ Some k → atom_kind p (sc' ++ d) (f x) ≡ Some k
  pub others : (d : List Var) (v w : ℕ) → n v ≡ true → n w ≡ true → others_fit (sc ++ d) v w ≡ true → others_fit (sc' ++ d) (g v) (g w) ≡ true

some-kinds : (op : Op) (x y x' y' : Option Kind) → ((k : Kind) → x ≡ Some k → x' ≡ Some k) → ((k : Kind) → y ≡ Some k → y' ≡ Some k) → cmp_fits op x y ≡ true → cmp_fits op x' y' ≡ true
some-kinds op None None x' y' h i t = cc
some-kinds op None (Some b) x' y' h i t = cc
some-kinds op (Some a) None x' y' h i t = cc
some-kinds op (Some a) (Some b) x' y' h i t = ap₂ (cmp_fits op) (h a refl) (i b refl) ∙ t

module _ (p : Sides) (t : Atom → Bool) (n : ℕ → Bool) (f : Atom → Atom) (g : ℕ → ℕ) where
  -- the same with more variables behind
  pub fits-more : (sc sc' d : List Var) → Fits p sc sc' t n f g → Fits p (sc ++ d) (sc' ++ d) t n f g
  fits-more sc sc' d r = record {
    atoms = λ c x k h e. ap (λ l. atom_kind p l (f x)) (append_assoc sc' d c) ∙ r.atoms (d ++ c) x k h (ap (λ l. atom_kind p l x) (sym (append_assoc sc d c)) ∙ e);
    others = λ c v w h i e. ap (λ l. others_fit l (g v) (g w)) (append_assoc sc' d c) ∙ r.others (d ++ c) v w h i (ap (λ l. others_fit l v w) (sym (append_assoc sc d c)) ∙ e);
  }

  -- the same with nothing behind
  pub atom-fits : (sc sc' : List Var) → Fits p sc sc' t n f g → (x : Atom) (k : Kind) → t x ≡ true → atom_kind p sc x ≡ Some k → atom_kind p sc' (f x) ≡ Some k
  atom-fits sc sc' r x k h e = ap (λ l. atom_kind p l (f x)) (sym (append-nil sc')) ∙ r.atoms [] x k h (ap (λ l. atom_kind p l x) (append-nil sc) ∙ e)

  ids-fit : (sc sc' : List Var) → Fits p sc sc' t n f g → (v w : ℕ) → n v ≡ true → n w ≡ true → others_fit sc v w ≡ true → others_fit sc' (g v) (g w) ≡ true
  ids-fit sc sc' r v w h i e = ap (λ l. others_fit l (g v) (g w)) (sym (append-nil sc')) ∙ r.others [] v w h i (ap (λ l. others_fit l v w) (append-nil sc) ∙ e)

  mutual
    -- a literal fits
    pub lit_with-fits : (sc sc' : List Var) → Fits p sc sc' t n f g → (l : Lit) → lit_all t n l ≡ true → lit_fits p sc l ≡ true → lit_fits p sc' (lit_with f g l) ≡ true
    lit_with-fits sc sc' r (Cmp op a b) h e =
        let k = and_parts (t a) (t b) h in
        oriented-fits p sc' op (f a) (f b)
        ∙ some-kinds op (atom_kind p sc a) (atom_kind p sc b) (atom_kind p sc' (f a)) (atom_kind p sc' (f b)) (λ i. atom-fits sc sc' r a i k.0) (λ i. atom-fits sc sc' r b i k.1) e
    lit_with-fits sc sc' r (Other a b) h e = let k = and_parts (n a) (n b) h in ids-fit sc sc' r a b k.0 k.1 e
    lit_with-fits sc sc' r (Any' held vars m lits) h e =
        let k = and_parts (list_all (var_fits p) vars) (row_fits p (sc ++ vars) lits) e in
        and_from (list_all (var_fits p) vars) (row_fits p (sc' ++ vars) (row_with f g lits)) k.0
        (row_with-fits (sc ++ vars) (sc' ++ vars) (fits-more sc sc' vars r) lits h k.1)

    pub row_with-fits : (sc sc' : List Var) → Fits p sc sc' t n f g → {m : _} (lits : Row_of-Lit m) → row_all t n lits ≡ true → row_fits p sc lits ≡ true → row_fits p sc' (row_with f g lits) ≡ true
    row_with-fits sc sc' r end_of-Lit h e = refl
    row_with-fits sc sc' r (more_of-Lit l rest) h e =
        let j = and_parts (lit_all t n l) (row_all t n rest) h in
        let k = and_parts (lit_fits p sc l) (row_fits p sc rest) e in
        and_from (lit_fits p sc' (lit_with f g l)) (row_fits p sc' (row_with f g rest)) (lit_with-fits sc sc' r l j.0 k.0) (row_with-fits sc sc' r rest j.1 k.1)

  -- a list of literals fits
  pub lits_with-fit : (sc sc' : List Var) → Fits p sc sc' t n f g → (ls : List Lit) → list_all (lit_all t n) ls ≡ true → list_all (lit_fits p sc) ls ≡ true → list_all (lit_fits p sc') (map (lit_with f g) ls) ≡ true
  lits_with-fit sc sc' r [] h e = refl
  lits_with-fit sc sc' r (l ∷ ls) h e =
      let j = and_parts (lit_all t n l) (list_all (lit_all t n) ls) h in
      let k = and_parts (lit_fits p sc l) (list_all (lit_fits p sc) ls) e in
      and_from (lit_fits p sc' (lit_with f g l)) (list_all (lit_fits p sc') (map (lit_with f g) ls)) (lit_with-fits sc sc' r l j.0 k.0) (lits_with-fit sc sc' r ls j.1 k.1)

  -- a head keeps its kinds
  pub head_with-kinds : (sc sc' : List Var) → Fits p sc sc' t n f g → (xs : List Atom) (kinds : List Kind) → list_all t xs ≡ true → map (atom_kind p sc) xs ≡ map Some kinds → map (atom_kind p sc') (map f xs) ≡ map Some kinds
  head_with-kinds sc sc' r [] kinds h e = e
  head_with-kinds sc sc' r (x ∷ xs) [] h e = cc
  head_with-kinds sc sc' r (x ∷ xs) (k ∷ ks) h e =
      let j = and_parts (t x) (list_all t xs) h in
      let first : atom_kind p sc x ≡ Some k = cc in
      let rest : map (atom_kind p sc) xs ≡ map Some ks = cc in
      ap₂ (λ y ys. y ∷ ys) (atom-fits sc sc' r x k j.0 first) (head_with-kinds sc sc' r xs ks j.1 rest)

-- ---- orientation

mutual
  -- a renamed literal is oriented
  pub lit_with-oriented : (f : Atom → Atom) (g : ℕ → ℕ) (l : Lit) → lit_oriented (lit_with f g l) ≡ true
  lit_with-oriented f g (Cmp op a b) = oriented-oriented op (f a) (f b)
  lit_with-oriented f g (Other a b) = refl
  lit_with-oriented f g (Any' held vars m lits) = row_with-oriented f g lits

  pub row_with-oriented : (f : Atom → Atom) (g : ℕ → ℕ) {m : _} (lits : Row_of-Lit m) → row_oriented (row_with f g lits) ≡ true
  row_with-oriented f g end_of-Lit = refl
  row_with-oriented f g (more_of-Lit l rest) = ap₂ (λ x y. x && y) (lit_with-oriented f g l) (row_with-oriented f g rest)

-- a list of renamed literals is oriented
pub lits_with-oriented : (f : Atom → Atom) (g : ℕ → ℕ) (ls : List Lit) → list_all lit_oriented (map (lit_with f g) ls) ≡ true
lits_with-oriented f g [] = refl
lits_with-oriented f g (l ∷ ls) = ap₂ (λ x y. x && y) (lit_with-oriented f g l) (lits_with-oriented f g ls)
