-- The truth of literals at a choice, of oriented ones, and of renamed ones at another choice.
use Rattle.std.proofs.Common.{◌≡◌, ℕ, Bool, true, false, cond, not, ◌&&◌, List, [], ◌∷◌, ◌++◌, map, refl, sym, ap, ap₂, ◌∙◌, append_assoc, append-nil}
use Rattle.std.specs.List.{list_all}
use Rattle.std.specs.Prelude.{◌==◌}
use Rattle.std.proofs.lemmas.Bool.{and_parts}
use Rattle.std.proofs.lemmas.Bool.Decides.{same_from_decides}
use Rattle.mig_schema.specs.declared.values.Value.{Value}
use Rattle.mig_schema.specs.declared.programs.Op.{Op}
use Rattle.mig_schema.specs.declared.programs.Op.TheVariants.{Eq, Ne, Lt, Le, Gt, Ge}
use Rattle.mig_meaning.specs.Values.{value_eq, compares}
use Rattle.mig_meaning.proofs.Bags.{value_eq-true, value_eq-refl}
use Rattle.mig_algebra.specs.declared.atoms.Atom.{Atom}
use Rattle.mig_algebra.specs.declared.literals.Lit.{Lit, Cmp, Other, Any', Row_of-Lit, end_of-Lit, more_of-Lit}
use Rattle.mig_algebra.specs.Atoms.{atom_lt, oriented}
use Rattle.mig_algebra.specs.Meaning.{Setting, Env, value_of, row_at, comes_out, choices, lit_true, row_true, lits_true}
use Rattle.mig_algebra.specs.Rename.{lit_with, row_with, lit_all, row_all}
use Rattle.mig_algebra.proofs.Some.{any-same}

-- equality of values in the other order
pub value_eq-swap : (a b : Value) → value_eq a b ≡ value_eq b a
value_eq-swap a b = same_from_decides {P = a ≡ b} (value_eq a b) (value_eq b a) (value_eq-true a b, λ e. ap (value_eq a) (sym e) ∙ value_eq-refl a) (λ h. sym (value_eq-true b a h), λ e. ap (λ x. value_eq b x) e ∙ value_eq-refl b)

-- an oriented comparison says what the comparison says
pub oriented_true : (s : Setting) (e : Env) (op : Op) (a b : Atom) → lit_true s e (oriented op a b) ≡ compares op (value_of s e a) (value_of s e b)
oriented_true s e Eq a b = go (atom_lt b a)
  where
    go : (t : Bool) → lit_true s e (cond t (Cmp Eq b a) (Cmp Eq a b)) ≡ value_eq (value_of s e a) (value_of s e b)
    go true = value_eq-swap (value_of s e b) (value_of s e a)
    go false = refl
oriented_true s e Ne a b = go (atom_lt b a)
  where
    go : (t : Bool) → lit_true s e (cond t (Cmp Ne b a) (Cmp Ne a b)) ≡ not (value_eq (value_of s e a) (value_of s e b))
    go true = ap not (value_eq-swap (value_of s e b) (value_of s e a))
    go false = refl
oriented_true s e Lt a b = refl
oriented_true s e Le a b = refl
oriented_true s e Gt a b = refl
oriented_true s e Ge a b = refl

-- one list of literals after another
pub lits-append : (s : Setting) (e : Env) (xs ys : List Lit) → lits_true s e (xs ++ ys) ≡ (lits_true s e xs && lits_true s e ys)
lits-append s e [] ys = refl
lits-append s e (x ∷ xs) ys = ap (λ b. lit_true s e x && b) (lits-append s e xs ys) ∙ go (lit_true s e x) (lits_true s e xs) (lits_true s e ys)
  where
    go : (a b c : Bool) → (a && (b && c)) ≡ ((a && b) && c)
    go true b c = refl
    go false b c = refl

-- e' reads by f and g what e reads at the atoms and variables that pass, also with more rows behind both
pub record Reads (s : Setting) (e e' : Env) (a : Atom → Bool) (n : ℕ → Bool) (f : Atom → Atom) (g : ℕ → ℕ) : Type 0 where
  pub atoms : (c : Env) (x : Atom) → a x ≡ true → value_of s (e ++ c) x ≡ value_of s (e' ++ c) (f x)
  pub ids : (c : Env) (v : ℕ) → n v ≡ true → (row_at (e ++ c) v).id ≡ (row_at (e' ++ c) (g v)).id

module _ (s : Setting) (t : Atom → Bool) (n : ℕ → Bool) (f : Atom → Atom) (g : ℕ → ℕ) where
  -- the same with more rows behind
  pub reads-more : (e e' d : Env) → Reads s e e' t n f g → Reads s (e ++ d) (e' ++ d) t n f g
  reads-more e e' d r = record {
    atoms = λ c a h. ap (λ l. value_of s l a) (append_assoc e d c) ∙ r.atoms (d ++ c) a h ∙ ap (λ l. value_of s l (f a)) (sym (append_assoc e' d c));
    ids = λ c v h. ap (λ l. (row_at l v).id) (append_assoc e d c) ∙ r.ids (d ++ c) v h ∙ ap (λ l. (row_at l (g v)).id) (sym (append_assoc e' d c));
  }

  -- an atom's value
  pub atom-reads : (e e' : Env) → Reads s e e' t n f g → (a : Atom) → t a ≡ true → value_of s e a ≡ value_of s e' (f a)
  atom-reads e e' r a h = ap (λ l. value_of s l a) (sym (append-nil e)) ∙ r.atoms [] a h ∙ ap (λ l. value_of s l (f a)) (append-nil e')

  -- a variable's id
  pub id-reads : (e e' : Env) → Reads s e e' t n f g → (v : ℕ) → n v ≡ true → (row_at e v).id ≡ (row_at e' (g v)).id
  id-reads e e' r v h = ap (λ l. (row_at l v).id) (sym (append-nil e)) ∙ r.ids [] v h ∙ ap (λ l. (row_at l (g v)).id) (append-nil e')

  mutual
    -- a literal's truth
    pub lit_with-true : (e e' : Env) → Reads s e e' t n f g → (l : Lit) → lit_all t n l ≡ true → lit_true s e l ≡ lit_true s e' (lit_with f g l)
    lit_with-true e e' r (Cmp op a b) h =
        let k = and_parts (t a) (t b) h in
        ap₂ (compares op) (atom-reads e e' r a k.0) (atom-reads e e' r b k.1) ∙ sym (oriented_true s e' op (f a) (f b))
    lit_with-true e e' r (Other a b) h =
        let k = and_parts (n a) (n b) h in ap₂ (λ x y. not (x == y)) (id-reads e e' r a k.0) (id-reads e e' r b k.1)
    lit_with-true e e' r (Any' held vars m lits) h =
        ap (comes_out held) (any-same (λ c. row_true s (e ++ c) lits) (λ c. row_true s (e' ++ c) (row_with f g lits)) (λ c. row_with-true (e ++ c) (e' ++ c) (reads-more e e' c r) lits h) (choices s vars))

    pub row_with-true : (e e' : Env) → Reads s e e' t n f g → {m : _} (lits : Row_of-Lit m) → row_all t n lits ≡ true → row_true s e lits ≡ row_true s e' (row_with f g lits)
    row_with-true e e' r end_of-Lit h = refl
    row_with-true e e' r (more_of-Lit l rest) h =
        let k = and_parts (lit_all t n l) (row_all t n rest) h in
        ap₂ (λ x y. x && y) (lit_with-true e e' r l k.0) (row_with-true e e' r rest k.1)

  -- the truth of a list
  pub lits_with-true : (e e' : Env) → Reads s e e' t n f g → (ls : List Lit) → list_all (lit_all t n) ls ≡ true → lits_true s e ls ≡ lits_true s e' (map (lit_with f g) ls)
  lits_with-true e e' r [] h = refl
  lits_with-true e e' r (l ∷ ls) h =
      let k = and_parts (lit_all t n l) (list_all (lit_all t n) ls) h in
      ap₂ (λ x y. x && y) (lit_with-true e e' r l k.0) (lits_with-true e e' r ls k.1)

  -- the values of a head
  pub head-reads : (e e' : Env) → Reads s e e' t n f g → (xs : List Atom) → list_all t xs ≡ true → map (value_of s e) xs ≡ map (value_of s e') (map f xs)
  head-reads e e' r [] h = refl
  head-reads e e' r (a ∷ xs) h =
      let k = and_parts (t a) (list_all t xs) h in
      ap₂ (λ x y. x ∷ y) (atom-reads e e' r a k.0) (head-reads e e' r xs k.1)
