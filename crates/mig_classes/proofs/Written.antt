-- A variable is written away: a choice without its row reads what the choice with a row of the atoms' values reads.
use Rattle.std.proofs.Common.{◌≡◌, ◌≢◌, ℕ, zero, suc, ◌+◌, ◌<◌, Bool, true, false, cond, not, ◌||◌, List, [], ◌∷◌, ◌++◌, refl, sym, ap, ap₂, ◌∙◌, arith, length, append_assoc, inl, inr, ◌⊎◌, length-append}
use Rattle.std.specs.Prelude.{◌==◌, nat_lt, slice_index_or}
use Rattle.std.specs.List.{list_all}
use Rattle.std.proofs.lemmas.List.{get_or_at}
use Rattle.std.proofs.lemmas.Bool.{and_parts, eqb-false, not-true, ltb-true}
use Rattle.std.proofs.lemmas.Bool.Decides.{eqb_tells, nat_tests}
use Rattle.mig_meaning.specs.declared.states.Placed.{Placed}
use Rattle.mig_meaning.specs.Rows.{no_row, value_at}
use Rattle.mig_algebra.specs.declared.atoms.Atom.{Atom}
use Rattle.mig_algebra.specs.declared.atoms.Atom.TheVariants.{Int, Text, Param, Fresh, Col}
use Rattle.mig_algebra.specs.declared.literals.Lit.{Lit}
use Rattle.mig_algebra.specs.declared.terms.Term.{Term}
use Rattle.mig_algebra.specs.declared.atoms.Var.{Var}
use Rattle.mig_algebra.specs.Meaning.{Setting, Env, value_of, row_at}
use Rattle.mig_algebra.specs.Rename.{below, is_not, renumbered}
use Rattle.mig_algebra.proofs.Truth.{Reads, lits_with-true, head-reads}
use Rattle.mig_algebra.proofs.Without.{row-before, row-below}
use Rattle.mig_classes.specs.Forests.{atom_of}
use Rattle.mig_classes.specs.Substituted.{written, substituted, column_within, is_of_others, MayGo, MeansAsBefore}

-- a test that all items pass
pub all-at : {X : Type 0} (p : X → Bool) (xs : List X) (i : ℕ) (d : X) → list_all p xs ≡ true → i < length xs → p (slice_index_or xs i d) ≡ true
all-at p [] i d h l = absurd (omega (arith, l))
all-at p (x ∷ xs) zero d h l = (and_parts (p x) (list_all p xs) h).0
all-at p (x ∷ xs) (suc i) d h l = all-at p xs i d (and_parts (p x) (list_all p xs) h).1 (omega (arith, l))

-- a number of others, where one is taken away
pub below-within : (i w a b : ℕ) → a ≡ i → w < a + b + 1 → w ≢ i → below i w < a + b
below-within i w a b e h ne = grind (arith, nat_tests)

-- the test of a column of the variable that goes
own-within : (i n v c : ℕ) → (v == i) ≡ true → column_within i n (Col v c) ≡ true → c < n
own-within i n v c q h = ltb-true c n (ap (λ b. not b || nat_lt c n) (sym q) ∙ h)

module _ (s : Setting) (c d : Env) (p : Placed) (i : ℕ) (atoms : List Atom) (at : length c ≡ i) (others : list_all (is_of_others i (length c + length d + 1)) atoms ≡ true) (cols : (col : ℕ) → col < length atoms → value_at p col ≡ value_of s (c ++ (p ∷ d)) (atom_of atoms col)) where
  -- the row of another variable
  row-still : (k : Env) (v : ℕ) → v ≢ i → row_at ((c ++ (p ∷ d)) ++ k) v ≡ row_at ((c ++ d) ++ k) (below i v)
  row-still k v ne =
      ap (λ l. row_at l v) (append_assoc c (p ∷ d) k) ∙ row-below c (d ++ k) p i v at ne ∙ ap (λ l. row_at l (below i v)) (sym (append_assoc c d k))

  -- an atom of the others, in its new number
  lowered-value : (k : Env) (y : Atom) → is_of_others i (length c + length d + 1) y ≡ true → value_of s (c ++ (p ∷ d)) y ≡ value_of s ((c ++ d) ++ k) (renumbered (below i) y)
  lowered-value k (Int n) h = refl
  lowered-value k (Text t) h = refl
  lowered-value k (Param n) h = refl
  lowered-value k (Fresh n) h = refl
  lowered-value k (Col w e) h =
      let j = and_parts (nat_lt w (length c + length d + 1)) (not (w == i)) h in
      let ne = eqb-false w i (not-true (w == i) j.1) in
      let in' : below i w < length (c ++ d) = omega (arith, below-within i w (length c) (length d) at (ltb-true w (length c + length d + 1) j.0) ne, length-append c d) in
      ap (λ (r : Placed). value_at r e) (row-below c d p i w at ne ∙ sym (row-before (c ++ d) k (below i w) in'))

  column : (k : Env) (v col : ℕ) → ((v == i) ≡ true) × (v ≡ i) ⊎ ((v == i) ≡ false) × (v ≢ i) → column_within i (length atoms) (Col v col) ≡ true → value_of s ((c ++ (p ∷ d)) ++ k) (Col v col) ≡ value_of s ((c ++ d) ++ k) (written i atoms (Col v col))
  column k v col (inl q) t =
      let in' = own-within i (length atoms) v col q.0 t in
      let own : row_at ((c ++ (p ∷ d)) ++ k) v ≡ p = ap (λ l. row_at l v) (append_assoc c (p ∷ d) k) ∙ get_or_at c p (d ++ k) no_row v (at ∙ sym q.1) in
      ap (λ (r : Placed). value_at r col) own ∙ cols col in'
      ∙ lowered-value k (atom_of atoms col) (all-at (is_of_others i (length c + length d + 1)) atoms col _ others in')
      ∙ ap (λ b. value_of s ((c ++ d) ++ k) (cond b (renumbered (below i) (atom_of atoms col)) (Col (below i v) col))) (sym q.0)
  column k v col (inr q) t =
      ap (λ (r : Placed). value_at r col) (row-still k v q.1)
      ∙ ap (λ b. value_of s ((c ++ d) ++ k) (cond b (renumbered (below i) (atom_of atoms col)) (Col (below i v) col))) (sym q.0)

  atom : (k : Env) (x : Atom) → column_within i (length atoms) x ≡ true → value_of s ((c ++ (p ∷ d)) ++ k) x ≡ value_of s ((c ++ d) ++ k) (written i atoms x)
  atom k (Int n) t = refl
  atom k (Text n) t = refl
  atom k (Param n) t = refl
  atom k (Fresh n) t = refl
  atom k (Col v col) t = column k v col (eqb_tells v i) t

  -- without the variable
  pub reads-written : Reads s (c ++ (p ∷ d)) (c ++ d) (column_within i (length atoms)) (is_not i) (written i atoms) (below i)
  reads-written = record {
    atoms = atom;
    ids = λ k v t. ap (λ (r : Placed). r.id) (row-still k v (eqb-false v i (not-true (v == i) t)));
  }

-- a term without one of its variables means what it meant
pub substituted-means : (i : ℕ) (atoms : List Atom) (t : Term) → MayGo i atoms t → MeansAsBefore i atoms t (substituted i atoms t)
substituted-means i atoms t m = record {
  lits = λ s c d p at count cols. sym (lits_with-true s (column_within i (length atoms)) (is_not i) (written i atoms) (below i) (c ++ (p ∷ d)) (c ++ d) (reads s c d p at count cols) t.lits m.lits);
  head = λ s c d p at count cols. sym (head-reads s (column_within i (length atoms)) (is_not i) (written i atoms) (below i) (c ++ (p ∷ d)) (c ++ d) (reads s c d p at count cols) t.head m.head);
}
  where
    reads : (s : Setting) (c d : Env) (p : Placed) → length c ≡ i → length c + length d + 1 ≡ length t.vars → ((col : ℕ) → col < length atoms → value_at p col ≡ value_of s (c ++ (p ∷ d)) (atom_of atoms col)) → Reads s (c ++ (p ∷ d)) (c ++ d) (column_within i (length atoms)) (is_not i) (written i atoms) (below i)
    reads s c d p at count cols = reads-written s c d p i atoms at (ap (λ n. list_all (is_of_others i n) atoms) count ∙ m.others) cols

-- terms with equal parts
pub term-made : (vs vs' : List Var) (ls ls' : List Lit) (hs hs' : List Atom) → vs ≡ vs' → ls ≡ ls' → hs ≡ hs' → ◌≡◌ {A = Term} (record { vars = vs; lits = ls; head = hs }) (record { vars = vs'; lits = ls'; head = hs' })
term-made vs vs' ls ls' hs hs' v l h =
    ap₂ (λ (x : List Var) (y : List Lit). record { vars = x; lits = y; head = hs }) v l
    ∙ ap (λ (z : List Atom). record { vars = vs'; lits = ls'; head = z }) h
