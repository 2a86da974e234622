-- A variable is taken away: what is read at a choice with its row is read, by other atoms, at the choice without it.
use Rattle.std.proofs.Common.{◌≡◌, ◌≢◌, ℕ, suc, ◌-◌, ◌<◌, ◌≤◌, Bool, true, false, cond, List, [], ◌∷◌, ◌++◌, refl, sym, ap, ◌∙◌, arith, length, append_assoc, inl, inr, ⊎_elim, ◌⊎◌}
use Rattle.std.specs.List.{list_all}
use Rattle.std.specs.Prelude.{◌==◌}
use Rattle.std.proofs.lemmas.List.{get_or_append_left, get_or-append_right, get_or_at}
use Rattle.std.proofs.lemmas.Bool.Decides.{eqb_tells, nat_tests}
use Rattle.std.proofs.lemmas.Bool.{cases_lt, eqb-false, not-true}
use Rattle.mig_meaning.specs.declared.states.Placed.{Placed}
use Rattle.mig_meaning.specs.Rows.{no_row, value_at}
use Rattle.mig_algebra.specs.declared.atoms.Atom.{Atom}
use Rattle.mig_algebra.specs.declared.atoms.Atom.TheVariants.{Int, Text, Param, Fresh, Col}
use Rattle.mig_algebra.specs.Meaning.{Setting, Env, value_of, row_at}
use Rattle.mig_algebra.specs.Rename.{without, below, is_not}
use Rattle.mig_algebra.proofs.Truth.{Reads}

-- every atom passes
abbrev pub any_atom : Atom → Bool
any_atom a = true

-- a list of them passes
pub all-any_atom : (xs : List Atom) → list_all any_atom xs ≡ true
all-any_atom [] = refl
all-any_atom (x ∷ xs) = all-any_atom xs

-- a row of the first part
pub row-before : (c d : Env) (v : ℕ) → v < length c → row_at (c ++ d) v ≡ row_at c v
row-before c d v h = get_or_append_left c d no_row v h

-- a row of the second part
pub row-after : (c d : Env) (v : ℕ) → length c ≤ v → row_at (c ++ d) v ≡ row_at d (v - length c)
row-after c d v h = get_or-append_right c d (length c) v no_row refl h

below-lt : (i v : ℕ) → v < i → below i v ≡ v
below-lt i v h = grind (arith, nat_tests)

below-gt : (i v : ℕ) → i < v → below i v ≡ v - 1
below-gt i v h = grind (arith, nat_tests)

-- the row of another variable than the one taken away
pub row-below : (c d : Env) (p : Placed) (i v : ℕ) → length c ≡ i → v ≢ i → row_at (c ++ (p ∷ d)) v ≡ row_at (c ++ d) (below i v)
row-below c d p i v h ne = ⊎_elim less more (cases_lt v i)
  where
    less : v < i → row_at (c ++ (p ∷ d)) v ≡ row_at (c ++ d) (below i v)
    less lt =
        let in' : v < length c = omega arith in
        row-before c (p ∷ d) v in' ∙ sym (row-before c d v in') ∙ ap (row_at (c ++ d)) (sym (below-lt i v lt))

    more : i ≤ v → row_at (c ++ (p ∷ d)) v ≡ row_at (c ++ d) (below i v)
    more le =
        let gt : i < v = omega arith in
        let step : v - length c ≡ suc (v - 1 - length c) = omega arith in
        row-after c (p ∷ d) v (omega arith) ∙ ap (row_at (p ∷ d)) step
        ∙ sym (row-after c d (v - 1) (omega arith)) ∙ ap (row_at (c ++ d)) (sym (below-gt i v gt))

-- without the variable i, for each column of which `to` gives an atom of its value
pub reads-without : (s : Setting) (c d : Env) (p : Placed) (i : ℕ) (to : ℕ → Atom) → length c ≡ i → ((k : Env) (col : ℕ) → value_at p col ≡ value_of s ((c ++ d) ++ k) (to col)) → Reads s (c ++ (p ∷ d)) (c ++ d) any_atom (is_not i) (without i to) (below i)
reads-without s c d p i to h cols = record {
  atoms = λ k x t. atom k x;
  ids = λ k v t. ap (λ (r : Placed). r.id) (other k v (eqb-false v i (not-true (v == i) t)));
}
  where
    other : (k : Env) (v : ℕ) → v ≢ i → row_at ((c ++ (p ∷ d)) ++ k) v ≡ row_at ((c ++ d) ++ k) (below i v)
    other k v ne =
        ap (λ l. row_at l v) (append_assoc c (p ∷ d) k) ∙ row-below c (d ++ k) p i v h ne ∙ ap (λ l. row_at l (below i v)) (sym (append_assoc c d k))

    column : (k : Env) (v col : ℕ) → ((v == i) ≡ true) × (v ≡ i) ⊎ ((v == i) ≡ false) × (v ≢ i) → value_of s ((c ++ (p ∷ d)) ++ k) (Col v col) ≡ value_of s ((c ++ d) ++ k) (without i to (Col v col))
    column k v col (inl e) =
        let seam : row_at ((c ++ (p ∷ d)) ++ k) v ≡ p = ap (λ l. row_at l v) (append_assoc c (p ∷ d) k) ∙ get_or_at c p (d ++ k) no_row v (h ∙ sym e.1) in
        ap (λ (r : Placed). value_at r col) seam ∙ cols k col
        ∙ ap (λ b. value_of s ((c ++ d) ++ k) (cond b (to col) (Col (below i v) col))) (sym e.0)
    column k v col (inr e) =
        ap (λ (r : Placed). value_at r col) (other k v e.1)
        ∙ ap (λ b. value_of s ((c ++ d) ++ k) (cond b (to col) (Col (below i v) col))) (sym e.0)

    atom : (k : Env) (x : Atom) → value_of s ((c ++ (p ∷ d)) ++ k) x ≡ value_of s ((c ++ d) ++ k) (without i to x)
    atom k (Int n) = refl
    atom k (Text t) = refl
    atom k (Param n) = refl
    atom k (Fresh n) = refl
    atom k (Col v col) = column k v col (eqb_tells v i)
