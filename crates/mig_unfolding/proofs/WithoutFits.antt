-- What fits among variables fits without one of them, where atoms of the same kinds are written for its columns.
use Rattle.std.proofs.Common.{◌≡◌, ◌≢◌, ℕ, zero, suc, true, false, cond, List, [], ◌∷◌, ◌++◌, length, Some, refl, sym, ap, ap₂, ◌∙◌, arith, inl, inr, ◌⊎◌, append_assoc}
use Rattle.std.specs.Prelude.{◌==◌, slice_get}
use Rattle.std.proofs.lemmas.Bool.{not-true, eqb-false}
use Rattle.std.proofs.lemmas.Bool.Decides.{eqb_tells, nat_tests}
use Rattle.mig_schema.specs.declared.tables.Kind.{Kind}
use Rattle.mig_algebra.specs.declared.atoms.Var.{Var}
use Rattle.mig_algebra.specs.declared.atoms.Atom.{Atom}
use Rattle.mig_algebra.specs.declared.atoms.Atom.TheVariants.{Int, Text, Param, Fresh, Col}
use Rattle.mig_algebra.specs.Rename.{without, below, is_not}
use Rattle.mig_algebra.specs.Proper.{Sides, column_kind, atom_kind, other_fits}
use Rattle.mig_algebra.proofs.Without.{any_atom}
use Rattle.mig_algebra.proofs.RenamedFits.{Fits, others_fit}
use Rattle.mig_steps.proofs.SameKinds.{get-own, other-numbers}

-- ---- a variable that goes from a scope

-- the variable of another number
pub get-below : (xs : List Var) (u : Var) (ys : List Var) (v i : ℕ) → length xs ≡ v → i ≢ v → slice_get (xs ++ (u ∷ ys)) i ≡ slice_get (xs ++ ys) (below v i)
get-below [] u ys v zero h ne = absurd (ne h)
get-below [] u ys v (suc j) h ne =
    let e : below v (suc j) ≡ j = low v j (sym h) in ap (slice_get ys) (sym e)
  where
    low : (a b : ℕ) → a ≡ 0 → below a (suc b) ≡ b
    low a b z = grind (arith, nat_tests)
get-below (x ∷ xs) u ys v zero h ne = let e : below v zero ≡ 0 = low v (length xs) (sym h) in ap (slice_get (x ∷ (xs ++ ys))) (sym e)
  where
    low : (a b : ℕ) → a ≡ suc b → below a zero ≡ 0
    low a b z = grind (arith, nat_tests)
get-below (x ∷ xs) u ys v (suc j) h ne =
    let e : below v (suc j) ≡ suc (below (length xs) j) = low v (length xs) j (sym h) ne in
    get-below xs u ys (length xs) j refl (λ q. ne (ap suc q ∙ h)) ∙ ap (slice_get (x ∷ (xs ++ ys))) (sym e)
  where
    low : (a b c : ℕ) → a ≡ suc b → suc c ≢ a → below a (suc c) ≡ suc (below b c)
    low a b c z n = grind (arith, nat_tests)

below-same : (v a b : ℕ) → a ≢ v → b ≢ v → (a == b) ≡ (below v a == below v b)
below-same v a b h i = grind (arith, nat_tests)

-- where the atoms for the variable's columns have the columns' kinds
pub fits-without : (p : Sides) (xs : List Var) (u : Var) (ys : List Var) (v : ℕ) (to : ℕ → Atom) → length xs ≡ v → ((sc : List Var) (c : ℕ) (k : Kind) → column_kind p (Some u) c ≡ Some k → atom_kind p sc (to c) ≡ Some k) → Fits p (xs ++ (u ∷ ys)) (xs ++ ys) any_atom (is_not v) (without v to) (below v)
fits-without p xs u ys v to h kinds = record {
  atoms = λ d x k t e. atom d x k e;
  others = λ d a b s t e. others d a b (eqb-false a v (not-true (a == v) s)) (eqb-false b v (not-true (b == v) t)) e;
}
  where
    at : (d : List Var) (i : ℕ) → i ≢ v → slice_get ((xs ++ (u ∷ ys)) ++ d) i ≡ slice_get ((xs ++ ys) ++ d) (below v i)
    at d i ne = ap (λ l. slice_get l i) (append_assoc xs (u ∷ ys) d) ∙ get-below xs u (ys ++ d) v i h ne ∙ ap (λ l. slice_get l (below v i)) (sym (append_assoc xs ys d))

    column : (d : List Var) (i c : ℕ) (k : Kind) → ((i == v) ≡ true) × (i ≡ v) ⊎ ((i == v) ≡ false) × (i ≢ v) → column_kind p (slice_get ((xs ++ (u ∷ ys)) ++ d) i) c ≡ Some k → atom_kind p ((xs ++ ys) ++ d) (without v to (Col i c)) ≡ Some k
    column d i c k (inl q) e =
        let own : slice_get ((xs ++ (u ∷ ys)) ++ d) i ≡ Some u = ap (λ l. slice_get l i) (append_assoc xs (u ∷ ys) d) ∙ get-own xs u (ys ++ d) i (h ∙ sym q.1) in
        ap (λ b. atom_kind p ((xs ++ ys) ++ d) (cond b (to c) (Col (below v i) c))) q.0
        ∙ kinds ((xs ++ ys) ++ d) c k (ap (λ o. column_kind p o c) (sym own) ∙ e)
    column d i c k (inr q) e =
        ap (λ b. atom_kind p ((xs ++ ys) ++ d) (cond b (to c) (Col (below v i) c))) q.0
        ∙ ap (λ o. column_kind p o c) (sym (at d i q.1)) ∙ e

    atom : (d : List Var) (x : Atom) (k : Kind) → atom_kind p ((xs ++ (u ∷ ys)) ++ d) x ≡ Some k → atom_kind p ((xs ++ ys) ++ d) (without v to x) ≡ Some k
    atom d (Int n) k e = e
    atom d (Text n) k e = e
    atom d (Param n) k e = e
    atom d (Fresh n) k e = e
    atom d (Col i c) k e = column d i c k (eqb_tells i v) e

    others : (d : List Var) (a b : ℕ) → a ≢ v → b ≢ v → others_fit ((xs ++ (u ∷ ys)) ++ d) a b ≡ true → others_fit ((xs ++ ys) ++ d) (below v a) (below v b) ≡ true
    others d a b s t e =
        sym (other-numbers a b (below v a) (below v b) (slice_get ((xs ++ ys) ++ d) (below v a)) (slice_get ((xs ++ ys) ++ d) (below v b)) (below-same v a b s t))
        ∙ ap₂ (other_fits a b) (sym (at d a s)) (sym (at d b t)) ∙ e
