-- What fits among variables still does without one of stage 0 that it does not name.
use Rattle.std.proofs.Common.{◌≡◌, ℕ, ◌+◌, Bool, true, false, cond, ◌&&◌, List, ◌∷◌, ◌++◌, take, drop, length, refl, sym, ap, ap₂, ◌∙◌, append_assoc}
use Rattle.std.specs.Prelude.{◌==◌, slice_get}
use Rattle.std.specs.List.{list_all}
use Rattle.std.proofs.lemmas.Bool.{not-true, eqb-false}
use Rattle.std.proofs.lemmas.List.Folds.{list_all-append}
use Rattle.mig_algebra.specs.declared.atoms.Var.{Var}
use Rattle.mig_algebra.specs.declared.atoms.Atom.{Atom}
use Rattle.mig_algebra.specs.declared.atoms.Atom.TheVariants.{Int, Text, Param, Fresh, Col}
use Rattle.mig_algebra.specs.declared.literals.Lit.{Lit}
use Rattle.mig_algebra.specs.Proper.{Sides, column_kind, atom_kind, other_fits}
use Rattle.mig_algebra.specs.Rename.{below, renumbered, is_not}
use Rattle.mig_algebra.proofs.RenamedFits.{Fits}
use Rattle.mig_replacing.specs.Places.{others}
use Rattle.mig_replacing.proofs.Around.{all-take, all-drop}
use Rattle.mig_rows.specs.Writing.{into, avoids}
use Rattle.mig_rows.proofs.IntoFits.{other-stays}
use Rattle.mig_rows.proofs.Numbered.{get-other, below-same}

module _ (p : Sides) (xs : List Var) (u : Var) (ys : List Var) (i : ℕ) (at : length xs ≡ i) (first : u.stage ≡ 0) where
  var-left : (d : List Var) (v : ℕ) → (v == i) ≡ false → slice_get ((xs ++ (u ∷ ys)) ++ d) v ≡ slice_get ((xs ++ ys) ++ d) (into i i v)
  var-left d v h =
      ap (λ l. slice_get l v) (append_assoc xs (u ∷ ys) d) ∙ get-other xs u (ys ++ d) i v at (eqb-false v i h) ∙ ap (λ l. slice_get l (below i v)) (sym (append_assoc xs ys d))
      ∙ ap (λ b. slice_get ((xs ++ ys) ++ d) (below i (cond b i v))) (sym h)

  atom-left : (d : List Var) (a : Atom) → avoids i a ≡ true → atom_kind p ((xs ++ (u ∷ ys)) ++ d) a ≡ atom_kind p ((xs ++ ys) ++ d) (renumbered (into i i) a)
  atom-left d (Int n) t = refl
  atom-left d (Text n) t = refl
  atom-left d (Param n) t = refl
  atom-left d (Fresh n) t = refl
  atom-left d (Col v c) t = ap (λ o. column_kind p o c) (var-left d v (not-true (v == i) t))

  -- two others stay two
  stay-two : (a b : ℕ) → (a == i) ≡ false → (b == i) ≡ false → (a == b) ≡ (into i i a == into i i b)
  stay-two a b h k = below-same i a b (eqb-false a i h) (eqb-false b i k) ∙ ap₂ (λ p q. below i (cond p i a) == below i (cond q i b)) (sym h) (sym k)

  pub fits-left : Fits p (xs ++ (u ∷ ys)) (xs ++ ys) (avoids i) (is_not i) (renumbered (into i i)) (into i i)
  fits-left = record {
    atoms = λ d a k t e. sym (atom-left d a t) ∙ e;
    others = λ d a b h k e.
        let ha = not-true (a == i) h in
        let hb = not-true (b == i) k in
        ap₂ (other_fits (into i i a) (into i i b)) (sym (var-left d a ha)) (sym (var-left d b hb))
        ∙ other-stays u first a b (into i i a) (into i i b) (slice_get ((xs ++ (u ∷ ys)) ++ d) a) (slice_get ((xs ++ (u ∷ ys)) ++ d) b) (λ f t. let bad : false ≡ true = sym f ∙ stay-two a b ha hb ∙ t in cc) e;
  }

-- a test of the other literals
pub rest-pass : (q : Lit → Bool) (lits : List Lit) (j : ℕ) → list_all q lits ≡ true → list_all q (others lits j) ≡ true
rest-pass q lits j h = list_all-append q (take j lits) (drop (j + 1) lits) ∙ ap₂ (λ x y. x && y) (all-take q j lits h) (all-drop q (j + 1) lits h)
