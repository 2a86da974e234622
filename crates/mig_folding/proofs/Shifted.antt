-- Variables behind others, and outputs of equal kinds.
use Rattle.std.proofs.Common.{◌≡◌, ℕ, suc, ◌+◌, true, List, [], ◌∷◌, ◌++◌, length, Some, refl, sym, ap, ap₂, ◌∙◌, arith, append_assoc}
use Rattle.std.specs.Prelude.{◌==◌, slice_get}
use Rattle.std.proofs.lemmas.Bool.{and_parts}
use Rattle.std.proofs.lemmas.Bool.Decides.{nat_tests}
use Rattle.mig_schema.specs.declared.tables.ColId.{ColId}
use Rattle.mig_schema.specs.declared.tables.Kind.{Kind}
use Rattle.mig_schema.specs.declared.tables.Schema.{Schema}
use Rattle.mig_schema.specs.Columns.{kind_of, same_kind}
use Rattle.mig_algebra.specs.declared.atoms.Var.{Var}
use Rattle.mig_algebra.specs.declared.atoms.Atom.{Atom}
use Rattle.mig_algebra.specs.declared.atoms.Atom.TheVariants.{Int, Text, Param, Fresh, Col}
use Rattle.mig_algebra.specs.Rename.{renumbered}
use Rattle.mig_algebra.specs.Proper.{Sides, column_kind, atom_kind, other_fits}
use Rattle.mig_algebra.proofs.RenamedFits.{Fits}
use Rattle.mig_algebra.proofs.Without.{any_atom}
use Rattle.mig_algebra.proofs.Moved.{any_id}
use Rattle.mig_obligations.specs.Shaped.{same_kinds}
use Rattle.mig_steps.proofs.SameKinds.{other-numbers}

-- ---- scopes where a variable goes and others come

-- a variable that comes
pub get-coming : {X : Type 0} (xs ys : List X) (n t : ℕ) → length xs ≡ n → slice_get (xs ++ ys) (n + t) ≡ slice_get ys t
get-coming [] ys n t h = let e : n + t ≡ t = omega (arith, h) in ap (slice_get ys) e
get-coming (x ∷ xs) ys n t h =
    let e : n + t ≡ suc (length xs + t) = omega (arith, h) in
    ap (slice_get (x ∷ (xs ++ ys))) e ∙ get-coming xs ys (length xs) t refl

-- equally many outputs
pub kinds-lengths : (s s' : Schema) (os is : List ColId) → same_kinds s s' os is ≡ true → length os ≡ length is
kinds-lengths s s' [] [] h = refl
kinds-lengths s s' [] (i ∷ is) h = cc
kinds-lengths s s' (o ∷ os) [] h = cc
kinds-lengths s s' (o ∷ os) (i ∷ is) h = ap suc (kinds-lengths s s' os is (and_parts (same_kind (kind_of s o) (kind_of s' i)) (same_kinds s s' os is) h).1)

-- where further variables stand before these
pub fits-shifted : (p : Sides) (xs ys : List Var) (n : ℕ) → length xs ≡ n → Fits p ys (xs ++ ys) any_atom any_id (renumbered (λ k. n + k)) (λ k. n + k)
fits-shifted p xs ys n h = record {
  atoms = λ d a k t e. atom d a k e;
  others = λ d a b s t e.
      sym (other-numbers a b (n + a) (n + b) (slice_get ((xs ++ ys) ++ d) (n + a)) (slice_get ((xs ++ ys) ++ d) (n + b)) (shift-same n a b)) ∙ ap₂ (other_fits a b) (sym (at d a)) (sym (at d b)) ∙ e;
}
  where
    shift-same : (m a b : ℕ) → (a == b) ≡ (m + a == m + b)
    shift-same m a b = grind (arith, nat_tests)

    at : (d : List Var) (i : ℕ) → slice_get (ys ++ d) i ≡ slice_get ((xs ++ ys) ++ d) (n + i)
    at d i = sym (get-coming xs (ys ++ d) n i h) ∙ ap (λ l. slice_get l (n + i)) (sym (append_assoc xs ys d))

    atom : (d : List Var) (a : Atom) (k : Kind) → atom_kind p (ys ++ d) a ≡ Some k → atom_kind p ((xs ++ ys) ++ d) (renumbered (λ j. n + j) a) ≡ Some k
    atom d (Int i) k e = e
    atom d (Text i) k e = e
    atom d (Param i) k e = e
    atom d (Fresh i) k e = e
    atom d (Col i c) k e = ap (λ o. column_kind p o c) (sym (at d i)) ∙ e
