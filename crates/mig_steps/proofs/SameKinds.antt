-- Variables at their numbers, what an `Other` names, and kinds that are the same.
use Rattle.std.proofs.Common.{◌≡◌, ℕ, true, not, ◌&&◌, ◌||◌, List, [], ◌∷◌, ◌++◌, length, Option, Some, None, refl, sym, ap, ◌∙◌}
use Rattle.std.specs.Prelude.{◌==◌, slice_get}
use Rattle.mig_schema.specs.declared.tables.Kind.{Kind}
use Rattle.mig_schema.specs.declared.tables.Kind.TheVariants as kind
use Rattle.mig_schema.specs.Columns.{same_kind}
use Rattle.mig_algebra.specs.declared.atoms.Var.{Var}
use Rattle.mig_algebra.specs.Proper.{same_side, other_fits}

-- its own number
pub get-own : (xs : List Var) (u : Var) (ys : List Var) (v : ℕ) → length xs ≡ v → slice_get (xs ++ (u ∷ ys)) v ≡ Some u
get-own [] u ys v h = ap (slice_get (u ∷ ys)) (sym h)
get-own (x ∷ xs) u ys v h = ap (slice_get (x ∷ (xs ++ (u ∷ ys)))) (sym h) ∙ get-own xs u ys (length xs) refl

-- `Other` looks at whether both numbers are one, and no more
pub other-numbers : (a b a' b' : ℕ) (x y : Option Var) → (a == b) ≡ (a' == b') → other_fits a b x y ≡ other_fits a' b' x y
other-numbers a b a' b' None y h = refl
other-numbers a b a' b' (Some v) None h = refl
other-numbers a b a' b' (Some v) (Some w) h = ap (λ t. same_side v.side w.side && (v.table == w.table && (not t || v.stage == 0))) h

-- kinds that are one
pub same-kind : (a b : Kind) → same_kind a b ≡ true → a ≡ b
same-kind kind.Int kind.Int h = refl
same-kind kind.Text kind.Text h = refl
same-kind kind.Key kind.Key h = refl
same-kind _ _ h = cc
