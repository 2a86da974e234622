-- Oriented comparisons fit where the comparisons fit, and are oriented.
use Rattle.std.proofs.Common.{◌≡◌, Bool, true, false, cond, not, ◌&&◌, List, Option, Some, None, refl, sym, ap, ◌∙◌, inl, inr, ◌⊎◌, Ordering, Less, Equal, Greater}
use Rattle.std.specs.Ordering.{is_lt, ordering_reverse}
use Rattle.std.proofs.lemmas.Bool.{cases_Bool}
use Rattle.mig_schema.specs.declared.tables.Kind.{Kind}
use Rattle.mig_schema.specs.declared.tables.Kind.TheVariants as kind
use Rattle.mig_schema.specs.declared.programs.Op.{Op}
use Rattle.mig_schema.specs.declared.programs.Op.TheVariants.{Eq, Ne, Lt, Le, Gt, Ge}
use Rattle.mig_schema.specs.Columns.{same_kind}
use Rattle.mig_algebra.specs.declared.atoms.Var.{Var}
use Rattle.mig_algebra.specs.declared.atoms.Atom.{Atom}
use Rattle.mig_algebra.specs.declared.literals.Lit.{Cmp}
use Rattle.mig_algebra.specs.Atoms.{atom_order, atom_lt, oriented}
use Rattle.mig_algebra.specs.Proper.{Sides, atom_kind, cmp_fits, lit_fits, lit_oriented}
use Rattle.mig_algebra.proofs.OrderLaws.{atom_total}

same_kind-swap : (a b : Kind) → same_kind a b ≡ same_kind b a
same_kind-swap kind.Int kind.Int = refl
same_kind-swap kind.Int kind.Text = refl
same_kind-swap kind.Int kind.Key = refl
same_kind-swap kind.Text kind.Int = refl
same_kind-swap kind.Text kind.Text = refl
same_kind-swap kind.Text kind.Key = refl
same_kind-swap kind.Key kind.Int = refl
same_kind-swap kind.Key kind.Text = refl
same_kind-swap kind.Key kind.Key = refl

ints-swap : (a b : Kind) → (same_kind a b && same_kind a kind.Int) ≡ (same_kind b a && same_kind b kind.Int)
ints-swap kind.Int kind.Int = refl
ints-swap kind.Int kind.Text = refl
ints-swap kind.Int kind.Key = refl
ints-swap kind.Text kind.Int = refl
ints-swap kind.Text kind.Text = refl
ints-swap kind.Text kind.Key = refl
ints-swap kind.Key kind.Int = refl
ints-swap kind.Key kind.Text = refl
ints-swap kind.Key kind.Key = refl

equal-swap : (x y : Option Kind) → cmp_fits Eq x y ≡ cmp_fits Eq y x
equal-swap None None = refl
equal-swap None (Some b) = refl
equal-swap (Some a) None = refl
equal-swap (Some a) (Some b) = ap (λ t. t && true) (same_kind-swap a b)

less-swap : (x y : Option Kind) → cmp_fits Lt x y ≡ cmp_fits Lt y x
less-swap None None = refl
less-swap None (Some b) = refl
less-swap (Some a) None = refl
less-swap (Some a) (Some b) = ints-swap a b

cmp_fits-other : (x y : Option Kind) → (cmp_fits Ne x y ≡ cmp_fits Eq x y) × (cmp_fits Le x y ≡ cmp_fits Lt x y) × (cmp_fits Gt x y ≡ cmp_fits Lt x y) × (cmp_fits Ge x y ≡ cmp_fits Lt x y)
cmp_fits-other None None = (refl, refl, refl, refl)
cmp_fits-other None (Some b) = (refl, refl, refl, refl)
cmp_fits-other (Some a) None = (refl, refl, refl, refl)
cmp_fits-other (Some a) (Some b) = (refl, refl, refl, refl)

-- an oriented comparison fits where the comparison fits
pub oriented-fits : (p : Sides) (sc : List Var) (op : Op) (a b : Atom) → lit_fits p sc (oriented op a b) ≡ cmp_fits op (atom_kind p sc a) (atom_kind p sc b)
oriented-fits p sc Eq a b = go (atom_lt b a)
  where
    go : (t : Bool) → lit_fits p sc (cond t (Cmp Eq b a) (Cmp Eq a b)) ≡ cmp_fits Eq (atom_kind p sc a) (atom_kind p sc b)
    go true = equal-swap (atom_kind p sc b) (atom_kind p sc a)
    go false = refl
oriented-fits p sc Ne a b = go (atom_lt b a)
  where
    go : (t : Bool) → lit_fits p sc (cond t (Cmp Ne b a) (Cmp Ne a b)) ≡ cmp_fits Ne (atom_kind p sc a) (atom_kind p sc b)
    go true = (cmp_fits-other (atom_kind p sc b) (atom_kind p sc a)).0 ∙ equal-swap (atom_kind p sc b) (atom_kind p sc a) ∙ sym (cmp_fits-other (atom_kind p sc a) (atom_kind p sc b)).0
    go false = refl
oriented-fits p sc Lt a b = refl
oriented-fits p sc Le a b = refl
oriented-fits p sc Gt a b = less-swap (atom_kind p sc b) (atom_kind p sc a) ∙ sym (cmp_fits-other (atom_kind p sc a) (atom_kind p sc b)).2
oriented-fits p sc Ge a b =
    (cmp_fits-other (atom_kind p sc b) (atom_kind p sc a)).1 ∙ less-swap (atom_kind p sc b) (atom_kind p sc a) ∙ sym (cmp_fits-other (atom_kind p sc a) (atom_kind p sc b)).3

before-behind : (o : Ordering) → is_lt o ≡ true → is_lt (ordering_reverse o) ≡ false
before-behind Less h = refl
before-behind Equal h = refl
before-behind Greater h = cc

-- of two atoms at most one stands before the other
pub atom_lt-once : (a b : Atom) → atom_lt b a ≡ true → atom_lt a b ≡ false
atom_lt-once a b h = ap is_lt (atom_total.antisymm a b) ∙ before-behind (atom_order b a) h

ordered : (op : Op) (a b : Atom) → ((x y : Atom) → lit_oriented (Cmp op x y) ≡ not (atom_lt y x)) → lit_oriented (cond (atom_lt b a) (Cmp op b a) (Cmp op a b)) ≡ true
ordered op a b is = go (cases_Bool (atom_lt b a))
  where
    go : (atom_lt b a ≡ true) ⊎ (atom_lt b a ≡ false) → lit_oriented (cond (atom_lt b a) (Cmp op b a) (Cmp op a b)) ≡ true
    go (inl t) = ap (λ x. lit_oriented (cond x (Cmp op b a) (Cmp op a b))) t ∙ is b a ∙ ap not (atom_lt-once a b t)
    go (inr f) = ap (λ x. lit_oriented (cond x (Cmp op b a) (Cmp op a b))) f ∙ is a b ∙ ap not f

-- an oriented comparison is oriented
pub oriented-oriented : (op : Op) (a b : Atom) → lit_oriented (oriented op a b) ≡ true
oriented-oriented Eq a b = ordered Eq a b (λ x y. refl)
oriented-oriented Ne a b = ordered Ne a b (λ x y. refl)
oriented-oriented Lt a b = refl
oriented-oriented Le a b = refl
oriented-oriented Gt a b = refl
oriented-oriented Ge a b = refl
