-- Equalities that a list of literals gives hold wherever the list is true, at any rows.
use Rattle.std.proofs.Common.{◌≡◌, true, ◌&&◌, ◌||◌, List, [], ◌∷◌, sym, ◌∙◌, ⊎_elim}
use Rattle.std.specs.List.{list_any}
use Rattle.std.proofs.lemmas.Bool.{and_parts, or_cases}
use Rattle.mig_schema.specs.declared.programs.Op.TheVariants.{Eq, Ne, Lt, Le, Gt, Ge}
use Rattle.mig_meaning.proofs.Bags.{value_eq-true}
use Rattle.mig_algebra.specs.declared.atoms.Var.{Var}
use Rattle.mig_algebra.specs.declared.atoms.Atom.{Atom}
use Rattle.mig_algebra.specs.declared.literals.Lit.{Lit, Cmp, Other, Any'}
use Rattle.mig_algebra.specs.Meaning.{Setting, Env, value_of, lit_true, lits_true}
use Rattle.mig_classes.specs.Classes.{one_class, equated}
use Rattle.mig_classes.specs.Given.{constants_compare, class_of, says, by_class, by_constants, by_keys, given}
use Rattle.mig_classes.proofs.Classed.{one_class-value}
use Rattle.mig_classes.proofs.Giving.{any-filtered, constants-true}

-- ---- given equalities

module _ (s : Setting) (e : Env) (all : List Lit) (truth : lits_true s e all ≡ true) where
  same-class : (a b : Atom) → one_class all a b ≡ true → value_of s e a ≡ value_of s e b
  same-class a b k = one_class-value s e all a b truth k

  said : (a b : Atom) (l : Lit) → lit_true s e l ≡ true → says all Eq a b l ≡ true → value_of s e a ≡ value_of s e b
  said a b (Cmp Eq x y) t h = ⊎_elim straight turned (or_cases (one_class all a x && one_class all b y) (one_class all a y && one_class all b x) h)
    where
      equal : value_of s e x ≡ value_of s e y
      equal = value_eq-true (value_of s e x) (value_of s e y) t

      straight : (one_class all a x && one_class all b y) ≡ true → value_of s e a ≡ value_of s e b
      straight p = let r = and_parts (one_class all a x) (one_class all b y) p in same-class a x r.0 ∙ equal ∙ sym (same-class b y r.1)

      turned : (one_class all a y && one_class all b x) ≡ true → value_of s e a ≡ value_of s e b
      turned p = let r = and_parts (one_class all a y) (one_class all b x) p in same-class a y r.0 ∙ sym equal ∙ sym (same-class b x r.1)
  said a b (Cmp Ne x y) t h = cc
  said a b (Cmp Lt x y) t h = cc
  said a b (Cmp Le x y) t h = cc
  said a b (Cmp Gt x y) t h = cc
  said a b (Cmp Ge x y) t h = cc
  said a b (Other x y) t h = cc
  said a b (Any' held vars n row) t h = cc

  some-said : (a b : Atom) (ls : List Lit) → lits_true s e ls ≡ true → list_any (says all Eq a b) ls ≡ true → value_of s e a ≡ value_of s e b
  some-said a b [] t h = cc
  some-said a b (l ∷ ls) t h =
      let k = and_parts (lit_true s e l) (lits_true s e ls) t in
      ⊎_elim (said a b l k.0) (some-said a b ls k.1) (or_cases (says all Eq a b l) (list_any (says all Eq a b) ls) h)

  -- an equality that the list gives
  pub given-equal : (scope : List Var) (a b : Atom) → given scope all Eq a b ≡ true → value_of s e a ≡ value_of s e b
  given-equal scope a b h =
      ⊎_elim (same-class a b)
      (λ t. ⊎_elim constants (some-said a b all truth) (or_cases (by_constants all Eq a b) (list_any (says all Eq a b) all) t))
      (or_cases (one_class all a b) (by_constants all Eq a b || list_any (says all Eq a b) all) h)
    where
      constants : by_constants all Eq a b ≡ true → value_of s e a ≡ value_of s e b
      constants t =
          let i = any-filtered (λ x. list_any (constants_compare Eq x) (class_of all b)) (one_class all a) (a ∷ equated all) t in
          let j = any-filtered (constants_compare Eq i.0) (one_class all b) (b ∷ equated all) i.3 in
          same-class a i.0 i.2 ∙ value_eq-true (value_of s e i.0) (value_of s e j.0) (constants-true s e Eq i.0 j.0 j.3) ∙ sym (same-class b j.0 j.2)
