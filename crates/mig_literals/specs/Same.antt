-- A rule by which a term's equalities are written once for each class, and everywhere else the least atom of its class for each atom.
use Rattle.std.specs.Prelude.{ℕ, cond, not, List, [], ◌∷◌, ◌++◌, map, filter, Option, Some, None}
use Rattle.std.specs.List.{flat_map}
use Rattle.std.specs.Ordering.{is_eq}
use Rattle.mig_schema.specs.declared.programs.Op.TheVariants.{Eq, Ne, Lt, Le, Gt, Ge}
use Rattle.mig_algebra.specs.declared.atoms.Atom.{Atom}
use Rattle.mig_algebra.specs.declared.literals.Lit.{Lit, Cmp, Other, Any'}
use Rattle.mig_algebra.specs.declared.terms.Term.{Term}
use Rattle.mig_algebra.specs.Orders.{term_order}
use Rattle.mig_algebra.specs.Rename.{lits_with}
use Rattle.mig_classes.specs.Classes.{atom_eq, least, named, led_by, classes}

-- the least atom of a class, equal to each other atom of it
abbrev pub class_lits : List Lit → Atom → List Lit
class_lits ls r = map (Cmp Eq r) (filter (λ b. not (atom_eq b r)) (led_by ls (named ls) r))

-- the same of all classes, in the order of their least atoms
abbrev pub same_lits : List Lit → List Lit
same_lits ls = flat_map (class_lits ls) (named ls)

-- the literals that are no equalities
abbrev pub unequated : List Lit → List Lit
unequated [] = []
unequated (Cmp Eq x y ∷ ls) = unequated ls
unequated (Cmp Ne x y ∷ ls) = Cmp Ne x y ∷ unequated ls
unequated (Cmp Lt x y ∷ ls) = Cmp Lt x y ∷ unequated ls
unequated (Cmp Le x y ∷ ls) = Cmp Le x y ∷ unequated ls
unequated (Cmp Gt x y ∷ ls) = Cmp Gt x y ∷ unequated ls
unequated (Cmp Ge x y ∷ ls) = Cmp Ge x y ∷ unequated ls
unequated (Other x y ∷ ls) = Other x y ∷ unequated ls
unequated (Any' held vars n row ∷ ls) = Any' held vars n row ∷ unequated ls

-- a variable keeps its number
abbrev pub kept : ℕ → ℕ
kept v = v

-- the term with its classes written once
abbrev pub term_same : Term → Term
term_same t = record {
  vars = t.vars;
  lits = same_lits t.lits ++ lits_with (least t.lits) kept (unequated t.lits);
  head = map (least t.lits) t.head;
}

-- where it differs
abbrev pub by_same : Term → Option (List Term)
by_same t = cond (not (is_eq (term_order t (term_same t)))) (Some (term_same t ∷ [])) None

-- the rule
abbrev pub same : List ℕ → Term → Option (List Term)
same [] t = by_same t
same (a ∷ args) t = None

-- ---- the same by the classes of two and more

-- the first atom of a class, equal to each other
abbrev pub first_equal : List Atom → List Lit
first_equal [] = []
first_equal (a ∷ bs) = map (Cmp Eq a) bs

abbrev pub classes_equal : List Lit → List Lit
classes_equal ls = flat_map first_equal (classes ls)
