-- The classes into which a list of literals groups atoms: its equalities make atoms equal.
use Rattle.std.specs.Prelude.{◌≡◌, Bool, true, false, cond, ◌||◌, List, [], ◌∷◌, map, filter}
use Rattle.std.specs.Ordering.{is_eq}
use Rattle.mig_schema.specs.declared.programs.Op.TheVariants.{Eq, Ne, Lt, Le, Gt, Ge}
use Rattle.mig_algebra.specs.declared.atoms.Atom.{Atom}
use Rattle.mig_algebra.specs.declared.literals.Lit.{Lit, Cmp, Other, Any'}
use Rattle.mig_algebra.specs.Atoms.{atom_order, atom_lt}
use Rattle.mig_algebra.specs.Sorted.{sorted_once}

-- whether two atoms are one
abbrev pub atom_eq : Atom → Atom → Bool
atom_eq a b = is_eq (atom_order a b)

-- the atom that stands first in the order of atoms
abbrev pub lesser : Atom → Atom → Atom
lesser a b = cond (atom_lt b a) b a

-- the least atom of the class whose least atom is a, where the classes with the least atoms u and v become one
abbrev pub merged : (u v a : Atom) → Atom
merged u v a = cond (atom_eq a u || atom_eq a v) (lesser u v) a

-- The least atom of an atom's class. Without equalities each atom is a class of its own; an equality makes two classes one. Literals of bodies count for the bodies alone.
abbrev pub least : List Lit → Atom → Atom
least [] a = a
least (Cmp Eq x y ∷ ls) a = merged (least ls x) (least ls y) (least ls a)
least (Cmp Ne x y ∷ ls) a = least ls a
least (Cmp Lt x y ∷ ls) a = least ls a
least (Cmp Le x y ∷ ls) a = least ls a
least (Cmp Gt x y ∷ ls) a = least ls a
least (Cmp Ge x y ∷ ls) a = least ls a
least (Other x y ∷ ls) a = least ls a
least (Any' held vars n row ∷ ls) a = least ls a

-- whether two atoms are in one class
abbrev pub one_class : List Lit → Atom → Atom → Bool
one_class ls a b = atom_eq (least ls a) (least ls b)

-- both sides of each equality
abbrev pub equated : List Lit → List Atom
equated [] = []
equated (Cmp Eq x y ∷ ls) = x ∷ (y ∷ equated ls)
equated (Cmp Ne x y ∷ ls) = equated ls
equated (Cmp Lt x y ∷ ls) = equated ls
equated (Cmp Le x y ∷ ls) = equated ls
equated (Cmp Gt x y ∷ ls) = equated ls
equated (Cmp Ge x y ∷ ls) = equated ls
equated (Other x y ∷ ls) = equated ls
equated (Any' held vars n row ∷ ls) = equated ls

-- the atoms that equalities name, in order, each once
abbrev pub named : List Lit → List Atom
named ls = sorted_once atom_order (equated ls)

-- the atoms of these whose class has a as its least atom
abbrev pub led_by : List Lit → List Atom → Atom → List Atom
led_by ls atoms a = filter (λ b. atom_eq (least ls b) a) atoms

-- whether a list has two items and more
abbrev pub is_several : {A : Type 0} → List A → Bool
is_several [] = false
is_several (x ∷ []) = false
is_several (x ∷ (y ∷ rest)) = true

-- the classes of two and more atoms, each sorted, in the order of their least atoms
abbrev pub classes : List Lit → List (List Atom)
classes ls = filter is_several (map (led_by ls (named ls)) (named ls))

-- ---- what classes are

-- whether both sides of each equality pass a test
abbrev pub all_equated : (Atom → Atom → Bool) → List Lit → Type 0
all_equated same [] = Unit {0}
all_equated same (Cmp Eq x y ∷ ls) = (same x y ≡ true) × all_equated same ls
all_equated same (Cmp Ne x y ∷ ls) = all_equated same ls
all_equated same (Cmp Lt x y ∷ ls) = all_equated same ls
all_equated same (Cmp Le x y ∷ ls) = all_equated same ls
all_equated same (Cmp Gt x y ∷ ls) = all_equated same ls
all_equated same (Cmp Ge x y ∷ ls) = all_equated same ls
all_equated same (Other x y ∷ ls) = all_equated same ls
all_equated same (Any' held vars n row ∷ ls) = all_equated same ls
