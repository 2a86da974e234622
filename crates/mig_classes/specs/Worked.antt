-- Worked comparisons: what lists give, and which contradict themselves. Variable 0 ranges over rows from before the call, variable 1 over rows after one statement.
use Rattle.std.specs.Prelude.{◌≡◌, ℕ, Bool, true, false, List, [], ◌∷◌, pos, refl}
use Rattle.mig_schema.specs.declared.faults.Side.TheVariants.{Old}
use Rattle.mig_schema.specs.declared.programs.Op.{Op}
use Rattle.mig_schema.specs.declared.programs.Op.TheVariants.{Eq, Ne, Lt, Le}
use Rattle.mig_algebra.specs.declared.atoms.Var.{Var}
use Rattle.mig_algebra.specs.declared.atoms.Atom.{Atom}
use Rattle.mig_algebra.specs.declared.atoms.Atom.TheVariants.{Int, Text, Param, Fresh, Col}
use Rattle.mig_algebra.specs.declared.literals.Lit.{Lit, Cmp, Other}
use Rattle.mig_algebra.specs.Atoms.{oriented}
use Rattle.mig_classes.specs.Classes.{classes}
use Rattle.mig_classes.specs.Given.{given, contradictory}

abbrev at_stage : ℕ → Var
at_stage n = record { side = Old; table = 0; stage = n }

abbrev scope : List Var
scope = at_stage 0 ∷ (at_stage 1 ∷ [])

-- the columns of both variables, and constants
abbrev x0 : Atom
x0 = Col 0 0

abbrev x1 : Atom
x1 = Col 0 1

abbrev y0 : Atom
y0 = Col 1 0

abbrev y1 : Atom
y1 = Col 1 1

abbrev int : ℕ → Atom
int n = Int (pos n)

abbrev text : ℕ → Atom
text n = Text (n ∷ [])

abbrev eq : Atom → Atom → Lit
eq a b = oriented Eq a b

abbrev gives : List Lit → Op → Atom → Atom → Bool
gives ls op a b = given scope ls op a b

-- ---- no list at all

itself : gives [] Eq y0 y0 ≡ true
itself = refl

constants : gives [] Lt (int 1) (int 2) ≡ true
constants = refl

constants_not : gives [] Lt (int 2) (int 1) ≡ false
constants_not = refl

labels : gives [] Ne (Fresh 0) (Fresh 1) ≡ true
labels = refl

one_label : gives [] Ne (Fresh 1) (Fresh 1) ≡ false
one_label = refl

-- a column from before the call holds none of its keys; a column from after a statement may
label_and_old : gives [] Ne (Fresh 0) x0 ≡ true
label_and_old = refl

label_and_new : gives [] Ne (Fresh 0) y0 ≡ false
label_and_new = refl

parameters : gives [] Ne (Param 0) (Param 1) ≡ false
parameters = refl

-- ---- classes

abbrev chain : List Lit
chain = eq x0 x1 ∷ (eq y0 x1 ∷ [])

through : gives chain Eq x0 y0 ≡ true
through = refl

at_most : gives chain Le y0 x0 ≡ true
at_most = refl

not_less : gives chain Lt x0 y0 ≡ false
not_less = refl

elsewhere : gives chain Eq x0 y1 ≡ false
elsewhere = refl

-- ---- constants of classes

abbrev numbers : List Lit
numbers = eq (int 3) x0 ∷ (eq (int 5) y0 ∷ [])

less : gives numbers Lt x0 y0 ≡ true
less = refl

unequal : gives numbers Ne y0 x0 ≡ true
unequal = refl

more : gives numbers Lt y0 x0 ≡ false
more = refl

texts : gives (eq (text 97) x1 ∷ []) Ne x1 (text 98) ≡ true
texts = refl

-- of two constants in one class either serves
abbrev clash : List Lit
clash = eq (int 1) x0 ∷ (eq (int 9) x0 ∷ [])

one_serves : gives clash Lt x0 (int 5) ≡ true
one_serves = refl

other_serves : gives clash Lt (int 5) x0 ≡ true
other_serves = refl

-- ---- keys of classes

label_of_class : gives (eq (Fresh 0) y0 ∷ []) Ne y0 (Fresh 1) ≡ true
label_of_class = refl

old_of_class : gives (eq x0 y1 ∷ []) Ne y1 (Fresh 0) ≡ true
old_of_class = refl

-- ---- comparisons of the list

abbrev said : List Lit
said = oriented Ne x0 x1 ∷ (eq x1 y1 ∷ (Cmp Lt x0 y0 ∷ []))

turned : gives said Ne y1 x0 ≡ true
turned = refl

as_said : gives said Lt x0 y0 ≡ true
as_said = refl

not_turned : gives said Lt y0 x0 ≡ false
not_turned = refl

other_operator : gives said Le x0 y0 ≡ false
other_operator = refl

-- ---- contradictions

two_constants : contradictory scope clash ≡ true
two_constants = refl

two_labels : contradictory scope (eq (Fresh 0) y0 ∷ (eq (Fresh 1) y0 ∷ [])) ≡ true
two_labels = refl

old_key : contradictory scope (eq (Fresh 0) x0 ∷ []) ≡ true
old_key = refl

new_key : contradictory scope (eq (Fresh 0) y0 ∷ []) ≡ false
new_key = refl

both_ways : contradictory scope (Cmp Lt x0 y0 ∷ (Cmp Le y0 x0 ∷ [])) ≡ true
both_ways = refl

one_way : contradictory scope (Cmp Le x0 y0 ∷ (Cmp Le y0 x0 ∷ [])) ≡ false
one_way = refl

denied : contradictory scope (eq x0 x1 ∷ (oriented Ne x0 x1 ∷ [])) ≡ true
denied = refl

itself_parted : contradictory scope (Other 1 1 ∷ []) ≡ true
itself_parted = refl

parted : contradictory scope (Other 0 1 ∷ []) ≡ false
parted = refl

-- ---- classes, sorted, in the order of their least atoms

three : classes (eq y1 y0 ∷ (eq x1 (Param 0) ∷ (eq (int 7) y1 ∷ (eq x0 x0 ∷ [])))) ≡ (int 7 ∷ (y0 ∷ (y1 ∷ []))) ∷ ((Param 0 ∷ (x1 ∷ [])) ∷ [])
three = refl
