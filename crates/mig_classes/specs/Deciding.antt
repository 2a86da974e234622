-- Comparisons of constants, and classes that clash, in the parts that the code asks.
use Rattle.std.specs.Prelude.{Bool, true, false, not, ◌&&◌, int_le, ℤ, List}
use Rattle.std.specs.Ordering.{int_eq}
use Rattle.mig_algebra.specs.declared.atoms.Atom.{Atom}
use Rattle.mig_algebra.specs.declared.literals.Lit.{Lit}
use Rattle.mig_classes.specs.Classes.{atom_eq, least}
use Rattle.mig_classes.specs.Given.{some_of_classes}
use Rattle.mig_schema.specs.declared.programs.Op.{Op}
use Rattle.mig_schema.specs.declared.programs.Op.TheVariants.{Eq, Ne, Lt, Le, Gt, Ge}

-- an operator at values that are not ordered, which are the same or not
abbrev pub unordered : Op → Bool → Bool
unordered Eq same = same
unordered Ne same = not same
unordered Lt same = false
unordered Le same = true
unordered Gt same = false
unordered Ge same = true

-- an operator at numbers
abbrev pub ordered : Op → ℤ → ℤ → Bool
ordered Eq i j = int_eq i j
ordered Ne i j = not (int_eq i j)
ordered Lt i j = not (int_le j i)
ordered Le i j = int_le i j
ordered Gt i j = not (int_le i j)
ordered Ge i j = int_le j i

-- whether an atom is the least of its class, which holds two atoms that pass a test
abbrev pub clashes : List Lit → (Atom → Atom → Bool) → Atom → Bool
clashes ls test a = atom_eq (least ls a) a && some_of_classes ls test a a

-- whether an atom is in the class with this least one, and passes a test
abbrev pub is_led_by : List Lit → (least : Atom) → (Atom → Bool) → Atom → Bool
is_led_by ls r test a = atom_eq r (least ls a) && test a
