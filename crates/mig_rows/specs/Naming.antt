-- Whether one equality alone names a variable.
use Rattle.std.specs.Prelude.{ℕ, ◌+◌, nat_lt, Bool, false, cond, ◌&&◌, ◌||◌, List, [], ◌∷◌, ◌++◌, length}
use Rattle.std.specs.List.{list_all}
use Rattle.mig_schema.specs.declared.programs.Op.TheVariants.{Eq}
use Rattle.mig_algebra.specs.declared.atoms.Atom.{Atom}
use Rattle.mig_algebra.specs.declared.atoms.Atom.TheVariants.{Col}
use Rattle.mig_algebra.specs.declared.literals.Lit.{Lit, Cmp}
use Rattle.mig_classes.specs.Classes.{atom_eq, one_class}
use Rattle.mig_replacing.specs.Given.{plain}
use Rattle.mig_replacing.specs.Places.{others}
use Rattle.mig_replacing.specs.Replaced.{lit_at}
use Rattle.mig_rows.specs.Writing.{avoids, leaves}

-- the number of the first literal that names variable i; their count where none does
abbrev pub first_naming : ℕ → List Lit → ℕ
first_naming i [] = 0
first_naming i (l ∷ ls) = cond (leaves i l) (first_naming i ls + 1) 0

-- whether a is column m of variable i, and b no column of it but one of the class of column n of y
abbrev pub is_pair : List Lit → (i m y n : ℕ) → Atom → Atom → Bool
is_pair ls i m y n a b = atom_eq a (Col i m) && (avoids i b && one_class ls b (Col y n))

-- whether a literal equates the two, either way round
abbrev pub pairs : List Lit → (i m y n : ℕ) → Lit → Bool
pairs ls i m y n (Cmp Eq a b) = is_pair ls i m y n a b || is_pair ls i m y n b a
pairs ls i m y n l = false

-- whether the literal of number j, and no other, names variable i, and equates column m of it with an atom of the class of column n of y, by these literals and the others
abbrev pub names_at : (j : ℕ) → List Lit → (i m y n : ℕ) → List Lit → Bool
names_at j around i m y n lits =
    nat_lt j (length lits) && (list_all (leaves i) (others lits j) && pairs (around ++ plain (others lits j)) i m y n (lit_at lits j))

-- the same of the first literal that names it
abbrev pub names_once : List Lit → (i m y n : ℕ) → List Lit → Bool
names_once around i m y n lits = names_at (first_naming i lits) around i m y n lits
