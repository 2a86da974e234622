-- The order of atoms, and comparisons that are kept oriented.
use Rattle.std.specs.Prelude.{ℕ, Bool, true, false, cond, not}
use Rattle.std.specs.Cmp.Lexicographic.{slice_cmp}
use Rattle.std.specs.declared.cmp.Ordering.{Ordering}
use Rattle.std.specs.Ordering.{nat_cmp, int_cmp, ordering_then, is_lt}
use Rattle.mig_schema.specs.declared.programs.Op.{Op}
use Rattle.mig_schema.specs.declared.programs.Op.TheVariants.{Eq, Ne, Lt, Le, Gt, Ge}
use Rattle.mig_algebra.specs.declared.atoms.Atom.{Atom}
use Rattle.mig_algebra.specs.declared.atoms.Atom.TheVariants.{Int, Text, Param, Fresh, Col}
use Rattle.mig_algebra.specs.declared.literals.Lit.{Lit, Cmp}

-- the place of an atom's form among the forms
abbrev pub atom_rank : Atom → ℕ
atom_rank (Int i) = 0
atom_rank (Text t) = 1
atom_rank (Param p) = 2
atom_rank (Fresh n) = 3
atom_rank (Col v c) = 4

-- atoms by form, then by value, or by variable and column
abbrev pub atom_order : Atom → Atom → Ordering
atom_order (Int i) (Int j) = int_cmp i j
atom_order (Text s) (Text t) = slice_cmp nat_cmp s t
atom_order (Param p) (Param q) = nat_cmp p q
atom_order (Fresh m) (Fresh n) = nat_cmp m n
atom_order (Col v c) (Col w d) = ordering_then (nat_cmp v w) (nat_cmp c d)
atom_order a b = nat_cmp (atom_rank a) (atom_rank b)

-- whether an atom stands before another
abbrev pub atom_lt : Atom → Atom → Bool
atom_lt a b = is_lt (atom_order a b)

-- a comparison without greater-than, and with the lesser atom left where the sides may be exchanged
abbrev pub oriented : Op → Atom → Atom → Lit
oriented Eq a b = cond (atom_lt b a) (Cmp Eq b a) (Cmp Eq a b)
oriented Ne a b = cond (atom_lt b a) (Cmp Ne b a) (Cmp Ne a b)
oriented Lt a b = Cmp Lt a b
oriented Le a b = Cmp Le a b
oriented Gt a b = Cmp Lt b a
oriented Ge a b = Cmp Le b a

-- whether a comparison is one of those that `oriented` makes
abbrev pub is_oriented : Op → Atom → Atom → Bool
is_oriented Eq a b = not (atom_lt b a)
is_oriented Ne a b = not (atom_lt b a)
is_oriented Lt a b = true
is_oriented Le a b = true
is_oriented Gt a b = false
is_oriented Ge a b = false
