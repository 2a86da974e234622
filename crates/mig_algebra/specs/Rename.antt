-- Other atoms in place of those of a literal.
use Rattle.std.specs.Prelude.{ℕ, ◌-◌, ◌==◌, nat_lt, Bool, true, ◌&&◌, not, cond, List, map}
use Rattle.mig_algebra.specs.declared.atoms.Atom.{Atom}
use Rattle.mig_algebra.specs.declared.atoms.Atom.TheVariants.{Int, Text, Param, Fresh, Col}
use Rattle.mig_algebra.specs.declared.literals.Lit.{Lit, Cmp, Other, Any', Row_of-Lit, end_of-Lit, more_of-Lit}
use Rattle.mig_algebra.specs.Atoms.{oriented}

-- each atom by f, and each variable of an `Other` by g; comparisons are oriented again
abbrev mutual
  pub lit_with : (Atom → Atom) → (ℕ → ℕ) → Lit → Lit
  lit_with f g (Cmp op l r) = oriented op (f l) (f r)
  lit_with f g (Other l r) = Other (g l) (g r)
  lit_with f g (Any' held vars n lits) = Any' held vars n (row_with f g lits)

  pub row_with : (Atom → Atom) → (ℕ → ℕ) → {m : _} → Row_of-Lit m → Row_of-Lit m
  row_with f g end_of-Lit = end_of-Lit
  row_with f g (more_of-Lit l rest) = more_of-Lit (lit_with f g l) (row_with f g rest)

-- the same of a list
abbrev pub lits_with : (Atom → Atom) → (ℕ → ℕ) → List Lit → List Lit
lits_with f g lits = map (lit_with f g) lits

-- whether each atom passes a, and each variable of an `Other` n
abbrev mutual
  pub lit_all : (Atom → Bool) → (ℕ → Bool) → Lit → Bool
  lit_all a n (Cmp op l r) = a l && a r
  lit_all a n (Other l r) = n l && n r
  lit_all a n (Any' held vars m lits) = row_all a n lits

  pub row_all : (Atom → Bool) → (ℕ → Bool) → {m : _} → Row_of-Lit m → Bool
  row_all a n end_of-Lit = true
  row_all a n (more_of-Lit l rest) = lit_all a n l && row_all a n rest

-- an atom whose variable gets another number
abbrev pub renumbered : (ℕ → ℕ) → Atom → Atom
renumbered g (Int i) = Int i
renumbered g (Text t) = Text t
renumbered g (Param p) = Param p
renumbered g (Fresh n) = Fresh n
renumbered g (Col v c) = Col (g v) c

-- a variable's number where variable i is taken away
abbrev pub below : ℕ → ℕ → ℕ
below i v = cond (nat_lt v i) v (v - 1)

-- an atom where variable i is taken away, and an atom is written for each of its columns
abbrev pub without : ℕ → (ℕ → Atom) → Atom → Atom
without i to (Col v c) = cond (v == i) (to c) (Col (below i v) c)
without i to (Int n) = Int n
without i to (Text t) = Text t
without i to (Param p) = Param p
without i to (Fresh n) = Fresh n

-- whether a variable is not variable i
abbrev pub is_not : ℕ → ℕ → Bool
is_not i v = not (v == i)
