-- A variable of a term or of a body goes, and another one is written for it.
use Rattle.std.specs.Prelude.{ℕ, ◌==◌, Bool, true, cond, not, List, map}
use Rattle.mig_algebra.specs.declared.atoms.Atom.{Atom}
use Rattle.mig_algebra.specs.declared.atoms.Atom.TheVariants.{Int, Text, Param, Fresh, Col}
use Rattle.mig_algebra.specs.declared.literals.Inner.{Inner}
use Rattle.mig_algebra.specs.declared.literals.Lit.{Lit}
use Rattle.mig_algebra.specs.declared.terms.Term.{Term}
use Rattle.mig_algebra.specs.Rename.{lit_all, lits_with, renumbered, below, is_not}
use Rattle.mig_steps.specs.Variables.{leaving_out}

-- a variable's number where x is written for variable i, which goes
abbrev pub into : (i x : ℕ) → ℕ → ℕ
into i x v = below i (cond (v == i) x v)

-- literals where x is written for variable i, in comparisons and where rows differ
abbrev pub lits_into : (i x : ℕ) → List Lit → List Lit
lits_into i x lits = lits_with (renumbered (into i x)) (into i x) lits

-- atoms of a head where x is written for variable i
abbrev pub head_into : (i x : ℕ) → List Atom → List Atom
head_into i x head = map (renumbered (into i x)) head

-- a term without its variable i, for which x is written
abbrev pub term_into : (i x : ℕ) → Term → Term
term_into i x t = record {
  vars = leaving_out i t.vars;
  lits = lits_into i x t.lits;
  head = head_into i x t.head;
}

-- a body without its variable j, which has number i in scope, and for which x is written
abbrev pub body_into : (i j x : ℕ) → Inner → Inner
body_into i j x b = record {
  vars = leaving_out j b.vars;
  lits = lits_into i x b.lits;
}

-- ---- a variable that is not named

-- whether an atom is no column of variable i
abbrev pub avoids : ℕ → Atom → Bool
avoids i (Col v c) = not (v == i)
avoids i (Int n) = true
avoids i (Text t) = true
avoids i (Param n) = true
avoids i (Fresh n) = true

-- whether a literal does not name variable i
abbrev pub leaves : ℕ → Lit → Bool
leaves i l = lit_all (avoids i) (is_not i) l

-- literals without variable i, which they do not name
abbrev pub lits_left : ℕ → List Lit → List Lit
lits_left i lits = lits_into i i lits
