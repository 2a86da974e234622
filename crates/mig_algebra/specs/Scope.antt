-- Which variables are in scope.
use Rattle.std.specs.Prelude.{◌≡◌, ℕ, ◌+◌, ◌^◌, nat_lt, Bool, true, ◌&&◌, length}
use Rattle.std.specs.List.{list_all}
use Rattle.mig_algebra.specs.declared.atoms.Atom.{Atom}
use Rattle.mig_algebra.specs.declared.atoms.Atom.TheVariants.{Int, Text, Param, Fresh, Col}
use Rattle.mig_algebra.specs.declared.literals.Lit.{Lit, Cmp, Other, Any', Row_of-Lit, end_of-Lit, more_of-Lit}
use Rattle.mig_algebra.specs.declared.terms.Term.{Term}
use Rattle.mig_algebra.specs.declared.terms.Expr.{Expr}

-- whether an atom names none but the first n variables
abbrev pub atom_scoped : ℕ → Atom → Bool
atom_scoped n (Int i) = true
atom_scoped n (Text t) = true
atom_scoped n (Param p) = true
atom_scoped n (Fresh k) = true
atom_scoped n (Col v c) = nat_lt v n

-- whether a literal, where n variables are in scope, names none but those in scope, fewer than 2^31 being in scope everywhere
abbrev mutual
  pub lit_scoped : ℕ → Lit → Bool
  lit_scoped n (Cmp op a b) = atom_scoped n a && atom_scoped n b
  lit_scoped n (Other a b) = nat_lt a n && nat_lt b n
  lit_scoped n (Any' held vars m lits) = nat_lt (n + length vars) (2 ^ 31) && row_scoped (n + length vars) lits

  pub row_scoped : ℕ → {m : _} → Row_of-Lit m → Bool
  row_scoped n end_of-Lit = true
  row_scoped n (more_of-Lit l rest) = lit_scoped n l && row_scoped n rest

-- the same of a term
abbrev pub term_scoped : Term → Bool
term_scoped t = nat_lt (length t.vars) (2 ^ 31) && (list_all (lit_scoped (length t.vars)) t.lits && list_all (atom_scoped (length t.vars)) t.head)

-- each variable that an expression names is in scope there, and fewer than 2^31 are in scope at each place
pub record IsScoped (e : Expr) : Type 0 where
  pub terms : list_all term_scoped e.terms ≡ true
