-- The orders of variables, literals and terms: by their parts, in the order of their declarations; of lists the shorter first where it begins the other.
use Rattle.std.specs.Prelude.{ℕ}
use Rattle.std.specs.Cmp.Lexicographic.{slice_cmp}
use Rattle.std.specs.declared.cmp.Ordering.{Ordering}
use Rattle.std.specs.declared.cmp.Ordering.TheVariants.{Less, Equal, Greater}
use Rattle.std.specs.Ordering.{nat_cmp, bool_cmp, ordering_then}
use Rattle.mig_schema.specs.declared.faults.Side.{Side}
use Rattle.mig_schema.specs.declared.faults.Side.TheVariants.{Old, New}
use Rattle.mig_schema.specs.declared.programs.Op.{Op}
use Rattle.mig_schema.specs.declared.programs.Op.TheVariants.{Eq, Ne, Lt, Le, Gt, Ge}
use Rattle.mig_algebra.specs.declared.atoms.Var.{Var}
use Rattle.mig_algebra.specs.declared.literals.Lit.{Lit, Cmp, Other, Any', Row_of-Lit, end_of-Lit, more_of-Lit}
use Rattle.mig_algebra.specs.declared.terms.Term.{Term}
use Rattle.mig_algebra.specs.Atoms.{atom_order}

-- the old side first
abbrev pub side_rank : Side → ℕ
side_rank Old = 0
side_rank New = 1

-- variables by side, table and stage
abbrev pub var_order : Var → Var → Ordering
var_order v w = ordering_then (nat_cmp (side_rank v.side) (side_rank w.side)) (ordering_then (nat_cmp v.table w.table) (nat_cmp v.stage w.stage))

-- the place of an operator among the operators
abbrev pub op_rank : Op → ℕ
op_rank Eq = 0
op_rank Ne = 1
op_rank Lt = 2
op_rank Le = 3
op_rank Gt = 4
op_rank Ge = 5

-- the place of a literal's form among the forms
abbrev pub lit_rank : Lit → ℕ
lit_rank (Cmp op a b) = 0
lit_rank (Other a b) = 1
lit_rank (Any' held vars n lits) = 2

-- literals by form, then by their parts
abbrev mutual
  pub lit_order : Lit → Lit → Ordering
  lit_order (Cmp op a b) (Cmp op' a' b') =
      ordering_then (nat_cmp (op_rank op) (op_rank op')) (ordering_then (atom_order a a') (atom_order b b'))
  lit_order (Other a b) (Other a' b') = ordering_then (nat_cmp a a') (nat_cmp b b')
  lit_order (Any' held vars n lits) (Any' held' vars' n' lits') =
      ordering_then (bool_cmp held held') (ordering_then (slice_cmp var_order vars vars') (row_order lits lits'))
  lit_order l l' = nat_cmp (lit_rank l) (lit_rank l')

  pub row_order : {m : _} → Row_of-Lit m → {m' : _} → Row_of-Lit m' → Ordering
  row_order end_of-Lit end_of-Lit = Equal
  row_order end_of-Lit (more_of-Lit l' rest') = Less
  row_order (more_of-Lit l rest) end_of-Lit = Greater
  row_order (more_of-Lit l rest) (more_of-Lit l' rest') = ordering_then (lit_order l l') (row_order rest rest')

-- terms by variables, literals and head
abbrev pub term_order : Term → Term → Ordering
term_order t u = ordering_then (slice_cmp var_order t.vars u.vars) (ordering_then (slice_cmp lit_order t.lits u.lits) (slice_cmp atom_order t.head u.head))
