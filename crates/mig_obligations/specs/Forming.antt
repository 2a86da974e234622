-- The parts of obligations that the functions build. That they make up the obligations is proved.
use Rattle.std.specs.Prelude.{ℕ, List, [], ◌++◌, map}
use Rattle.mig_schema.specs.declared.faults.Side.{Side}
use Rattle.mig_schema.specs.declared.tables.ColId.{ColId}
use Rattle.mig_schema.specs.declared.programs.Op.TheVariants.{Eq}
use Rattle.mig_schema.specs.declared.programs.Cmp.{Cmp}
use Rattle.mig_schema.specs.declared.programs.Joined.{Joined}
use Rattle.mig_schema.specs.declared.programs.Body.{Body}
use Rattle.mig_schema.specs.declared.programs.Body.TheVariants as body
use Rattle.mig_schema.specs.declared.programs.Query.{Query}
use Rattle.mig_schema.specs.Joins.{tables_of}
use Rattle.mig_algebra.specs.declared.atoms.Atom.TheVariants as atom
use Rattle.mig_algebra.specs.declared.literals.Lit.{Lit}
use Rattle.mig_algebra.specs.declared.terms.Term.{Term}
use Rattle.mig_algebra.specs.Atoms.{oriented}
use Rattle.mig_algebra.specs.Obligations.{var_of, col_atom, item_atom, join_lits, case_lits, not_case, answer_terms}

-- an equality of a join of these tables
abbrev pub join_lit : List ℕ → Joined → Lit
join_lit ts m = oriented Eq (col_atom ts m.left) (col_atom ts m.right)

-- a comparison of a case
abbrev pub cmp_lit : List ℕ → Cmp → Lit
cmp_lit ts c = oriented c.op (item_atom ts c.left) (item_atom ts c.right)

-- that a column of the first variable and one of the second have one value
abbrev pub equal_columns : ColId → ColId → Lit
equal_columns c d = oriented Eq (atom.Col 0 c.column) (atom.Col 1 d.column)

-- the rows of a query's join in which a case is true, and none of these before it
abbrev pub case_term : Side → Query → (before : List (List Cmp)) → List Cmp → Term
case_term side q before c = record {
  vars = map (var_of side 0) (tables_of q.join);
  lits = join_lits (tables_of q.join) q.join.more ++ (case_lits (tables_of q.join) c ++ map (not_case (tables_of q.join)) before);
  head = map (col_atom (tables_of q.join)) q.columns;
}

-- what stands on a side for a function; nothing for an update
abbrev pub body_terms : Side → Body → List Term
body_terms side (body.Update stmts) = []
body_terms side (body.Query q) = answer_terms side q
