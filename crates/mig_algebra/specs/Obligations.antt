-- The expressions of what is to be shown: that an invariant holds, and that two queries answer alike.
use Rattle.std.specs.Prelude.{ℕ, false, List, [], ◌∷◌, ◌++◌, map}
use Rattle.mig_schema.specs.declared.faults.Side.{Side}
use Rattle.mig_schema.specs.declared.faults.Side.TheVariants.{Old, New}
use Rattle.mig_schema.specs.declared.tables.ColId.{ColId}
use Rattle.mig_schema.specs.declared.programs.Joined.{Joined}
use Rattle.mig_schema.specs.declared.programs.Scalar.{Scalar}
use Rattle.mig_schema.specs.declared.programs.Scalar.TheVariants as scalar
use Rattle.mig_schema.specs.declared.programs.Item.{Item}
use Rattle.mig_schema.specs.declared.programs.Item.TheVariants as item
use Rattle.mig_schema.specs.declared.programs.Op.TheVariants.{Eq}
use Rattle.mig_schema.specs.declared.programs.Cmp.{Cmp}
use Rattle.mig_schema.specs.declared.programs.Query.{Query}
use Rattle.mig_schema.specs.Joins.{tables_of}
use Rattle.mig_meaning.specs.declared.relating.View.{View}
use Rattle.mig_meaning.specs.declared.relating.Invariant.{Invariant}
use Rattle.mig_meaning.specs.declared.relating.Invariant.TheVariants.{Views, Unique, Apart, Within}
use Rattle.mig_meaning.specs.Lists.{place}
use Rattle.mig_algebra.specs.declared.atoms.Var.{Var}
use Rattle.mig_algebra.specs.declared.atoms.Atom.{Atom}
use Rattle.mig_algebra.specs.declared.atoms.Atom.TheVariants as atom
use Rattle.mig_algebra.specs.declared.literals.Lit.{Lit}
use Rattle.mig_algebra.specs.declared.literals.Lit.TheVariants as lit
use Rattle.mig_algebra.specs.declared.terms.Term.{Term}
use Rattle.mig_algebra.specs.Atoms.{oriented}

-- ---- joins and conditions

-- a variable of a table, at a stage of a side
abbrev pub var_of : Side → (stage table : ℕ) → Var
var_of side n t = record { side = side; table = t; stage = n }

-- a column of a join, where a variable stands for each of its tables, in order
abbrev pub col_atom : List ℕ → ColId → Atom
col_atom ts c = atom.Col (place ts c.table) c.column

-- a scalar as an atom
abbrev pub scalar_atom : Scalar → Atom
scalar_atom (scalar.Param p) = atom.Param p
scalar_atom (scalar.Int i) = atom.Int i
scalar_atom (scalar.Text t) = atom.Text t
scalar_atom (scalar.Fresh n) = atom.Fresh n

-- a side of a comparison as an atom
abbrev pub item_atom : List ℕ → Item → Atom
item_atom ts (item.Col c) = col_atom ts c
item_atom ts (item.Scalar s) = scalar_atom s

-- the equalities of a join
abbrev pub join_lits : List ℕ → List Joined → List Lit
join_lits ts ms = map (λ (m : Joined). oriented Eq (col_atom ts m.left) (col_atom ts m.right)) ms

-- the comparisons of a case
abbrev pub case_lits : List ℕ → List Cmp → List Lit
case_lits ts cs = map (λ (c : Cmp). oriented c.op (item_atom ts c.left) (item_atom ts c.right)) cs

-- that a case is not true
abbrev pub not_case : List ℕ → List Cmp → Lit
not_case ts cs = lit.Any false (record { vars = []; lits = case_lits ts cs })

-- ---- invariants

-- a view's rows at a stage of a side
abbrev pub view_term : Side → (stage : ℕ) → View → Term
view_term side n v = record { vars = map (var_of side n) (tables_of v.join); lits = join_lits (tables_of v.join) v.join.more; head = map (col_atom (tables_of v.join)) v.outs }

-- two rows with different ids and equal values in the column
abbrev pub unique_term : Side → (stage : ℕ) → ColId → Term
unique_term side n c = record {
  vars = var_of side n c.table ∷ (var_of side n c.table ∷ []);
  lits = lit.Other 0 1 ∷ (oriented Eq (atom.Col 0 c.column) (atom.Col 1 c.column) ∷ []);
  head = [];
}

-- a row of each table, with equal values there
abbrev pub apart_term : Side → (stage : ℕ) → ColId → ColId → Term
apart_term side n c d = record {
  vars = var_of side n c.table ∷ (var_of side n d.table ∷ []);
  lits = oriented Eq (atom.Col 0 c.column) (atom.Col 1 d.column) ∷ [];
  head = [];
}

-- a row whose value stands in no row of the other table
abbrev pub within_term : Side → (stage : ℕ) → ColId → ColId → Term
within_term side n c d = record {
  vars = var_of side n c.table ∷ [];
  lits = lit.Any false (record { vars = var_of side n d.table ∷ []; lits = oriented Eq (atom.Col 0 c.column) (atom.Col 1 d.column) ∷ [] }) ∷ [];
  head = [];
}

-- a term on its side, and nothing on the other
abbrev pub on_side : (its at : Side) → Term → List Term
on_side Old Old t = t ∷ []
on_side New New t = t ∷ []
on_side _ _ t = []

-- what stands on a side, whose function has n statements, for an invariant that is to hold after the functions: a view's rows, or what must not be there
abbrev pub holds_terms : (at : Side) → (n : ℕ) → Invariant → List Term
holds_terms Old n (Views source target) = view_term Old n source ∷ []
holds_terms New n (Views source target) = view_term New n target ∷ []
holds_terms at n (Unique side c) = on_side side at (unique_term side n c)
holds_terms at n (Apart side c d) = on_side side at (apart_term side n c d)
holds_terms at n (Within side c d) = on_side side at (within_term side n c d)

-- ---- answers

-- a query's terms for the cases from some case on: one for each, in which it is true and no case before it
abbrev pub answer_from : Side → Query → (before cases : List (List Cmp)) → List Term
answer_from side q before [] = []
answer_from side q before (c ∷ cs) =
    record {
      vars = map (var_of side 0) (tables_of q.join);
      lits = join_lits (tables_of q.join) q.join.more ++ (case_lits (tables_of q.join) c ++ map (not_case (tables_of q.join)) before);
      head = map (col_atom (tables_of q.join)) q.columns;
    }
    ∷ answer_from side q (before ++ (c ∷ [])) cs

-- what stands on a side for a query
abbrev pub answer_terms : Side → Query → List Term
answer_terms side q = answer_from side q [] q.cond.cases
