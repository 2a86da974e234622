-- A body is decided that no rows meet: it contradicts itself or what stands around it, or an invariant of rows from before the call does.
use Rattle.std.specs.Prelude.{ℕ, Bool, false, cond, ◌&&◌, ◌||◌, List, [], ◌∷◌, ◌++◌, length, Option, Some, None}
use Rattle.std.specs.List.{list_any}
use Rattle.mig_schema.specs.declared.faults.Side.{Side}
use Rattle.mig_schema.specs.declared.tables.ColId.{ColId}
use Rattle.mig_meaning.specs.declared.relating.Invariant.{Invariant}
use Rattle.mig_meaning.specs.declared.relating.Invariant.TheVariants.{Views, Unique, Apart, Within}
use Rattle.mig_algebra.specs.declared.atoms.Var.{Var}
use Rattle.mig_algebra.specs.declared.atoms.Atom.TheVariants.{Col}
use Rattle.mig_algebra.specs.declared.literals.Lit.{Lit, Cmp, Other, Any'}
use Rattle.mig_classes.specs.Classes.{one_class}
use Rattle.mig_classes.specs.Given.{contradictory}
use Rattle.mig_listing.specs.Choices.{numbers}
use Rattle.mig_replacing.specs.Given.{plain}
use Rattle.mig_replacing.specs.Replaced.{spread}
use Rattle.mig_steps.specs.Bodies.{by_body}
use Rattle.mig_steps.specs.Spots.{Seen}
use Rattle.mig_rows.specs.Ranging.{are_rows}

-- whether x and y range over the tables of two columns, which are in one class of a list
abbrev pub joins : Side → (c d : ColId) → List Var → List Lit → (x y : ℕ) → Bool
joins side c d scope lits x y = are_rows side c d x y scope && one_class lits (Col x c.column) (Col y d.column)

-- whether some two variables do
abbrev pub joins_some : Side → (c d : ColId) → List Var → List Lit → Bool
joins_some side c d scope lits = list_any (λ x. list_any (joins side c d scope lits x) (numbers (length scope))) (numbers (length scope))

-- whether a literal parts two variables of a column's table, the columns of which are in one class of a list
abbrev pub parts_joined : Side → ColId → List Var → List Lit → Lit → Bool
parts_joined side c scope lits (Other x y) = joins side c c scope lits x y
parts_joined side c scope lits (Cmp op a b) = false
parts_joined side c scope lits (Any' held vars n row) = false

-- whether an invariant says that a list is true at no rows: columns that are apart are in one class, or two rows differ whose unique column is equal
abbrev pub refutes : List Var → List Lit → Invariant → Bool
refutes scope lits (Apart side c d) = joins_some side c d scope lits
refutes scope lits (Unique side c) = list_any (parts_joined side c scope lits) lits
refutes scope lits (Views source target) = false
refutes scope lits (Within side c d) = false

-- whether a list is true at no rows, by itself or by an invariant that is listed
abbrev pub is_never : List Invariant → List Var → List Lit → Bool
is_never invs scope lits = contradictory scope lits || list_any (refutes scope lits) invs

-- no alternative for a body that is held, else one without literals
abbrev pub never_body : List Invariant → Seen → Bool → List Var → List Lit → Option (List (List Lit))
never_body invs s held vars lits = cond (is_never invs (s.scope ++ vars) (s.around ++ plain lits)) (Some (spread held [])) None

-- the same of a literal
abbrev pub never_lit : List Invariant → Seen → Lit → Option (List (List Lit))
never_lit invs s l = by_body (never_body invs s) None l

-- the rule
abbrev pub never : List Invariant → List ℕ → Seen → Option (List (List Lit))
never invs [] s = never_lit invs s s.lit
never invs (a ∷ args) s = None
