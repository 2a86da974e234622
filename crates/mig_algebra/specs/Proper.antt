-- Which expressions are proper for two schemas and a function over each: all that they name is in range, and kinds fit.
use Rattle.std.specs.Prelude.{◌≡◌, ℕ, ◌+◌, ◌==◌, nat_lt, Bool, true, false, cond, not, ◌&&◌, ◌||◌, List, ◌++◌, length, map, slice_get, Option, Some, None}
use Rattle.std.specs.List.{list_all}
use Rattle.mig_schema.specs.declared.faults.Side.{Side}
use Rattle.mig_schema.specs.declared.faults.Side.TheVariants.{Old, New}
use Rattle.mig_schema.specs.declared.tables.Kind.{Kind}
use Rattle.mig_schema.specs.declared.tables.Kind.TheVariants as kind
use Rattle.mig_schema.specs.declared.tables.Column.{Column}
use Rattle.mig_schema.specs.declared.tables.Schema.{Schema}
use Rattle.mig_schema.specs.declared.programs.Op.{Op}
use Rattle.mig_schema.specs.declared.programs.Body.{Body}
use Rattle.mig_schema.specs.declared.programs.Body.TheVariants as body
use Rattle.mig_schema.specs.declared.programs.Param.{Param}
use Rattle.mig_schema.specs.declared.programs.Function.{Function}
use Rattle.mig_schema.specs.Columns.{columns_of, has_table, same_kind}
use Rattle.mig_schema.specs.Typed.{is_order}
use Rattle.mig_meaning.specs.Lists.{Each}
use Rattle.mig_algebra.specs.declared.atoms.Var.{Var}
use Rattle.mig_algebra.specs.declared.atoms.Atom.{Atom}
use Rattle.mig_algebra.specs.declared.atoms.Atom.TheVariants.{Int, Text, Param as Argument, Fresh, Col}
use Rattle.mig_algebra.specs.declared.literals.Lit.{Lit, Cmp, Other, Any', Row_of-Lit, end_of-Lit, more_of-Lit}
use Rattle.mig_algebra.specs.declared.terms.Term.{Term}
use Rattle.mig_algebra.specs.declared.terms.Expr.{Expr}
use Rattle.mig_algebra.specs.Atoms.{is_oriented}

-- two schemas, and a function over each
pub record Sides : Type 0 where
  pub source : Schema
  pub target : Schema
  pub source_fn : Function
  pub target_fn : Function

-- the schema of a side
abbrev pub schema_of : Sides → Side → Schema
schema_of p Old = p.source
schema_of p New = p.target

-- how many statements a function has; a query has none
abbrev pub statement_count : Body → ℕ
statement_count (body.Update stmts) = length stmts
statement_count (body.Query q) = 0

-- the last stage of a side
abbrev pub last_stage : Sides → Side → ℕ
last_stage p Old = statement_count p.source_fn.body
last_stage p New = statement_count p.target_fn.body

-- a variable's table and stage are in range
abbrev pub var_fits : Sides → Var → Bool
var_fits p v = has_table (schema_of p v.side) v.table && nat_lt v.stage (last_stage p v.side + 1)

-- the kind of a column of a variable, if both are in range
abbrev pub column_kind : Sides → Option Var → ℕ → Option Kind
column_kind p None c = None
column_kind p (Some v) c = kind_in (slice_get (columns_of (schema_of p v.side) v.table) c)
  where
    kind_in : Option Column → Option Kind
    kind_in None = None
    kind_in (Some k) = Some k.kind

-- the kind of a parameter that both functions have, if it is one kind
abbrev pub argument_kind : Option Param → Option Param → Option Kind
argument_kind (Some a) (Some b) = cond (same_kind a.kind b.kind) (Some a.kind) None
argument_kind _ _ = None

-- the kind of an atom among these variables, if all that it names is in range; a label is at most 15
abbrev pub atom_kind : Sides → List Var → Atom → Option Kind
atom_kind p scope (Int i) = Some kind.Int
atom_kind p scope (Text t) = Some kind.Text
atom_kind p scope (Argument n) = argument_kind (slice_get p.source_fn.params n) (slice_get p.target_fn.params n)
atom_kind p scope (Fresh n) = cond (nat_lt n 16) (Some kind.Key) None
atom_kind p scope (Col v c) = column_kind p (slice_get scope v) c

-- both sides of a comparison have a kind, the same one, and orders compare ints
abbrev pub cmp_fits : Op → Option Kind → Option Kind → Bool
cmp_fits op (Some a) (Some b) = same_kind a b && (not (is_order op) || same_kind a kind.Int)
cmp_fits op _ _ = false

-- whether two sides are one
abbrev pub same_side : Side → Side → Bool
same_side Old Old = true
same_side New New = true
same_side _ _ = false

-- two variables of one side and table; a variable is parted from itself at stage 0 alone
abbrev pub other_fits : ℕ → ℕ → Option Var → Option Var → Bool
other_fits a b (Some v) (Some w) = same_side v.side w.side && (v.table == w.table && (not (a == b) || v.stage == 0))
other_fits a b _ _ = false

-- whether all that a literal names among these variables is in range, and kinds fit
abbrev mutual
  pub lit_fits : Sides → List Var → Lit → Bool
  lit_fits p scope (Cmp op a b) = cmp_fits op (atom_kind p scope a) (atom_kind p scope b)
  lit_fits p scope (Other a b) = other_fits a b (slice_get scope a) (slice_get scope b)
  lit_fits p scope (Any' held vars n lits) = list_all (var_fits p) vars && row_fits p (scope ++ vars) lits

  pub row_fits : Sides → List Var → {m : _} → Row_of-Lit m → Bool
  row_fits p scope end_of-Lit = true
  row_fits p scope (more_of-Lit l rest) = lit_fits p scope l && row_fits p scope rest

-- whether each comparison is oriented
abbrev mutual
  pub lit_oriented : Lit → Bool
  lit_oriented (Cmp op a b) = is_oriented op a b
  lit_oriented (Other a b) = true
  lit_oriented (Any' held vars n lits) = row_oriented lits

  pub row_oriented : {m : _} → Row_of-Lit m → Bool
  row_oriented end_of-Lit = true
  row_oriented (more_of-Lit l rest) = lit_oriented l && row_oriented rest

-- a term that is proper, with a head of these kinds
pub record IsProperTerm (p : Sides) (kinds : List Kind) (t : Term) : Type 0 where
  pub vars : list_all (var_fits p) t.vars ≡ true
  pub fits : list_all (lit_fits p t.vars) t.lits ≡ true
  pub oriented : list_all lit_oriented t.lits ≡ true
  pub head : map (atom_kind p t.vars) t.head ≡ map Some kinds

-- an expression whose terms are proper, all heads having the same kinds
pub record IsProper (p : Sides) (e : Expr) : Type 0 where
  pub kinds : List Kind
  pub terms : Each (IsProperTerm p kinds) e.terms
