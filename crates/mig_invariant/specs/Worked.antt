-- A worked case: the pictures of two tables move to a third. Functions add, delete and get a row of each.
use Rattle.std.specs.Prelude.{ℕ, List, [], ◌∷◌, ◌++◌}
use Rattle.mig_schema.specs.declared.faults.Side.TheVariants.{New}
use Rattle.mig_schema.specs.declared.tables.Kind.{Kind}
use Rattle.mig_schema.specs.declared.tables.Kind.TheVariants as kind
use Rattle.mig_schema.specs.declared.tables.ColId.{ColId}
use Rattle.mig_schema.specs.declared.tables.Column.{Column}
use Rattle.mig_schema.specs.declared.tables.Table.{Table}
use Rattle.mig_schema.specs.declared.tables.Schema.{Schema}
use Rattle.mig_schema.specs.declared.programs.Join.{Join}
use Rattle.mig_schema.specs.declared.programs.Param.{Param}
use Rattle.mig_schema.specs.declared.programs.Scalar.{Scalar}
use Rattle.mig_schema.specs.declared.programs.Scalar.TheVariants as scalar
use Rattle.mig_schema.specs.declared.programs.Item.TheVariants as item
use Rattle.mig_schema.specs.declared.programs.Op.TheVariants as op
use Rattle.mig_schema.specs.declared.programs.Cond.{Cond}
use Rattle.mig_schema.specs.declared.programs.Assign.{Assign}
use Rattle.mig_schema.specs.declared.programs.Stmt.TheVariants.{Insert, Delete}
use Rattle.mig_schema.specs.declared.programs.Body.TheVariants as body
use Rattle.mig_schema.specs.declared.programs.Function.{Function}
use Rattle.mig_schema.specs.declared.programs.Program.{Program}
use Rattle.mig_schema.specs.declared.jobs.Job.{Job}
use Rattle.mig_meaning.specs.declared.relating.Invariant.{Invariant}
use Rattle.mig_meaning.specs.declared.relating.Invariant.TheVariants.{Views, Unique, Apart, Within}
use Rattle.mig_invariant.specs.declared.corresp.ColPair.{ColPair}
use Rattle.mig_invariant.specs.declared.corresp.Corr.{Corr}

-- ---- schemas; no name matters here

abbrev pub column : Kind → Column
column k = record { name = []; kind = k }

abbrev pub table : List Column → Table
table cs = record { name = []; columns = cs }

abbrev pub col : ℕ → ℕ → ColId
col t c = record { table = t; column = c }

-- two tables of a number, a name and a picture
abbrev pub old_schema : Schema
old_schema = record { tables = table (column kind.Int ∷ column kind.Text ∷ column kind.Text ∷ []) ∷ table (column kind.Int ∷ column kind.Text ∷ column kind.Text ∷ []) ∷ []; links = [] }

-- a picture's key in its place, and a third table of keys and pictures
abbrev pub new_schema : Schema
new_schema = record {
  tables = table (column kind.Int ∷ column kind.Text ∷ column kind.Key ∷ []) ∷ table (column kind.Int ∷ column kind.Text ∷ column kind.Key ∷ []) ∷ table (column kind.Key ∷ column kind.Text ∷ []) ∷ [];
  links = record { left = col 0 2; right = col 2 0 } ∷ record { left = col 1 2; right = col 2 0 } ∷ [];
}

-- ---- programs

-- a table alone
abbrev pub alone : ℕ → Join
alone t = record { first = t; more = [] }

-- a new table with its pictures
abbrev pub pictured : ℕ → Join
pictured t = record { first = t; more = record { table = 2; left = col t 2; right = col 2 0 } ∷ [] }

abbrev pub param : Kind → Param
param k = record { name = []; kind = k }

abbrev pub assign : ColId → Scalar → Assign
assign c v = record { column = c; value = v }

-- the row of the given number
abbrev pub by_number : ℕ → Cond
by_number t = record { cases = (record { op = op.Eq; left = item.Col (col t 0); right = item.Scalar (scalar.Param 0) } ∷ []) ∷ [] }

abbrev pub adding : Join → List Assign → Function
adding join values = record { name = []; params = param kind.Int ∷ param kind.Text ∷ param kind.Text ∷ []; body = body.Update (Insert join values ∷ []) }

abbrev pub deleting : ℕ → Join → Function
deleting t join = record { name = []; params = param kind.Int ∷ []; body = body.Update (Delete (t ∷ []) join (by_number t) ∷ []) }

abbrev pub getting : ℕ → Join → List ColId → Function
getting t join columns = record { name = []; params = param kind.Int ∷ []; body = body.Query (record { columns = columns; join = join; cond = by_number t }) }

-- the functions of an old table
abbrev pub old_functions : ℕ → List Function
old_functions t = adding (alone t) (assign (col t 0) (scalar.Param 0) ∷ assign (col t 1) (scalar.Param 1) ∷ assign (col t 2) (scalar.Param 2) ∷ [])
    ∷ deleting t (alone t) ∷ getting t (alone t) (col t 1 ∷ col t 2 ∷ []) ∷ []

-- those of the new table in its place
abbrev pub new_functions : ℕ → List Function
new_functions t = adding (pictured t) (assign (col t 0) (scalar.Param 0) ∷ assign (col t 1) (scalar.Param 1) ∷ assign (col t 2) (scalar.Fresh 0) ∷ assign (col 2 1) (scalar.Param 2) ∷ [])
    ∷ deleting t (pictured t) ∷ getting t (pictured t) (col t 1 ∷ col 2 1 ∷ []) ∷ []

abbrev pub new_program : Program
new_program = record { functions = new_functions 0 ++ new_functions 1 }

abbrev pub job : Job
job = record { source = old_schema; target = new_schema; program = record { functions = old_functions 0 ++ old_functions 1 }; hints = [] }

-- ---- each column goes to that of its name

abbrev pub pair : ColId → ColId → ColPair
pair c d = record { source = c; target = d }

-- of a table: the number, the name and the picture
abbrev pub pairs_of : ℕ → List ColPair
pairs_of t = pair (col t 0) (col t 0) ∷ pair (col t 1) (col t 1) ∷ pair (col t 2) (col 2 1) ∷ []

abbrev pub corr : Corr
corr = record { pairs = pairs_of 0 ++ pairs_of 1 }

-- ---- the candidates

-- an old table's rows are those of the new table with its pictures
abbrev pub viewed : ℕ → Invariant
viewed t = Views (record { join = alone t; outs = col t 0 ∷ col t 1 ∷ col t 2 ∷ [] }) (record { join = pictured t; outs = col t 0 ∷ col t 1 ∷ col 2 1 ∷ [] })

-- two views, three unique columns, three pairs that are apart, four that are within one another
abbrev pub twelve : List Invariant
twelve = viewed 0 ∷ viewed 1
    ∷ Unique New (col 0 2) ∷ Unique New (col 1 2) ∷ Unique New (col 2 0)
    ∷ Apart New (col 0 2) (col 1 2) ∷ Apart New (col 0 2) (col 2 0) ∷ Apart New (col 1 2) (col 2 0)
    ∷ Within New (col 0 2) (col 2 0) ∷ Within New (col 1 2) (col 2 0) ∷ Within New (col 2 0) (col 0 2) ∷ Within New (col 2 0) (col 1 2) ∷ []
