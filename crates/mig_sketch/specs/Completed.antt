-- What holds of the completions of a sketch of a typed job: they are typed and within the limits, and keep what does not depend on the schema.
use Rattle.std.specs.Prelude.{◌≡◌, ◌⊎◌, ℕ, ◌≤◌, ◌<◌, ◌^◌, nat_lt, Bool, true, List, map, length}
use Rattle.std.specs.List.{list_all, AllZip}
use Rattle.mig_listing.specs.Listing.{IsIn}
use Rattle.mig_schema.specs.declared.jobs.Job.{Job}
use Rattle.mig_schema.specs.declared.programs.Assign.{Assign}
use Rattle.mig_schema.specs.declared.programs.Body.{Body}
use Rattle.mig_schema.specs.declared.programs.Body.TheVariants as body
use Rattle.mig_schema.specs.declared.programs.Cond.{Cond}
use Rattle.mig_schema.specs.declared.programs.Function.{Function}
use Rattle.mig_schema.specs.declared.programs.Program.{Program}
use Rattle.mig_schema.specs.declared.programs.Query.{Query}
use Rattle.mig_schema.specs.declared.programs.Scalar.{Scalar}
use Rattle.mig_schema.specs.declared.programs.Scalar.TheVariants as scalar
use Rattle.mig_schema.specs.declared.programs.Stmt.{Stmt}
use Rattle.mig_schema.specs.declared.programs.Stmt.TheVariants.{Insert, Delete, Set}
use Rattle.mig_schema.specs.declared.tables.ColId.{ColId}
use Rattle.mig_schema.specs.declared.tables.Schema.{Schema}
use Rattle.mig_schema.specs.declared.tables.Table.{Table}
use Rattle.mig_schema.specs.Columns.{kind_of, same_kind}
use Rattle.mig_schema.specs.Typed.{IsTyped, IsTypedProgram}
use Rattle.mig_schema.specs.Within.{IsProgramWithin}
use Rattle.mig_invariant.specs.declared.corresp.ColPair.{ColPair}
use Rattle.mig_invariant.specs.declared.corresp.Corr.{Corr}
use Rattle.mig_sketch.specs.declared.plans.Made.{Made}
use Rattle.mig_sketch.specs.declared.plans.Made.TheVariants as made
use Rattle.mig_sketch.specs.Choices.{sizes_of, total}
use Rattle.mig_sketch.specs.Moved.{condition_by}

-- ---- sound jobs

-- whether both columns of each pair are of one kind
abbrev pub keeps_kinds : Job → Corr → Bool
keeps_kinds job corr = list_all (λ (p : ColPair). same_kind (kind_of job.source p.source) (kind_of job.target p.target)) corr.pairs

-- whether each table has a column
abbrev pub has_columns : Schema → Bool
has_columns s = list_all (λ (t : Table). nat_lt 0 (length t.columns)) s.tables

-- a typed job whose program is within the limits and whose new tables have columns, and a correspondence of columns of one kind each
pub record IsSound (job : Job) (corr : Corr) : Type 0 where
  pub typed : IsTyped job
  pub within : IsProgramWithin job.program
  pub columns : has_columns job.target ≡ true
  pub kinds : keeps_kinds job corr ≡ true

-- ---- what is kept of the old program

-- a condition with other columns: its cases, comparisons and scalars stay
pub record KeepsCond (old new : Cond) : Type 0 where
  pub by : ColId → ColId
  pub moved : new ≡ condition_by by old

-- a value of the old insert, or a new label
abbrev pub IsKeptValue : (old : List Assign) → Scalar → Type 0
IsKeptValue old x = IsIn x (map (λ (a : Assign). a.value) old) ⊎ ((n : ℕ) × (n ≤ 15) × (x ≡ scalar.Fresh n))

-- an insert has a value, a delete lists a table, and a set writes the old scalar
abbrev pub KeepsStmt : (old new : Stmt) → Type 0
KeepsStmt (Insert join values) (Insert tree given) = (0 < length given) × ((a : Assign) → IsIn a given → IsKeptValue values a.value)
KeepsStmt (Delete tables join test) (Delete from tree moved) = (0 < length from) × KeepsCond test moved
KeepsStmt (Set column x join test) (Set d y tree moved) = (y ≡ x) × KeepsCond test moved
KeepsStmt _ _ = ⊥

-- as many columns of the same kinds are selected
pub record KeepsQuery (source target : Schema) (old new : Query) : Type 0 where
  pub kinds : map (kind_of target) new.columns ≡ map (kind_of source) old.columns
  pub test : KeepsCond old.cond new.cond

-- as many statements, one by one; or a query
abbrev pub KeepsBody : (source target : Schema) → (old new : Body) → Type 0
KeepsBody source target (body.Update old) (body.Update new) = AllZip KeepsStmt old new
KeepsBody source target (body.Query old) (body.Query new) = KeepsQuery source target old new
KeepsBody source target _ _ = ⊥

pub record KeepsFunction (source target : Schema) (old new : Function) : Type 0 where
  pub name : new.name ≡ old.name
  pub params : new.params ≡ old.params
  pub body : KeepsBody source target old.body new.body

-- ---- completions

-- a program over the new schema that is typed and within the limits, and keeps each function
pub record IsCompletion (job : Job) (p : Program) : Type 0 where
  pub typed : IsTypedProgram job.target p
  pub within : IsProgramWithin p
  pub keeps : AllZip (KeepsFunction job.source job.target) job.program.functions p.functions

-- a plan has fewer than 2^31 options over all holes
abbrev pub IsSmall : Made → Type 0
IsSmall (made.Plan plan) = total (sizes_of plan.holes) < 2 ^ 31
IsSmall (made.Empty f) = Unit {0}
IsSmall (made.Wide f) = Unit {0}
