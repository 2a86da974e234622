-- The setting of one call of a pair of functions: the rows at each stage of each side.
use Rattle.std.specs.Prelude.{ℕ, List, [], take}
use Rattle.mig_schema.specs.declared.faults.Side.{Side}
use Rattle.mig_schema.specs.declared.faults.Side.TheVariants.{Old, New}
use Rattle.mig_schema.specs.declared.programs.Stmt.{Stmt}
use Rattle.mig_schema.specs.declared.programs.Body.{Body}
use Rattle.mig_schema.specs.declared.programs.Body.TheVariants as body
use Rattle.mig_meaning.specs.declared.states.State.{State}
use Rattle.mig_meaning.specs.declared.relating.Invariant.{Invariant}
use Rattle.mig_meaning.specs.Rows.{rows_of}
use Rattle.mig_meaning.specs.Conditions.{Given}
use Rattle.mig_meaning.specs.Effect.{after_all}
use Rattle.mig_meaning.specs.Meeting.{IsSetting, FactsHold}
use Rattle.mig_algebra.specs.declared.atoms.Var.{Var}
use Rattle.mig_algebra.specs.Meaning.{Setting}
use Rattle.mig_algebra.specs.Proper.{Sides}

-- a call of a pair: what it is given, and the state of each side before it
pub record Moment : Type 0 where
  pub given : Given
  pub old : State
  pub new : State

-- the statements of a function; a query has none
abbrev pub statements : Body → List Stmt
statements (body.Update stmts) = stmts
statements (body.Query q) = []

-- the state of a side after its first j statements
abbrev pub stage_of : Sides → Moment → Side → ℕ → State
stage_of p m Old j = after_all p.source m.given (take j (statements p.source_fn.body)) m.old
stage_of p m New j = after_all p.target m.given (take j (statements p.target_fn.body)) m.new

-- a variable ranges over the rows of its table, at its stage of its side
abbrev pub setting_of : Sides → Moment → Setting
setting_of p m = record { rows = λ (v : Var). rows_of (stage_of p m v.side v.stage) v.table; given = m.given }

-- what may be used of a call of a pair: it is given what its function asks for, from states over the schemas between which the facts hold
pub record IsMoment (p : Sides) (invs : List Invariant) (m : Moment) : Type 0 where
  pub setting : IsSetting p.source p.target p.source_fn m.given m.old m.new
  pub facts : FactsHold invs m.given.keys m.old m.new
