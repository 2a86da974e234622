-- Which state a setting shows at a stage of a side.
use Rattle.std.specs.Prelude.{ℕ, ◌≡◌}
use Rattle.mig_schema.specs.declared.faults.Side.{Side}
use Rattle.mig_meaning.specs.declared.states.State.{State}
use Rattle.mig_meaning.specs.Rows.{rows_of}
use Rattle.mig_algebra.specs.Meaning.{Setting}
use Rattle.mig_algebra.specs.Obligations.{var_of}

-- the variables of that stage range over the rows of the state's tables
pub record Shows (s : Setting) (side : Side) (stage : ℕ) (state : State) : Type 0 where
  pub by : (t : ℕ) → s.rows (var_of side stage t) ≡ rows_of state t
