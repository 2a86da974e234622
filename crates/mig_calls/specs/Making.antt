-- What several changes of a store make of what it means.
use Rattle.std.specs.Prelude.{◌≡◌, ℕ, List, [], ◌∷◌, Result, OnOk, option_map, true, not, filter}
use Rattle.mig_schema.specs.declared.tables.ColId.{ColId}
use Rattle.mig_schema.specs.declared.values.Value.{Value}
use Rattle.mig_meaning.specs.declared.states.State.{State}
use Rattle.mig_meaning.specs.declared.states.Placed.{Placed}
use Rattle.mig_meaning.specs.Effect.{takes_part}
use Rattle.mig_meaning.specs.Lists.{Each}
use Rattle.mig_meaning.specs.Rows.{JoinRow, row_in, rows_of}
use Rattle.mig_storage.specs.Changes.{changed_at, removed, written, has_id}
use Rattle.mig_storage.specs.Meaning.{Meaning}
use Rattle.mig_storage.specs.declared.faults.StoreFault.{StoreFault}

-- After Ok the told state is the changed one; after a fault some of the changes may be made. The transaction and the layout stay.
pub record Makes {T : Type 0} (old new : Meaning) (change : State → State) (answer : Result T StoreFault) : Type 0 where
  pub ok : OnOk answer (new.told ≡ option_map change old.told)
  pub begun : new.begun ≡ old.begun
  pub start : new.start ≡ old.start
  pub layout : new.layout ≡ old.layout

-- the state without the rows of these ids in table t, taken out one after the other
abbrev pub removed_all : ℕ → List ℕ → State → State
removed_all t [] s = s
removed_all t (id ∷ ids) s = removed_all t ids (removed t id s)

-- the state with a value in the column of the rows of these ids, written one after the other
abbrev pub written_all : ColId → List ℕ → Value → State → State
written_all c [] v s = s
written_all c (id ∷ ids) v s = written_all c ids v (written c.table id c.column v s)

-- the state without the rows of the listed tables that take part in these join rows, table after table
abbrev pub without_each : List ℕ → List JoinRow → List ℕ → State → State
without_each ts es [] s = s
without_each ts es (t ∷ listed) s = without_each ts es listed (changed_at t (filter (λ (p : Placed). not (takes_part ts es t p))) s)

-- the rows of table t that take part in these join rows are there
abbrev pub AreThere : List ℕ → List JoinRow → State → ℕ → Type 0
AreThere ts es s t = Each (λ e. has_id (row_in ts e t).id (rows_of s t) ≡ true) es
