-- What a store means, and what its calls keep to.
use Rattle.std.specs.Prelude.{◌≡◌, ◌⊎◌, ℕ, ◌^◌, ◌<◌, ◌≤◌, Bool, true, false, Option, Some, None, is_some, Result, IsErrOf, OnOk, OnErr, option_map}
use Rattle.mig_io.specs.Counts.{Rose}
use Rattle.mig_schema.specs.declared.tables.Schema.{Schema}
use Rattle.mig_meaning.specs.declared.states.State.{State}
use Rattle.mig_meaning.specs.Rows.{empty_state}
use Rattle.mig_meaning.specs.States.{IsState}
use Rattle.mig_storage.specs.Layout.{Layout, layout_of}
use Rattle.mig_storage.specs.declared.faults.StoreFault.{StoreFault}
use Rattle.mig_storage.specs.declared.faults.StoreFault.TheVariants.{Failed}

pub record Meaning : Type 0 where
  -- the state that the store tells; `None` where it tells none
  pub told : Option State
  -- how many faults it counted, at most 2^64 - 1
  pub faults : ℕ
  -- whether it is broken
  pub broken : Bool
  -- whether a transaction is begun
  pub begun : Bool
  -- where one is begun, the state that the store told at its begin
  pub start : Option State
  -- the layout that the last `create` with the answer Ok gave it; no tables before
  pub layout : Layout

-- what holds of a state over a layout: it is a state over each schema with this layout
abbrev pub FitsLayout : Layout → State → Type 0
FitsLayout layout s = (schema : Schema) → layout_of schema ≡ layout → IsState schema s

-- what holds of a store at any time
pub record IsMeaning (m : Meaning) : Type 0 where
  -- a told state fits the layout
  pub fits : (s : State) → m.told ≡ Some s → FitsLayout m.layout s
  -- the count of faults ends at 2^64 - 1
  pub counted : m.faults < 2 ^ 64

-- no transaction is begun, or the store is broken
abbrev pub IsAtRest : Meaning → Type 0
IsAtRest m = m.begun ≡ true → m.broken ≡ true

-- a transaction is begun, or the store is broken
abbrev pub IsBegun : Meaning → Type 0
IsBegun m = m.begun ≡ false → m.broken ≡ true

-- what each call keeps to, whatever it answers
pub record IsSound {T : Type 0} (old new : Meaning) (answer : Result T StoreFault) : Type 0 where
  -- the count of faults never falls; `Failed` comes only where it rose or the store was broken
  pub later : old.faults ≤ new.faults
  pub failed : IsErrOf answer Failed → Rose old.faults new.faults ⊎ (old.broken ≡ true)
  -- a broken store stays broken and answers `Failed`; a store breaks only where it answers `Failed`
  pub broken : old.broken ≡ true → (new.broken ≡ true) × IsErrOf answer Failed
  pub breaks : new.broken ≡ true → IsErrOf answer Failed
  -- a store that tells no state never tells one; one that tells goes on telling unless it breaks
  pub untold : old.told ≡ None → new.told ≡ None
  pub tells : new.broken ≡ false → is_some new.told ≡ is_some old.told

-- the told state, the transaction and the layout stay
pub record Keeps (old new : Meaning) : Type 0 where
  pub told : new.told ≡ old.told
  pub begun : new.begun ≡ old.begun
  pub start : new.start ≡ old.start
  pub layout : new.layout ≡ old.layout

-- After Ok the change was made to the told state, after a fault it wasn't. The transaction and the layout stay.
pub record Changes {T : Type 0} (old new : Meaning) (change : State → State) (answer : Result T StoreFault) : Type 0 where
  pub ok : OnOk answer (new.told ≡ option_map change old.told)
  pub err : OnErr answer (new.told ≡ old.told)
  pub begun : new.begun ≡ old.begun
  pub start : new.start ≡ old.start
  pub layout : new.layout ≡ old.layout

-- After Ok all tables of the schema are there, empty. After a fault all stays. No transaction begins or ends.
pub record Creates {T : Type 0} (old new : Meaning) (schema : Schema) (answer : Result T StoreFault) : Type 0 where
  pub ok : OnOk answer (new.told ≡ option_map (λ s. empty_state schema) old.told)
  pub layout : OnOk answer (new.layout ≡ layout_of schema)
  pub begun : new.begun ≡ old.begun
  pub err : OnErr answer (Keeps old new)

-- After Ok a transaction is begun, from the told state. After a fault none is that wasn't.
pub record Begins {T : Type 0} (old new : Meaning) (answer : Result T StoreFault) : Type 0 where
  pub ok : OnOk answer ((new.begun ≡ true) × (new.start ≡ old.told))
  pub told : new.told ≡ old.told
  pub layout : new.layout ≡ old.layout
  pub err : OnErr answer (Keeps old new)

-- After Ok the transaction is ended, and what it changed stays. After a fault it goes on.
pub record Commits {T : Type 0} (old new : Meaning) (answer : Result T StoreFault) : Type 0 where
  pub ok : OnOk answer (new.begun ≡ false)
  pub told : new.told ≡ old.told
  pub layout : new.layout ≡ old.layout
  pub err : OnErr answer (Keeps old new)

-- After Ok the transaction is ended, and what was told at its begin is told again. After a fault the store is broken, and the transaction isn't ended.
pub record TakesBack {T : Type 0} (old new : Meaning) (answer : Result T StoreFault) : Type 0 where
  pub ok : OnOk answer ((new.begun ≡ false) × (new.told ≡ old.start))
  pub err : OnErr answer ((new.broken ≡ true) × (new.begun ≡ old.begun))
  pub layout : new.layout ≡ old.layout
