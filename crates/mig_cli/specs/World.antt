-- What stands before a call and after it: what files, a store and sinks mean.
use Rattle.std.specs.Prelude.{◌≡◌, ℕ, List, ◌++◌, Option}
use Rattle.mig_io.specs.declared.files.Files as files_trait
use Rattle.mig_io.specs.declared.sinks.Sink as sink_trait
use Rattle.mig_storage.specs.declared.store.Store as store_trait
use Rattle.mig_storage.specs.Meaning.{Meaning}

-- What names are told to hold. Files that do not tell have `None` there.
abbrev pub Holdings : Type 0
Holdings = List ℕ → Option (List ℕ)

-- what files are told to hold, the names that they were asked for, and how many faults they counted
pub record FilesMeaning : Type 0 where
  pub told : Holdings
  pub asked : List (List ℕ)
  pub faults : ℕ

-- what a sink took, where it tells, and how many faults it counted
pub record SinkMeaning : Type 0 where
  pub took : Option (List ℕ)
  pub faults : ℕ

-- what a command reads, and the store that it works on
pub record Inputs : Type 0 where
  pub files : FilesMeaning
  pub store : Meaning

-- the sinks for the answer and for the report
pub record Outputs : Type 0 where
  pub out : SinkMeaning
  pub err : SinkMeaning

pub record World : Type 0 where
  pub inputs : Inputs
  pub outputs : Outputs

-- ---- what values of these types mean

abbrev pub files_meaning : {F : Type 0} → files_trait.Ghosts F → F → FilesMeaning
files_meaning f files = record { told = f.told files; asked = f.asked files; faults = f.faults files }

abbrev pub sink_meaning : {W : Type 0} → sink_trait.Ghosts W → W → SinkMeaning
sink_meaning w sink = record { took = w.took sink; faults = w.faults sink }

abbrev pub inputs_of : {F S : Type 0} → files_trait.Ghosts F → store_trait.Ghosts S → F → S → Inputs
inputs_of f s files store = record { files = files_meaning f files; store = s.meaning store }

abbrev pub outputs_of : {W E : Type 0} → sink_trait.Ghosts W → sink_trait.Ghosts E → W → E → Outputs
outputs_of w e out err = record { out = sink_meaning w out; err = sink_meaning e err }

abbrev pub world_of : {F W E S : Type 0} → files_trait.Ghosts F → sink_trait.Ghosts W → sink_trait.Ghosts E → store_trait.Ghosts S → F → W → E → S → World
world_of f w e s files out err store = record { inputs = inputs_of f s files store; outputs = outputs_of w e out err }

-- ---- what changes

-- these names were asked for, in this order, and no others
abbrev pub Asks : (before after : Inputs) → List (List ℕ) → Type 0
Asks before after names = after.files.asked ≡ before.files.asked ++ names

-- the store is as it was
abbrev pub Spares : (before after : Inputs) → Type 0
Spares before after = after.store ≡ before.store
