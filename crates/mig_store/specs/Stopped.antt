-- What a run leaves that ended with a fault.
use Rattle.std.specs.Prelude.{◌≡◌, ℕ, ◌≤◌, true, List, length, take, option_map, ◌⊎◌}
use Rattle.mig_schema.specs.declared.tables.Schema.{Schema}
use Rattle.mig_schema.specs.declared.programs.Program.{Program}
use Rattle.mig_meaning.specs.declared.calling.Invocation.{Invocation}
use Rattle.mig_storage.specs.Meaning.{Meaning}
use Rattle.mig_store.specs.Runs.{state_after}

-- the told state is the one after the first calls, so many, none left out
pub record IsAfterSome (schema : Schema) (p : Program) (calls : List Invocation) (old new : Meaning) : Type 0 where
  pub made : ℕ
  pub within : made ≤ length calls
  pub told : new.told ≡ option_map (λ s. state_after schema p (take made calls)) old.told

-- the told state is that at entry, or the one after some calls, or the store is broken
abbrev pub IsStopped : Schema → Program → List Invocation → (old new : Meaning) → Type 0
IsStopped schema p calls old new = (new.told ≡ old.told) ⊎ (IsAfterSome schema p calls old new ⊎ (new.broken ≡ true))
