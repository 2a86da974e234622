-- The law of renamings: what a renaming must not confuse.
use Rattle.std.specs.Prelude.{ℕ, true, List, map, ◌≡◌, Option, Some, None}
use Rattle.mig_schema.specs.declared.values.Value.{Value}
use Rattle.mig_meaning.specs.declared.calling.Invocation.{Invocation}
use Rattle.mig_schema.specs.declared.tables.Schema.{Schema}
use Rattle.mig_schema.specs.declared.programs.Program.{Program}
use Rattle.mig_meaning.specs.declared.states.State.{State}
use Rattle.mig_meaning.specs.Lists.{Each, has}
use Rattle.mig_meaning.specs.Run.{Outcome, run}
use Rattle.mig_meaning.specs.Keys.{EachValue, EachArgument, IsOfKeys}
use Rattle.mig_meaning.specs.Renaming.{renamed, renamed_state, renamed_rows}

-- different keys of a list stay different
abbrev pub InjectiveOn : List ℕ → (ℕ → ℕ) → Type 0
InjectiveOn ks f = (a b : ℕ) → has ks a ≡ true → has ks b ≡ true → f a ≡ f b → a ≡ b

-- a call with its arguments renamed
abbrev pub renamed_call : (ℕ → ℕ) → Invocation → Invocation
renamed_call f i = record { function = i.function; args = record { values = map (renamed f) i.args.values } }

-- what a call answers, renamed
abbrev pub renamed_reply : (ℕ → ℕ) → Option (List (List Value)) → Option (List (List Value))
renamed_reply f None = None
renamed_reply f (Some rows) = Some (renamed_rows f rows)

-- what a call leaves and answers, renamed
abbrev pub renamed_outcome : (ℕ → ℕ) → Outcome → Outcome
renamed_outcome f o = record { state = renamed_state f o.state; reply = renamed_reply f o.reply }

-- a renaming that gives different keys to any two different keys of a list commutes with every run whose state, arguments and supply have keys of that list alone
pub record RenamingLaw : Type 0 where
  pub by : (schema : Schema) (p : Program) (ks : List ℕ) (f : ℕ → ℕ) → InjectiveOn ks f
      → (is : List Invocation) (supply : List ℕ) (s : State) → EachValue (IsOfKeys ks) s → EachArgument (IsOfKeys ks) is → Each (λ k. has ks k ≡ true) supply
      → run schema p (renamed_state f s) (map (renamed_call f) is) (map f supply) ≡ map (renamed_outcome f) (run schema p s is supply)
