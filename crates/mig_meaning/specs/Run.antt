-- Runs of calls.
use Rattle.std.specs.Prelude.{ℕ, List, [], ◌∷◌, take, drop, slice_index_or, Option}
use Rattle.mig_schema.specs.declared.tables.Schema.{Schema}
use Rattle.mig_schema.specs.declared.programs.Body.TheVariants as body
use Rattle.mig_schema.specs.declared.programs.Function.{Function}
use Rattle.mig_schema.specs.declared.programs.Program.{Program}
use Rattle.mig_schema.specs.declared.values.Value.{Value}
use Rattle.mig_meaning.specs.declared.states.State.{State}
use Rattle.mig_meaning.specs.declared.calling.Invocation.{Invocation}
use Rattle.mig_meaning.specs.Effect.{after, reply}

-- what stands where a function's number is out of range: an update that does nothing
abbrev pub no_function : Function
no_function = record { name = []; params = []; body = body.Update [] }

-- the function of a number
abbrev pub function_at : Program → ℕ → Function
function_at p n = slice_index_or p.functions n no_function

-- the state after a call, and the answer of a query call
pub record Outcome : Type 0 where
  pub state : State
  pub reply : Option (List (List Value))

-- one call with its keys
abbrev pub called : Schema → Program → Invocation → List ℕ → State → Outcome
called schema p i keys s = record {
  state = after schema (record { args = i.args.values; keys = keys }) (function_at p i.function).body s;
  reply = reply (record { args = i.args.values; keys = keys }) (function_at p i.function).body s;
}

-- the calls in order, each with the next 16 keys of the supply
abbrev pub run : Schema → Program → State → List Invocation → List ℕ → List Outcome
run schema p s [] ks = []
run schema p s (i ∷ is) ks = called schema p i (take 16 ks) s ∷ run schema p (called schema p i (take 16 ks) s).state is (drop 16 ks)
