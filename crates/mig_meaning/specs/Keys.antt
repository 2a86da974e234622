-- What holds of each value of a state or a call, and which keys stand there.
use Rattle.std.specs.Prelude.{ℕ, true, false, List, ◌≡◌}
use Rattle.mig_schema.specs.declared.values.Value.{Value}
use Rattle.mig_schema.specs.declared.values.Value.TheVariants as value
use Rattle.mig_meaning.specs.declared.states.Placed.{Placed}
use Rattle.mig_meaning.specs.declared.states.State.{State}
use Rattle.mig_meaning.specs.declared.calling.Invocation.{Invocation}
use Rattle.mig_meaning.specs.Lists.{Each, has}

-- what holds of each value of a row
abbrev pub EachIn : (Value → Type 0) → Placed → Type 0
EachIn P p = Each P p.row.values

-- what holds of each value of a state
abbrev pub EachValue : (Value → Type 0) → State → Type 0
EachValue P s = Each (Each (EachIn P)) s.tables

-- what holds of each argument of each call
abbrev pub EachArgument : (Value → Type 0) → List Invocation → Type 0
EachArgument P is = Each (λ (i : Invocation). Each P i.args.values) is

-- a value is none of these keys
abbrev pub IsNoKey : List ℕ → Value → Type 0
IsNoKey ks (value.Int i) = Unit {0}
IsNoKey ks (value.Text t) = Unit {0}
IsNoKey ks (value.Key k) = has ks k ≡ false

-- a value is a key of these, or no key
abbrev pub IsOfKeys : List ℕ → Value → Type 0
IsOfKeys ks (value.Int i) = Unit {0}
IsOfKeys ks (value.Text t) = Unit {0}
IsOfKeys ks (value.Key k) = has ks k ≡ true
