-- What is to be shown of each pair of functions, and the laws that then the programs answer alike.
use Rattle.std.specs.Prelude.{ℕ, ◌<◌, Bool, true, false, List, length, ◌≡◌}
use Rattle.std.specs.List.{list_all}
use Rattle.mig_schema.specs.declared.tables.Kind.{Kind}
use Rattle.mig_schema.specs.declared.tables.Kind.TheVariants as kind
use Rattle.mig_schema.specs.declared.tables.Schema.{Schema}
use Rattle.mig_schema.specs.declared.programs.Param.{Param}
use Rattle.mig_schema.specs.declared.programs.Body.{Body}
use Rattle.mig_schema.specs.declared.programs.Function.{Function}
use Rattle.mig_schema.specs.declared.programs.Program.{Program}
use Rattle.mig_schema.specs.Typed.{IsTypedProgram}
use Rattle.mig_meaning.specs.declared.states.State.{State}
use Rattle.mig_meaning.specs.declared.relating.Invariant.{Invariant}
use Rattle.mig_meaning.specs.Conditions.{Given}
use Rattle.mig_meaning.specs.Effect.{after, reply}
use Rattle.mig_meaning.specs.Run.{function_at}
use Rattle.mig_meaning.specs.Calls.{IsGivenTo}
use Rattle.mig_meaning.specs.Keys.{EachValue, IsNoKey}
use Rattle.mig_meaning.specs.Renaming.{same, SameReply}
use Rattle.mig_meaning.specs.Holds.{AllHold}
use Rattle.mig_meaning.specs.States.{IsState, labels_fit}
use Rattle.mig_meaning.specs.Functions.{SameFunctions}
use Rattle.mig_meaning.specs.Equivalent.{AnswersAlike, IsEquivalent}

-- a setting: what a call of a function is given, and a state over each schema before it
pub record IsSetting (schema schema' : Schema) (f : Function) (g : Given) (old new : State) : Type 0 where
  pub given : IsGivenTo f g
  pub source : IsState schema old
  pub target : IsState schema' new

-- the facts of a setting: each invariant holds, and no value of either state is one of the call's keys
pub record FactsHold (invs : List Invariant) (keys : List ℕ) (old new : State) : Type 0 where
  pub hold : AllHold same old new invs
  pub source : EachValue (IsNoKey keys) old
  pub target : EachValue (IsNoKey keys) new

-- two functions meet what is asked of a pair: from each setting in which the facts hold, each invariant holds afterwards, and both answer alike
pub record BodiesMeet (schema schema' : Schema) (invs : List Invariant) (f : Function) (b b' : Body) : Type 0 where
  pub hold : (g : Given) (old new : State) → IsSetting schema schema' f g old new → FactsHold invs g.keys old new
      → AllHold same (after schema g b old) (after schema' g b' new) invs
  pub answer : (g : Given) (old new : State) → IsSetting schema schema' f g old new → FactsHold invs g.keys old new
      → SameReply same (reply g b old) (reply g b' new)

-- the same of the two functions of each number
pub record PairsMeet (schema schema' : Schema) (p p' : Program) (invs : List Invariant) : Type 0 where
  pub by : (n : ℕ) → n < length p.functions → BodiesMeet schema schema' invs (function_at p n) (function_at p n).body (function_at p' n).body

-- whether a kind is not that of keys
abbrev pub is_no_key : Kind → Bool
is_no_key kind.Int = true
is_no_key kind.Text = true
is_no_key kind.Key = false

-- whether no parameter of a function is of kind key
abbrev pub takes_no_keys : Function → Bool
takes_no_keys f = list_all (λ (p : Param). is_no_key p.kind) f.params

-- two typed programs with the same functions, with labels up to 15 and no parameters of kind key
pub record AreTyped (schema schema' : Schema) (p p' : Program) : Type 0 where
  pub source : IsTypedProgram schema p
  pub target : IsTypedProgram schema' p'
  pub source_labels : list_all labels_fit p.functions ≡ true
  pub target_labels : list_all labels_fit p'.functions ≡ true
  pub functions : SameFunctions schema schema' p p'
  pub no_keys : list_all takes_no_keys p.functions ≡ true

-- typed programs whose pairs of functions meet what is asked of them answer alike by one supply
pub record MeetingLaw : Type 0 where
  pub by : (schema schema' : Schema) (p p' : Program) (invs : List Invariant) → AreTyped schema schema' p p' → PairsMeet schema schema' p p' invs → AnswersAlike schema schema' p p' invs

-- and they are equivalent
pub record EquivalenceLaw : Type 0 where
  pub by : (schema schema' : Schema) (p p' : Program) (invs : List Invariant) → AreTyped schema schema' p p' → PairsMeet schema schema' p p' invs → IsEquivalent schema schema' p p' invs
