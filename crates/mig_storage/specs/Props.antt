-- That a state fits a layout has at most one proof, as a fact that a store in memory carries must.
use Rattle.std.specs.Prelude.{ℕ, List, [], ◌∷◌}
use Rattle.std.specs.Coded.{×_prop, Unit-prop, le_prop}
use Rattle.std.proofs.Props.{props}
use Rattle.mig_schema.specs.declared.tables.Column.{Column}
use Rattle.mig_schema.specs.declared.tables.Schema.{Schema}
use Rattle.mig_meaning.specs.declared.states.Placed.{Placed}
use Rattle.mig_meaning.specs.declared.states.State.{State}
use Rattle.mig_meaning.specs.Lists.{Each}
use Rattle.mig_meaning.specs.States.{Rising, IsTable, IsState}
use Rattle.mig_storage.specs.Layout.{Layout}
use Rattle.mig_storage.specs.Meaning.{FitsLayout}

each-prop : {X : Type 0} (P : X → Type 0) → ((x : X) → IsProp (P x)) → (xs : List X) → IsProp (Each P xs)
each-prop P h [] = Unit-prop
each-prop P h (x ∷ xs) = ×_prop (h x) (each-prop P h xs)

rising-prop : (rows : List Placed) → IsProp (Rising rows)
rising-prop [] = Unit-prop
rising-prop (p ∷ rows) = ×_prop (each-prop _ (λ q. le_prop) rows) (rising-prop rows)

table-prop : (columns : List Column) (next : ℕ) (rows : List Placed) → IsProp (IsTable columns next rows)
table-prop columns next rows = hlevel (rising-prop, each-prop, le_prop, props)

state-prop : (schema : Schema) (s : State) → IsProp (IsState schema s)
state-prop schema s = hlevel (table-prop, props)

pub FitsLayout-prop : (layout : Layout) (s : State) → IsProp (FitsLayout layout s)
FitsLayout-prop layout s = hlevel state-prop
