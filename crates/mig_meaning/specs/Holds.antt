-- When an invariant holds between an old and a new state.
use Rattle.std.specs.Prelude.{ℕ, true, false, List, [], ◌∷◌, map, ◌≡◌}
use Rattle.mig_schema.specs.declared.values.Value.{Value}
use Rattle.mig_schema.specs.declared.tables.ColId.{ColId}
use Rattle.mig_meaning.specs.declared.states.Placed.{Placed}
use Rattle.mig_meaning.specs.declared.states.State.{State}
use Rattle.mig_schema.specs.declared.faults.Side.{Side}
use Rattle.mig_schema.specs.declared.faults.Side.TheVariants.{Old, New}
use Rattle.mig_meaning.specs.declared.relating.View.{View}
use Rattle.mig_meaning.specs.declared.relating.Invariant.{Invariant}
use Rattle.mig_meaning.specs.declared.relating.Invariant.TheVariants.{Views, Unique, Apart, Within}
use Rattle.mig_schema.specs.Joins.{tables_of}
use Rattle.mig_meaning.specs.Lists.{In}
use Rattle.mig_meaning.specs.Values.{value_eq}
use Rattle.mig_meaning.specs.Rows.{rows_of, value_at, column_in, join_rows}
use Rattle.mig_meaning.specs.Renaming.{SameRenamed}

-- the outputs of a view's join rows
abbrev pub outputs : View → State → List (List Value)
outputs v s = map (λ e. map (column_in (tables_of v.join) e) v.outs) (join_rows s v.join)

-- the state of a side
abbrev pub state_of : Side → State → State → State
state_of Old old new = old
state_of New old new = new

-- no two rows with different ids have equal values in the column
abbrev pub IsUnique : State → ColId → Type 0
IsUnique s c =
    (p q : Placed) → In p (rows_of s c.table) → In q (rows_of s c.table) → value_eq (value_at p c.column) (value_at q c.column) ≡ true → p.id ≡ q.id

-- no row of one table and row of the other have equal values there
abbrev pub IsApart : State → ColId → ColId → Type 0
IsApart s c d =
    (p q : Placed) → In p (rows_of s c.table) → In q (rows_of s d.table) → value_eq (value_at p c.column) (value_at q d.column) ≡ false

-- each row's value stands in some row of the other table
abbrev pub IsWithin : State → ColId → ColId → Type 0
IsWithin s c d =
    (p : Placed) → In p (rows_of s c.table) → (q : Placed) × In q (rows_of s d.table) × (value_eq (value_at p c.column) (value_at q d.column) ≡ true)

-- an invariant holds between an old and a new state, under a renaming
abbrev pub Holds : (ℕ → ℕ) → State → State → Invariant → Type 0
Holds f old new (Views source target) = SameRenamed f (outputs source old) (outputs target new)
Holds f old new (Unique side column) = IsUnique (state_of side old new) column
Holds f old new (Apart side left right) = IsApart (state_of side old new) left right
Holds f old new (Within side left right) = IsWithin (state_of side old new) left right

-- each of a list holds
abbrev pub AllHold : (ℕ → ℕ) → State → State → List Invariant → Type 0
AllHold f old new [] = Unit {0}
AllHold f old new (i ∷ is) = Holds f old new i × AllHold f old new is
