-- What the changes of a store make of a state. A new row is placed as an insert places it (`with_row`).
use Rattle.std.specs.Prelude.{ℕ, ◌==◌, Bool, cond, not, List, filter, map}
use Rattle.std.specs.List.{list_any}
use Rattle.mig_base.specs.Lists.{numbered}
use Rattle.mig_schema.specs.declared.values.Value.{Value}
use Rattle.mig_meaning.specs.Effect.{with_value}
use Rattle.mig_meaning.specs.declared.states.Placed.{Placed}
use Rattle.mig_meaning.specs.declared.states.State.{State}

-- the state with the rows of table t changed
abbrev pub changed_at : ℕ → (List Placed → List Placed) → State → State
changed_at t change s = record {
  tables = numbered (λ n rows. cond (n == t) (change rows) rows) 0 s.tables;
  next = s.next;
}

-- the state without the row of this id in table t
abbrev pub removed : (t id : ℕ) → State → State
removed t id s = changed_at t (filter (λ (p : Placed). not (p.id == id))) s

-- the state with a value in column c of the row of this id in table t
abbrev pub written : (t id c : ℕ) → Value → State → State
written t id c v s = changed_at t (map (λ (p : Placed). cond (p.id == id) (with_value c v p) p)) s

-- whether a row among these has this id
abbrev pub has_id : ℕ → List Placed → Bool
has_id id rows = list_any (λ (p : Placed). p.id == id) rows
