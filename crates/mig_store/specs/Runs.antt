-- Runs from empty tables, and what their query calls answer.
use Rattle.std.specs.Prelude.{◌≡◌, ℕ, zero, suc, ◌+◌, ◌*◌, ◌≤◌, Bool, true, false, cond, List, [], ◌∷◌, ◌++◌, length, Option, Some, None}
use Rattle.mig_schema.specs.declared.tables.Schema.{Schema}
use Rattle.mig_schema.specs.declared.programs.Body.{Body}
use Rattle.mig_schema.specs.declared.programs.Body.TheVariants as body
use Rattle.mig_schema.specs.declared.programs.Function.{Function}
use Rattle.mig_schema.specs.declared.programs.Program.{Program}
use Rattle.mig_schema.specs.declared.values.Value.{Value}
use Rattle.mig_schema.specs.Typed.{Piece, pieces_of, scalars_of}
use Rattle.mig_meaning.specs.declared.states.State.{State}
use Rattle.mig_meaning.specs.declared.calling.Invocation.{Invocation}
use Rattle.mig_meaning.specs.Lists.{Each}
use Rattle.mig_meaning.specs.Rows.{empty_state}
use Rattle.mig_meaning.specs.Run.{Outcome, function_at, run}
use Rattle.mig_meaning.specs.States.{labels_fit}
use Rattle.mig_calls.specs.Calling.{IsShortScalar}
use Rattle.mig_calls.specs.Rows.{rows_added_by}

-- n numbers in order, the first of them a
abbrev pub numbers_from : (a n : ℕ) → List ℕ
numbers_from a zero = []
numbers_from a (suc n) = a ∷ numbers_from (a + 1) n

-- the run of these calls from empty tables, where key i of the supply is the number i
abbrev pub played : Schema → Program → List Invocation → List Outcome
played schema p calls = run schema p (empty_state schema) calls (numbers_from 0 (16 * length calls))

-- the last state of a run from the state s
abbrev pub last_state : State → List Outcome → State
last_state s [] = s
last_state s (o ∷ os) = last_state o.state os

-- the state after these calls from empty tables
abbrev pub state_after : Schema → Program → List Invocation → State
state_after schema p calls = last_state (empty_state schema) (played schema p calls)

-- what a query call answers: its number in the run, its function, and its rows
pub record Told : Type 0 where
  pub call : ℕ
  pub function : ℕ
  pub rows : List (List Value)

-- only a query answers rows
abbrev pub answered_by : (call function : ℕ) → Option (List (List Value)) → List Told
answered_by n f None = []
answered_by n f (Some rows) = record { call = n; function = f; rows = rows } ∷ []

-- what the query calls among these answer, the first of which has the number n
abbrev pub answers_of : (n : ℕ) → List Invocation → List Outcome → List Told
answers_of n (i ∷ is) (o ∷ os) = answered_by n i.function o.reply ++ answers_of (n + 1) is os
answers_of n _ _ = []

-- whether a body is a query
abbrev pub is_query : Body → Bool
is_query (body.Update stmts) = false
is_query (body.Query q) = true

-- the number of each query call among these and that of its function
abbrev pub query_calls : Program → (n : ℕ) → List Invocation → List (ℕ × ℕ)
query_calls p n [] = []
query_calls p n (i ∷ is) = cond (is_query (function_at p i.function).body) ((n, i.function) ∷ []) [] ++ query_calls p (n + 1) is

-- What a function must have to be called: labels up to 15, inserts that join at most 17 tables in all, texts of at most 65,535 bytes.
pub record IsCallable (f : Function) : Type 0 where
  pub labels : labels_fit f ≡ true
  pub rows : rows_added_by f.body ≤ 17
  pub literals : Each (λ (p : Piece). Each IsShortScalar (scalars_of p)) (pieces_of f.body)
