-- What is answered where a file of calls is played over a store, and what is left in the store.
use Rattle.std.specs.Prelude.{◌≡◌, ◌⊎◌, ℕ, ◌≤◌, true, false, List, map, Option, Some, None, is_some, option_map, Result, Ok, Err}
use Rattle.mig_io.specs.Counts.{Rose}
use Rattle.mig_schema.specs.declared.tables.Schema.{Schema}
use Rattle.mig_schema.specs.declared.programs.Program.{Program}
use Rattle.mig_meaning.specs.declared.states.State.{State}
use Rattle.mig_meaning.specs.declared.calling.Calls.{Calls}
use Rattle.mig_meaning.specs.declared.calling.Invocation.{Invocation}
use Rattle.mig_storage.specs.Layout.{layout_of}
use Rattle.mig_storage.specs.Meaning.{Meaning}
use Rattle.mig_store.specs.Runs.{Told, answers_of, played, query_calls, state_after}
use Rattle.mig_store.specs.Stopped.{IsStopped}
use Rattle.mig_store.specs.declared.faults.CallsFault.{CallsFault}
use Rattle.mig_store.specs.declared.faults.CallsFault.TheVariants.{Memory}
use Rattle.mig_store.specs.Reading.{calls_said, records_in}
use Rattle.mig_store.specs.Writing.{answers_text}

-- the calls that the bytes of a file say, or why they say none
abbrev pub calls_in : Program → List ℕ → Result Calls CallsFault
calls_in p bytes = calls_said p (records_in bytes)

-- the text of what these calls answer from empty tables
abbrev pub text_of : Schema → Program → List Invocation → List ℕ
text_of schema p calls = answers_text p (answers_of 0 calls (played schema p calls))

-- the number of a call and of its function
abbrev pub place_in : Told → ℕ × ℕ
place_in t = (t.call, t.function)

-- A text of answers, one for each query call, in order. Where the store told its state, the text is the defined one.
pub record IsAnswered (schema : Schema) (p : Program) (calls : List Invocation) (told : Option State) (text : List ℕ) : Type 0 where
  pub answers : List Told
  pub places : map place_in answers ≡ query_calls p 0 calls
  pub written : text ≡ answers_text p answers
  pub exact : (s : State) → told ≡ Some s → text ≡ text_of schema p calls

-- The file's calls were all played: their answers are told, and the store is as they leave it. It was whole, and is.
pub record IsPlayed (schema : Schema) (p : Program) (bytes : List ℕ) (old new : Meaning) (text : List ℕ) : Type 0 where
  pub calls : Calls
  pub said : calls_in p bytes ≡ Ok calls
  pub answered : IsAnswered schema p calls.calls old.told text
  pub state : new.told ≡ option_map (λ s. state_after schema p calls.calls) old.told
  pub layout : new.layout ≡ layout_of schema
  pub before : old.broken ≡ false
  pub whole : new.broken ≡ false

-- the file says no calls, for this cause, and the store was left alone
pub record IsRefused (p : Program) (bytes : List ℕ) (old new : Meaning) (cause : CallsFault) : Type 0 where
  pub said : calls_in p bytes ≡ Err cause
  pub never : cause ≡ Memory → ⊥
  pub alone : new ≡ old

-- the file says calls, and while they were played the store counted a fault, or it was broken before
pub record HasFailed (schema : Schema) (p : Program) (bytes : List ℕ) (old new : Meaning) : Type 0 where
  pub calls : Calls
  pub said : calls_in p bytes ≡ Ok calls
  pub why : Rose old.faults new.faults ⊎ (old.broken ≡ true)
  pub left : IsStopped schema p calls.calls old new

-- What holds of a store whatever was answered: its count of faults never falls, it stays broken where it was, and it goes on telling its state unless it breaks.
pub record Lasts (old new : Meaning) : Type 0 where
  pub later : old.faults ≤ new.faults
  pub broken : old.broken ≡ true → new.broken ≡ true
  pub untold : old.told ≡ None → new.told ≡ None
  pub tells : new.broken ≡ false → is_some new.told ≡ is_some old.told
