-- The first test list on which two programs answer differently.
use Rattle.std.specs.Prelude.{◌≡◌, ℕ, List, [], ◌∷◌, ◌++◌, map, take, Option, Some, None}
use Rattle.mig_schema.specs.declared.jobs.Job.{Job}
use Rattle.mig_schema.specs.declared.programs.Program.{Program}
use Rattle.mig_schema.specs.declared.tables.Schema.{Schema}
use Rattle.mig_schema.specs.declared.values.Value.{Value}
use Rattle.mig_listing.specs.Listing.{IsListOf}
use Rattle.mig_meaning.specs.declared.calling.Calls.{Calls}
use Rattle.mig_meaning.specs.declared.calling.Invocation.{Invocation}
use Rattle.mig_meaning.specs.Bags.{SameBag}
use Rattle.mig_meaning.specs.Lists.{Each}
use Rattle.mig_meaning.specs.Run.{Outcome}
use Rattle.mig_store.specs.Runs.{played}
use Rattle.mig_failing.specs.Tests.{TestCall, IsTestList, TestBefore, calls_of}

-- the answer of the last call of a run
abbrev pub last_reply : List Outcome → Option (List (List Value))
last_reply [] = None
last_reply (o ∷ []) = o.reply
last_reply (o ∷ (p ∷ os)) = last_reply (p ∷ os)

-- what a program answers last, from empty tables and with the keys 0, 1, 2 and so on
abbrev pub answered_last : Schema → Program → List Invocation → Option (List (List Value))
answered_last schema p calls = last_reply (played schema p calls)

-- equal bags, or no answer on either side
abbrev pub SameAnswer : Option (List (List Value)) → Option (List (List Value)) → Type 0
SameAnswer (Some a) (Some b) = SameBag a b
SameAnswer None None = Unit {0}
SameAnswer (Some a) None = ⊥
SameAnswer None (Some b) = ⊥

-- both programs of a job answer these calls alike in the end
abbrev pub AgreeOn : Job → Program → List Invocation → Type 0
AgreeOn job p calls = SameAnswer (answered_last job.source job.program calls) (answered_last job.target p calls)

-- they don't on these calls, and do on all that stand before them in a list
pub record IsFirstFailing (job : Job) (p : Program) (lists : List (List Invocation)) (calls : List Invocation) : Type 0 where
  pub before : List (List Invocation)
  pub after : List (List Invocation)
  pub are : lists ≡ before ++ calls ∷ after
  pub agree : Each (AgreeOn job p) before
  pub fails : AgreeOn job p calls → ⊥

-- the first that fails, or nothing where none does
abbrev pub FindsFailing : Job → Program → List (List Invocation) → Option Calls → Type 0
FindsFailing job p lists None = Each (AgreeOn job p) lists
FindsFailing job p lists (Some c) = IsFirstFailing job p lists c.calls

-- the first that fails of the first `tests` test lists
pub record IsFailing (job : Job) (p : Program) (tests : ℕ) (found : Option Calls) : Type 0 where
  pub lists : List (List TestCall)
  pub all : IsListOf (IsTestList job.program) TestBefore lists
  pub first : FindsFailing job p (take tests (map (calls_of job.program) lists)) found
