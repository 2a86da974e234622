-- What one correspondence adds to the entries, and why it stops.
use Rattle.std.specs.Prelude.{◌≡◌, ℕ, ◌<◌, List, [], ◌∷◌, ◌++◌, length}
use Rattle.mig_schema.specs.declared.jobs.Job.{Job}
use Rattle.mig_schema.specs.declared.programs.Program.{Program}
use Rattle.mig_invariant.specs.declared.corresp.Corr.{Corr}
use Rattle.mig_sketch.specs.declared.plans.Plan.{Plan}
use Rattle.mig_search.specs.declared.outcomes.Options.{Options}
use Rattle.mig_search.specs.declared.outcomes.Tried.{Tried}
use Rattle.mig_search.specs.declared.stopping.Stop.{Stop}
use Rattle.mig_search.specs.declared.stopping.Stop.TheVariants as stop
use Rattle.mig_search.specs.declared.stopping.Verdict.{Verdict}
use Rattle.mig_search.specs.declared.stopping.Verdict.TheVariants as verdict
use Rattle.mig_search.specs.Finds.{IsRightFind}
use Rattle.mig_search.specs.Outcomes.{AreBeforeFind, AreAllOf, AreFirstOf, AreAllEntries, AreFirstEntries, AreEntriesBefore}

-- new is old and these entries, and fewer than the budget
pub record Adds (budget : ℕ) (old new : List Tried) (P : List Tried → Type 0) : Type 0 where
  pub here : List Tried
  pub are : new ≡ old ++ here
  pub so : P here
  pub fewer : length new < budget

-- new is old and these entries, and as many as the budget
pub record Reaches (budget : ℕ) (old new : List Tried) (P : List Tried → Type 0) : Type 0 where
  pub here : List Tried
  pub are : new ≡ old ++ here
  pub so : P here
  pub as_many : length new ≡ budget

-- what a plan adds
abbrev pub StopsPlan : Job → Corr → Options → Plan → (old new : List Tried) → Stop → Type 0
StopsPlan job corr options plan old new stop.Whole = Adds options.budget old new (AreAllOf job corr options.tests plan)
StopsPlan job corr options plan old new stop.Spent = Reaches options.budget old new (AreFirstOf job corr options.tests plan)
StopsPlan job corr options plan old new (stop.Found program certificate) = Adds options.budget old new (AreBeforeFind job corr options.tests plan program certificate)

-- what a correspondence adds
abbrev pub Stops : Job → Corr → Options → (old new : List Tried) → Stop → Type 0
Stops job corr options old new stop.Whole = Adds options.budget old new (AreAllEntries job corr options.tests)
Stops job corr options old new stop.Spent = Reaches options.budget old new (AreFirstEntries job corr options.tests)
Stops job corr options old new (stop.Found program certificate) = Adds options.budget old new (AreEntriesBefore job corr options.tests program certificate)

-- one entry is added
abbrev pub GivesUp : (budget : ℕ) → Tried → (old new : List Tried) → Stop → Type 0
GivesUp budget entry old new stop.Whole = (new ≡ old ++ entry ∷ []) × (length new < budget)
GivesUp budget entry old new stop.Spent = (new ≡ old ++ entry ∷ []) × (length new ≡ budget)
GivesUp budget entry old new (stop.Found program certificate) = ⊥

-- what is found is right
abbrev pub IsRightVerdict : Job → Program → Verdict → Type 0
IsRightVerdict job program (verdict.Find certificate) = IsRightFind job program certificate
IsRightVerdict job program (verdict.Entry entry) = Unit {0}

abbrev pub IsRightStop : Job → Stop → Type 0
IsRightStop job stop.Whole = Unit {0}
IsRightStop job stop.Spent = Unit {0}
IsRightStop job (stop.Found program certificate) = IsRightFind job program certificate
