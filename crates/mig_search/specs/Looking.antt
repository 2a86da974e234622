-- Which completions of a plan are looked at.
use Rattle.std.specs.Prelude.{◌≡◌, ℕ, true, List, map}
use Rattle.mig_schema.specs.declared.jobs.Job.{Job}
use Rattle.mig_schema.specs.declared.programs.Program.{Program}
use Rattle.mig_listing.specs.Fronts.{IsFront, IsNext}
use Rattle.mig_listing.specs.Listing.{IsIn, IsListOf}
use Rattle.mig_listing.specs.Orders.{Less, Lex}
use Rattle.mig_meaning.specs.declared.calling.Calls.{Calls}
use Rattle.mig_certificate.specs.declared.proofs.Certificate.{Certificate}
use Rattle.mig_invariant.specs.declared.corresp.Corr.{Corr}
use Rattle.mig_sketch.specs.declared.plans.Hole.{Hole}
use Rattle.mig_sketch.specs.declared.plans.Plan.{Plan}
use Rattle.mig_sketch.specs.Choices.{IsChoice, sizes_of}
use Rattle.mig_sketch.specs.Filling.{filled}
use Rattle.mig_search.specs.declared.outcomes.Tried.{Tried}
use Rattle.mig_search.specs.declared.outcomes.Tried.TheVariants.{Refuted}
use Rattle.mig_search.specs.Blaming.{agrees, is_called}
use Rattle.mig_search.specs.Judging.{IsEntry, IsFind}

-- a completion that was looked at, and its entry
pub record Looked : Type 0 where
  pub picks : List ℕ
  pub entry : Tried

abbrev pub picks_of : List Looked → List (List ℕ)
picks_of seen = map (λ (l : Looked). l.picks) seen

abbrev pub entries_of : List Looked → List Tried
entries_of seen = map (λ (l : Looked). l.entry) seen

-- an earlier one was refuted by a list of calls, and both pick the same at all holes of the functions that it calls
pub record IsPassedOver (holes : List Hole) (seen : List Looked) (picks : List ℕ) : Type 0 where
  pub by : Looked
  pub seen_before : IsIn by seen
  pub earlier : Lex Less by.picks picks
  pub calls : Calls
  pub refuted : by.entry ≡ Refuted calls
  pub agree : agrees holes (is_called calls.calls) by.picks picks ≡ true

-- a completion that none of these passes over
pub record IsOpen (holes : List Hole) (seen : List Looked) (picks : List ℕ) : Type 0 where
  pub choice : IsChoice (sizes_of holes) picks
  pub open_yet : IsPassedOver holes seen picks → ⊥

-- each has its entry
abbrev pub HaveEntries : Job → Corr → (tests : ℕ) → Plan → List Looked → Type 0
HaveEntries job corr tests plan seen = (l : Looked) → IsIn l seen → IsEntry job corr tests (filled plan l.picks) l.entry

-- the first completions that are looked at, in order; none of them is the find
pub record AreFirstLooked (job : Job) (corr : Corr) (tests : ℕ) (plan : Plan) (seen : List Looked) : Type 0 where
  pub first : IsFront (IsOpen plan.holes seen) (Lex Less) (picks_of seen)
  pub entries : HaveEntries job corr tests plan seen

-- all completions that are looked at, in order; none of them is the find
pub record AreAllLooked (job : Job) (corr : Corr) (tests : ℕ) (plan : Plan) (seen : List Looked) : Type 0 where
  pub all : IsListOf (IsOpen plan.holes seen) (Lex Less) (picks_of seen)
  pub entries : HaveEntries job corr tests plan seen

-- the one that is looked at next is the find
pub record IsFoundNext (job : Job) (corr : Corr) (tests : ℕ) (plan : Plan) (seen : List Looked) (program : Program) (certificate : Certificate) : Type 0 where
  pub picks : List ℕ
  pub next : IsNext (IsOpen plan.holes seen) (Lex Less) (picks_of seen) picks
  pub is : program ≡ filled plan picks
  pub find : IsFind job corr tests program certificate
