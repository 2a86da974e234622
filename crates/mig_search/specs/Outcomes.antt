-- The outcome of the search.
use Rattle.std.specs.Prelude.{◌≡◌, ◌⊎◌, ℕ, ◌<◌, ◌≤◌, List, [], ◌∷◌, ◌++◌, length}
use Rattle.mig_schema.specs.declared.jobs.Job.{Job}
use Rattle.mig_schema.specs.declared.programs.Program.{Program}
use Rattle.mig_listing.specs.Fronts.{IsFront}
use Rattle.mig_listing.specs.Listing.{IsListOf}
use Rattle.mig_certificate.specs.declared.proofs.Certificate.{Certificate}
use Rattle.mig_invariant.specs.declared.corresp.Corr.{Corr}
use Rattle.mig_corresp.specs.Correspondences.{IsCorr, RanksBefore}
use Rattle.mig_sketch.specs.declared.plans.Made.{Made}
use Rattle.mig_sketch.specs.declared.plans.Made.TheVariants as made
use Rattle.mig_sketch.specs.declared.plans.Plan.{Plan}
use Rattle.mig_sketch.specs.Made.{IsMade}
use Rattle.mig_search.specs.declared.outcomes.Options.{Options}
use Rattle.mig_search.specs.declared.outcomes.Outcome.{Outcome}
use Rattle.mig_search.specs.declared.outcomes.Outcome.TheVariants.{Found, Exhausted, Spent}
use Rattle.mig_search.specs.declared.outcomes.Tried.{Tried}
use Rattle.mig_search.specs.declared.outcomes.Tried.TheVariants.{NoOption, Wide}
use Rattle.mig_search.specs.Looking.{Looked, entries_of, AreFirstLooked, AreAllLooked, IsFoundNext}

-- ---- the entries of one correspondence

-- all entries of a plan in which there is no find
pub record AreAllOf (job : Job) (corr : Corr) (tests : ℕ) (plan : Plan) (entries : List Tried) : Type 0 where
  pub seen : List Looked
  pub looked : AreAllLooked job corr tests plan seen
  pub are : entries ≡ entries_of seen

-- the first entries of a plan
pub record AreFirstOf (job : Job) (corr : Corr) (tests : ℕ) (plan : Plan) (entries : List Tried) : Type 0 where
  pub seen : List Looked
  pub looked : AreFirstLooked job corr tests plan seen
  pub are : entries ≡ entries_of seen

-- the entries of a plan before the find
pub record AreBeforeFind (job : Job) (corr : Corr) (tests : ℕ) (plan : Plan) (program : Program) (certificate : Certificate) (entries : List Tried) : Type 0 where
  pub seen : List Looked
  pub looked : AreFirstLooked job corr tests plan seen
  pub found : IsFoundNext job corr tests plan seen program certificate
  pub are : entries ≡ entries_of seen

-- a first hole without an option, or with too many, is the one entry; else the plan gives them
abbrev pub AreAllMade : Job → Corr → (tests : ℕ) → Made → List Tried → Type 0
AreAllMade job corr tests (made.Plan plan) entries = AreAllOf job corr tests plan entries
AreAllMade job corr tests (made.Empty f) entries = entries ≡ NoOption f ∷ []
AreAllMade job corr tests (made.Wide f) entries = entries ≡ Wide f ∷ []

abbrev pub AreFirstMade : Job → Corr → (tests : ℕ) → Made → List Tried → Type 0
AreFirstMade job corr tests (made.Plan plan) entries = AreFirstOf job corr tests plan entries
AreFirstMade job corr tests (made.Empty f) entries = entries ≡ NoOption f ∷ []
AreFirstMade job corr tests (made.Wide f) entries = entries ≡ Wide f ∷ []

-- all entries of a correspondence in which there is no find
pub record AreAllEntries (job : Job) (corr : Corr) (tests : ℕ) (entries : List Tried) : Type 0 where
  pub made : Made
  pub is_made : IsMade job corr made
  pub all : AreAllMade job corr tests made entries

-- the first entries of a correspondence
pub record AreFirstEntries (job : Job) (corr : Corr) (tests : ℕ) (entries : List Tried) : Type 0 where
  pub made : Made
  pub is_made : IsMade job corr made
  pub first : AreFirstMade job corr tests made entries

-- the entries of a correspondence before the find
pub record AreEntriesBefore (job : Job) (corr : Corr) (tests : ℕ) (program : Program) (certificate : Certificate) (entries : List Tried) : Type 0 where
  pub plan : Plan
  pub is_made : IsMade job corr (made.Plan plan)
  pub found : AreBeforeFind job corr tests plan program certificate entries

-- ---- the entries of correspondences in their order

-- all entries of these, one correspondence after the other, in none of which there is a find
abbrev pub AreWhole : Job → (tests : ℕ) → List Corr → List Tried → Type 0
AreWhole job tests [] entries = entries ≡ []
AreWhole job tests (c ∷ cs) entries = (here more : List Tried) × AreAllEntries job c tests here × AreWhole job tests cs more × (entries ≡ here ++ more)

-- these are the first correspondences, and no more than are asked for
pub record AreTaken (job : Job) (maps : ℕ) (corrs : List Corr) : Type 0 where
  pub first : IsFront (IsCorr job) (RanksBefore job) corrs
  pub few : length corrs ≤ maps

-- these are as many as are asked for, or all that there are
abbrev pub AreEnough : Job → (maps : ℕ) → List Corr → Type 0
AreEnough job maps corrs = (length corrs ≡ maps) ⊎ IsListOf (IsCorr job) (RanksBefore job) corrs

-- the entries up to a place in the correspondence after these
pub record AreUpTo (job : Job) (options : Options) (Last : Corr → List Tried → Type 0) (tried : List Tried) : Type 0 where
  pub before : List Corr
  pub corr : Corr
  pub taken : AreTaken job options.maps (before ++ corr ∷ [])
  pub past : List Tried
  pub whole : AreWhole job options.tests before past
  pub last : List Tried
  pub ends : Last corr last
  pub are : tried ≡ past ++ last

-- the entries of all correspondences that are taken, and no find
pub record AreOfAll (job : Job) (options : Options) (tried : List Tried) : Type 0 where
  pub corrs : List Corr
  pub taken : AreTaken job options.maps corrs
  pub enough : AreEnough job options.maps corrs
  pub whole : AreWhole job options.tests corrs tried

-- ---- the outcome

-- `Spent` where the entries reach the budget, cut there; else `Found` with the find and the entries before it; else `Exhausted` with all entries
abbrev pub IsOutcome : Job → Options → Outcome → Type 0
IsOutcome job options (Spent tried) = (length tried ≡ options.budget) × ((tried ≡ []) ⊎ AreUpTo job options (λ corr last. AreFirstEntries job corr options.tests last) tried)
IsOutcome job options (Found program certificate tried) = (length tried < options.budget) × AreUpTo job options (λ corr last. AreEntriesBefore job corr options.tests program certificate last) tried
IsOutcome job options (Exhausted tried) = (length tried < options.budget) × AreOfAll job options tried
