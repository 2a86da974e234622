-- The plan of a job under a correspondence.
use Rattle.std.specs.Prelude.{◌≡◌, ℕ, ◌+◌, ◌<◌, ◌≤◌, List, [], ◌∷◌, ◌++◌, map, length}
use Rattle.mig_base.specs.Lists.{numbered}
use Rattle.mig_schema.specs.declared.jobs.Job.{Job}
use Rattle.mig_schema.specs.declared.programs.Body.{Body}
use Rattle.mig_schema.specs.declared.programs.Body.TheVariants as body
use Rattle.mig_schema.specs.declared.programs.Function.{Function}
use Rattle.mig_invariant.specs.declared.corresp.Corr.{Corr}
use Rattle.mig_sketch.specs.declared.plans.Hole.{Hole}
use Rattle.mig_sketch.specs.declared.plans.Made.{Made}
use Rattle.mig_sketch.specs.declared.plans.Made.TheVariants as made
use Rattle.mig_sketch.specs.declared.plans.Part.{Part}
use Rattle.mig_sketch.specs.declared.plans.Part.TheVariants as part
use Rattle.mig_sketch.specs.Labels.{free_labels}
use Rattle.mig_sketch.specs.Options.{AreOptions}

-- ---- the places of a program

-- a statement or query with its number there, the number of its function, and the labels that the function does not use
pub record Place : Type 0 where
  pub function : ℕ
  pub free : List ℕ
  pub statement : ℕ
  pub old : Part

-- the parts of a body, in order
abbrev pub parts_of : Body → List Part
parts_of (body.Update stmts) = map (λ s. part.Stmt s) stmts
parts_of (body.Query q) = part.Query q ∷ []

-- the place of a part
abbrev pub place_at : ℕ → (free : List ℕ) → ℕ → Part → Place
place_at f free s p = record { function = f; free = free; statement = s; old = p }

-- the places of a function
abbrev pub places_in : ℕ → Body → List Place
places_in f b = numbered (place_at f (free_labels b)) 0 (parts_of b)

-- the places of these functions, from number f on
abbrev pub places_from : ℕ → List Function → List Place
places_from f [] = []
places_from f (x ∷ xs) = places_in f x.body ++ places_from (f + 1) xs

-- ---- holes

abbrev pub OptionsAt : Job → Corr → Place → List Part → Type 0
OptionsAt job corr at options = AreOptions job corr at.free at.statement at.old options

-- there are some, and not more than 4,096
abbrev pub IsRoomy : List Part → Type 0
IsRoomy options = (0 < length options) × (length options ≤ 4096)

-- the hole of a place, which has some options and not too many
pub record IsHole (job : Job) (corr : Corr) (at : Place) (h : Hole) : Type 0 where
  pub function : h.function ≡ at.function
  pub statement : h.statement ≡ at.statement
  pub options : OptionsAt job corr at h.options
  pub roomy : IsRoomy h.options

-- the holes of these places, one by one
abbrev pub AreHoles : Job → Corr → List Place → List Hole → Type 0
AreHoles job corr [] [] = Unit {0}
AreHoles job corr [] (h ∷ hs) = ⊥
AreHoles job corr (p ∷ ps) [] = ⊥
AreHoles job corr (p ∷ ps) (h ∷ hs) = IsHole job corr p h × AreHoles job corr ps hs

-- at the first of these places that has no hole the options are so, and its function is this one
pub record IsFirstBad (job : Job) (corr : Corr) (places : List Place) (Bad : List Part → Type 0) (f : ℕ) : Type 0 where
  pub before : List Place
  pub holes : List Hole
  pub at : Place
  pub after : List Place
  pub options : List Part
  pub are : places ≡ before ++ at ∷ after
  pub good : AreHoles job corr before holes
  pub here : OptionsAt job corr at options
  pub bad : Bad options
  pub function : at.function ≡ f

-- what ends a sketch among these places
abbrev pub IsEnd : Job → Corr → List Place → Made → Type 0
IsEnd job corr places (made.Plan plan) = ⊥
IsEnd job corr places (made.Empty f) = IsFirstBad job corr places (λ options. options ≡ []) f
IsEnd job corr places (made.Wide f) = IsFirstBad job corr places (λ options. 4096 < length options) f

-- the holes of all places of the program; or the function of the first place whose options are none, or more than 4,096
abbrev pub IsMade : Job → Corr → Made → Type 0
IsMade job corr (made.Plan plan) = (plan.functions ≡ job.program.functions) × AreHoles job corr (places_from 0 job.program.functions) plan.holes
IsMade job corr (made.Empty f) = IsEnd job corr (places_from 0 job.program.functions) (made.Empty f)
IsMade job corr (made.Wide f) = IsEnd job corr (places_from 0 job.program.functions) (made.Wide f)
