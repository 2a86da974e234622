-- What is made of some places after others.
use Rattle.std.specs.Prelude.{◌≡◌, ℕ, ◌<◌, List, [], ◌++◌, length, Option, Some, None}
use Rattle.mig_schema.specs.declared.jobs.Job.{Job}
use Rattle.mig_invariant.specs.declared.corresp.Corr.{Corr}
use Rattle.mig_sketch.specs.declared.plans.Hole.{Hole}
use Rattle.mig_sketch.specs.declared.plans.Made.{Made}
use Rattle.mig_sketch.specs.declared.plans.Made.TheVariants as made
use Rattle.mig_sketch.specs.declared.plans.Part.{Part}
use Rattle.mig_sketch.specs.Made.{Place, AreHoles, IsRoomy, IsEnd}

-- whether these options of a hole of function f end the sketch
abbrev pub IsJudged : ℕ → List Part → Option Made → Type 0
IsJudged f options None = IsRoomy options
IsJudged f options (Some (made.Plan plan)) = ⊥
IsJudged f options (Some (made.Empty g)) = (g ≡ f) × (options ≡ [])
IsJudged f options (Some (made.Wide g)) = (g ≡ f) × (4096 < length options)

-- holes of all these places were added; or a place ended the sketch
abbrev pub Goes : Job → Corr → List Place → (old new : List Hole) → Option Made → Type 0
Goes job corr places old new None = (here : List Hole) × AreHoles job corr places here × (new ≡ old ++ here)
Goes job corr places old new (Some m) = IsEnd job corr places m
