-- What is simplified: the least step again and again.
use Rattle.std.specs.Prelude.{◌≡◌, ◌⊎◌, ◌≤◌, List, [], ◌∷◌, length, Some, None}
use Rattle.mig_meaning.specs.declared.relating.Invariant.{Invariant}
use Rattle.mig_algebra.specs.declared.terms.Expr.{Expr}
use Rattle.mig_algebra.specs.Proper.{Sides}
use Rattle.mig_obligations.specs.Fitting.{IsFit, KeepsBag}
use Rattle.mig_algebra.specs.Proper.{IsProper}
use Rattle.mig_steps.specs.declared.steps.Step.{Step}
use Rattle.mig_rules.specs.Follow.{follow}
use Rattle.mig_rules.specs.First.{IsFirst}
use Rattle.mig_prover.specs.declared.trails.Trail.{Trail}

-- these steps lead from e to the last expression, each the least that follows where it is taken
abbrev pub AreLeast : Sides → List Invariant → Expr → List Step → (last : Expr) → Type 0
AreLeast p invs e [] last = e ≡ last
AreLeast p invs e (s ∷ ss) last = (next : Expr) × IsFirst p invs e s × (follow p invs s e ≡ Some next) × AreLeast p invs next ss last

-- no step follows
abbrev pub IsStill : Sides → List Invariant → Expr → Type 0
IsStill p invs e = (s : Step) → follow p invs s e ≡ None

-- the least steps, up to where none follows or 4,000 are taken
pub record IsTrail (p : Sides) (invs : List Invariant) (e : Expr) (t : Trail) : Type 0 where
  pub steps : AreLeast p invs e t.steps t.end
  pub few : length t.steps ≤ 4000
  pub whole : (length t.steps ≡ 4000) ⊎ IsStill p invs t.end

-- the end of a proper expression is proper, and has its bag wherever the facts hold
pub record TrailLaw : Type 0 where
  pub proper : (p : Sides) (invs : List Invariant) → IsFit p invs → (e : Expr) (t : Trail) → IsProper p e → IsTrail p invs e t → IsProper p t.end
  pub bag : (p : Sides) (invs : List Invariant) → IsFit p invs → (e : Expr) (t : Trail) → IsProper p e → IsTrail p invs e t → KeepsBag p invs e t.end

-- an expression has one trail
abbrev pub OneTrail : Type 0
OneTrail = (p : Sides) (invs : List Invariant) (e : Expr) (t u : Trail) → IsTrail p invs e t → IsTrail p invs e u → t ≡ u
