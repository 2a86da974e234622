-- Steps that keep the bag.
use Rattle.std.specs.Prelude.{◌≡◌, List, Some}
use Rattle.mig_meaning.specs.declared.relating.Invariant.{Invariant}
use Rattle.mig_algebra.specs.declared.terms.Expr.{Expr}
use Rattle.mig_algebra.specs.Proper.{Sides, IsProper}
use Rattle.mig_obligations.specs.Fitting.{IsFit, KeepsBag}
use Rattle.mig_steps.specs.declared.steps.Step.{Step}
use Rattle.mig_rules.specs.Follow.{follow}

-- a step that follows from a proper expression leads to a proper one with equal bags wherever the facts hold
pub record FollowLaw : Type 0 where
  pub proper : (p : Sides) (invs : List Invariant) → IsFit p invs → (s : Step) (e e' : Expr) → IsProper p e → follow p invs s e ≡ Some e' → IsProper p e'
  pub bag : (p : Sides) (invs : List Invariant) → IsFit p invs → (s : Step) (e e' : Expr) → IsProper p e → follow p invs s e ≡ Some e' → KeepsBag p invs e e'
