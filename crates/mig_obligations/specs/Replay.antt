-- Steps in turn, and steps of both sides that lead to one end.
use Rattle.std.specs.Prelude.{List, [], ◌∷◌, Option, Some, ◌≡◌}
use Rattle.std.specs.Option.{option_and_then}
use Rattle.mig_meaning.specs.declared.relating.Invariant.{Invariant}
use Rattle.mig_meaning.specs.Bags.{SameBag}
use Rattle.mig_algebra.specs.declared.terms.Expr.{Expr}
use Rattle.mig_algebra.specs.Meaning.{bag}
use Rattle.mig_algebra.specs.Proper.{Sides, IsProper}
use Rattle.mig_algebra.specs.Tidied.{tidied}
use Rattle.mig_obligations.specs.declared.proving.Obligation.{Obligation}
use Rattle.mig_obligations.specs.Settings.{Moment, setting_of, IsMoment}

-- what these steps come to from e, each from what the one before gave; nothing, where one gives nothing
abbrev pub replay : {T E : Type 0} → (T → E → Option E) → List T → E → Option E
replay follow [] e = Some e
replay follow (t ∷ ts) e = option_and_then (replay follow ts) (follow t e)

-- the steps ts from an obligation's old expression and us from its new one come to ends that are one when tidied
pub record EndsMeet {T : Type 0} (follow : T → Expr → Option Expr) (o : Obligation) (ts us : List T) : Type 0 where
  pub source : Expr
  pub target : Expr
  pub old : replay follow ts o.source ≡ Some source
  pub new : replay follow us o.target ≡ Some target
  pub one : tidied source ≡ tidied target

-- what is asked of steps: each leads from a proper expression to a proper one of the same bag, wherever the facts hold
pub record AreSound {T : Type 0} (p : Sides) (invs : List Invariant) (follow : T → Expr → Option Expr) : Type 0 where
  pub proper : (t : T) (a b : Expr) → IsProper p a → follow t a ≡ Some b → IsProper p b
  pub keeps : (t : T) (a b : Expr) → IsProper p a → follow t a ≡ Some b → (m : Moment) → IsMoment p invs m → SameBag (bag (setting_of p m) a) (bag (setting_of p m) b)
