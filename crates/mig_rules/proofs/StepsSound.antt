-- The law of steps says that they are sound.
use Rattle.std.proofs.Common.{List}
use Rattle.mig_meaning.specs.declared.relating.Invariant.{Invariant}
use Rattle.mig_algebra.specs.Proper.{Sides}
use Rattle.mig_obligations.specs.Fitting.{IsFit}
use Rattle.mig_obligations.specs.Replay.{AreSound}
use Rattle.mig_rules.specs.Follow.{follow}
use Rattle.mig_rules.specs.Keeping.{FollowLaw}

pub steps-sound : FollowLaw → (p : Sides) (invs : List Invariant) → IsFit p invs → AreSound p invs (follow p invs)
steps-sound law p invs fit = record {
  proper = λ t a b h e. law.proper p invs fit t a b h e;
  keeps = λ t a b h e m at. (law.bag p invs fit t a b h e).by m at;
}
