-- Sound steps of both sides to ends that are one when tidied meet an obligation.
use Rattle.std.proofs.Common.{◌≡◌, List, [], ◌∷◌, refl, sym, ap, ◌∙◌, subst, Option, Some, None}
use Rattle.std.specs.Option.{option_and_then}
use Rattle.mig_meaning.specs.declared.relating.Invariant.{Invariant}
use Rattle.mig_meaning.specs.Lists.{Each}
use Rattle.mig_meaning.specs.Bags.{SameBag, times}
use Rattle.mig_algebra.specs.declared.terms.Expr.{Expr}
use Rattle.mig_algebra.specs.Meaning.{bag}
use Rattle.mig_algebra.specs.Proper.{Sides, IsProper}
use Rattle.mig_algebra.proofs.TidiedBag.{tidied-bag}
use Rattle.mig_obligations.specs.declared.proving.Obligation.{Obligation}
use Rattle.mig_obligations.specs.Settings.{Moment, setting_of, IsMoment}
use Rattle.mig_obligations.specs.Obligations.{AreProper, IsMet}
use Rattle.mig_obligations.specs.Replay.{replay, EndsMeet, AreSound}

some-is : {A : Type 0} (x y : A) → Some x ≡ Some y → x ≡ y
some-is x y e = cc

module _ {T : Type 0} (p : Sides) (invs : List Invariant) (follow : T → Expr → Option Expr) (sound : AreSound p invs follow) where
  -- sound steps in turn keep expressions proper
  pub replay-proper : (ts : List T) (a b : Expr) → IsProper p a → replay follow ts a ≡ Some b → IsProper p b
  replay-proper [] a b h e = subst (IsProper p) (some-is a b e) h
  replay-proper (t ∷ ts) a b h e = go (follow t a) refl (replay-proper ts) e
    where
      go : (o : Option Expr) → follow t a ≡ o → ((c d : Expr) → IsProper p c → replay follow ts c ≡ Some d → IsProper p d) → option_and_then (replay follow ts) o ≡ Some b → IsProper p b
      go None f ih g = absurd cc
      go (Some c) f ih g = ih c b (sound.proper t a c h f) g

  -- and keep the bag
  pub replay-keeps : (m : Moment) → IsMoment p invs m → (ts : List T) (a b : Expr) → IsProper p a → replay follow ts a ≡ Some b → SameBag (bag (setting_of p m) a) (bag (setting_of p m) b)
  replay-keeps m at [] a b h e = record { by = λ r. ap (λ x. times r (bag (setting_of p m) x)) (some-is a b e) }
  replay-keeps m at (t ∷ ts) a b h e = go (follow t a) refl (replay-keeps m at ts) e
    where
      go : (o : Option Expr) → follow t a ≡ o → ((c d : Expr) → IsProper p c → replay follow ts c ≡ Some d → SameBag (bag (setting_of p m) c) (bag (setting_of p m) d)) → option_and_then (replay follow ts) o ≡ Some b → SameBag (bag (setting_of p m) a) (bag (setting_of p m) b)
      go None f ih g = absurd cc
      go (Some c) f ih g = record { by = λ r. (sound.keeps t a c h f m at).by r ∙ (ih c b (sound.proper t a c h f) g).by r }

  -- ends that are one when tidied
  pub ends-met : (o : Obligation) → IsProper p o.source → IsProper p o.target → (ts us : List T) → EndsMeet follow o ts us → IsMet p invs o
  ends-met o h k ts us e = record {
    by = λ m at. record {
      by = λ r.
          (replay-keeps m at ts o.source e.source h e.old).by r ∙ sym ((tidied-bag (setting_of p m) e.source).by r)
          ∙ ap (λ x. times r (bag (setting_of p m) x)) e.one
          ∙ (tidied-bag (setting_of p m) e.target).by r ∙ sym ((replay-keeps m at us o.target e.target k e.new).by r);
    };
  }

  -- the same of each obligation of a pair
  pub all-ends-met : (os : List Obligation) → Each (AreProper p) os → Each (λ (o : Obligation). (ts us : List T) × EndsMeet follow o ts us) os → Each (IsMet p invs) os
  all-ends-met [] h e = tt
  all-ends-met (o ∷ os) h e = (ends-met o h.0.source h.0.target e.0.0 e.0.1 e.0.2, all-ends-met os h.1 e.1)
