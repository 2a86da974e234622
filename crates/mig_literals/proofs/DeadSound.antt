-- A contradictory term has no rows.
use Rattle.std.proofs.Common.{◌≡◌, ℕ, List, [], ◌∷◌, Some, subst}
use Rattle.std.proofs.lemmas.Option.{same_Some}
use Rattle.mig_meaning.specs.declared.relating.Invariant.{Invariant}
use Rattle.mig_meaning.specs.Lists.{Each}
use Rattle.mig_algebra.specs.declared.terms.Term.{Term}
use Rattle.mig_algebra.specs.Proper.{Sides, IsProperTerm}
use Rattle.mig_classes.specs.Given.{contradictory}
use Rattle.mig_replacing.specs.Given.{plain}
use Rattle.mig_replacing.specs.Replaced.{SameAmong}
use Rattle.mig_replacing.proofs.Never.{never-term}
use Rattle.mig_schema.specs.declared.tables.Kind.{Kind}
use Rattle.mig_obligations.specs.Settings.{Moment, setting_of, IsMoment}
use Rattle.mig_literals.specs.Dead.{dead}
use Rattle.mig_steps.specs.Sound.{IsSoundOnTerms}
use Rattle.mig_steps.proofs.Moments.{sound-at}
use Rattle.mig_steps.proofs.Options.{cond-then}

pub dead-sound : (p : Sides) (invs : List Invariant) → IsSoundOnTerms p invs dead
dead-sound p invs = record {
  proper = λ kinds t args us h g. proper kinds t args us g;
  bag = λ m at kinds t args us h g. bag m at kinds t args us h g;
}
  where
    proper : (kinds : List Kind) (t : Term) (args : List ℕ) (us : List Term) → dead args t ≡ Some us → Each (IsProperTerm p kinds) us
    proper kinds t [] us g = let k = cond-then (contradictory t.vars (plain t.lits)) (Some []) us g in subst (Each (IsProperTerm p kinds)) (same_Some [] us k.1) tt
    proper kinds t (a ∷ args) us g = cc

    bag : (m : Moment) → IsMoment p invs m → (kinds : List Kind) (t : Term) (args : List ℕ) (us : List Term) → IsProperTerm p kinds t → dead args t ≡ Some us → SameAmong (setting_of p m) (t ∷ []) us
    bag m at kinds t [] us h g =
        let k = cond-then (contradictory t.vars (plain t.lits)) (Some []) us g in
        subst (SameAmong (setting_of p m) (t ∷ [])) (same_Some [] us k.1) (never-term (setting_of p m) t (sound-at p invs m at kinds t h) k.0)
    bag m at kinds t (a ∷ args) us h g = cc
