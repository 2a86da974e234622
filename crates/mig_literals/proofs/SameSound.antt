-- A term whose classes are written once may take its place.
use Rattle.std.proofs.Common.{◌≡◌, ℕ, not, List, [], ◌∷◌, Some, subst}
use Rattle.std.specs.Ordering.{is_eq}
use Rattle.std.proofs.lemmas.Option.{same_Some}
use Rattle.mig_schema.specs.declared.tables.Kind.{Kind}
use Rattle.mig_meaning.specs.declared.relating.Invariant.{Invariant}
use Rattle.mig_meaning.specs.Lists.{Each}
use Rattle.mig_algebra.specs.declared.terms.Term.{Term}
use Rattle.mig_algebra.specs.Orders.{term_order}
use Rattle.mig_algebra.specs.Proper.{Sides, IsProperTerm}
use Rattle.mig_replacing.specs.Replaced.{SameAmong}
use Rattle.mig_obligations.specs.Settings.{Moment, setting_of, IsMoment}
use Rattle.mig_steps.specs.Sound.{IsSoundOnTerms}
use Rattle.mig_steps.proofs.Moments.{sound-at}
use Rattle.mig_steps.proofs.Options.{cond-then}
use Rattle.mig_literals.specs.Same.{term_same, by_same, same}
use Rattle.mig_literals.proofs.SameKeeps.{same-keeps}
use Rattle.mig_literals.proofs.SameProper.{same-proper}

pub same-sound : (p : Sides) (invs : List Invariant) → IsSoundOnTerms p invs same
same-sound p invs = record { proper = proper; bag = bag }
  where
    made : (t : Term) (us : List Term) → by_same t ≡ Some us → term_same t ∷ [] ≡ us
    made t us g = same_Some (term_same t ∷ []) us (cond-then (not (is_eq (term_order t (term_same t)))) (Some (term_same t ∷ [])) us g).1

    proper : (kinds : List Kind) (t : Term) (args : List ℕ) (us : List Term) → IsProperTerm p kinds t → same args t ≡ Some us → Each (IsProperTerm p kinds) us
    proper kinds t [] us h g = subst (Each (IsProperTerm p kinds)) (made t us g) (same-proper p kinds t h, tt)
    proper kinds t (a ∷ args) us h g = cc

    bag : (m : Moment) → IsMoment p invs m → (kinds : List Kind) (t : Term) (args : List ℕ) (us : List Term) → IsProperTerm p kinds t → same args t ≡ Some us → SameAmong (setting_of p m) (t ∷ []) us
    bag m at kinds t [] us h g = subst (SameAmong (setting_of p m) (t ∷ [])) (made t us g) (same-keeps (setting_of p m) t (sound-at p invs m at kinds t h))
    bag m at kinds t (a ∷ args) us h g = cc
