-- A literal that is given, or repeats an earlier one, may go.
use Rattle.std.proofs.Common.{◌≡◌, ℕ, true, List, [], ◌∷◌, Some, refl, sym, subst, ap, ◌∙◌}
use Rattle.std.specs.Ordering.{is_eq}
use Rattle.std.proofs.lemmas.Option.{same_Some}
use Rattle.mig_schema.specs.declared.tables.Kind.{Kind}
use Rattle.mig_meaning.specs.declared.relating.Invariant.{Invariant}
use Rattle.mig_meaning.specs.Lists.{Each, In}
use Rattle.mig_algebra.specs.declared.literals.Lit.{Lit, Cmp, Other, Any'}
use Rattle.mig_algebra.specs.declared.terms.Term.{Term}
use Rattle.mig_algebra.specs.Meaning.{Setting}
use Rattle.mig_algebra.specs.Orders.{lit_order}
use Rattle.mig_algebra.specs.Proper.{Sides, IsProperTerm}
use Rattle.mig_algebra.proofs.Members.{any-in}
use Rattle.mig_classes.specs.Given.{is_given}
use Rattle.mig_replacing.specs.Places.{Place, place_at}
use Rattle.mig_replacing.specs.Given.{plain_around, IsSound}
use Rattle.mig_replacing.specs.Replaced.{replaced, SameAmong, FitIn}
use Rattle.mig_replacing.proofs.Going.{given-goes, repeated-goes}
use Rattle.mig_obligations.specs.Settings.{Moment, setting_of, IsMoment}
use Rattle.mig_literals.specs.Implied.{is_one_of, goes, implied}
use Rattle.mig_steps.specs.Spots.{Seen, spot_at}
use Rattle.mig_steps.specs.Sound.{IsSoundAtLiterals}
use Rattle.mig_steps.proofs.Moments.{sound-at}
use Rattle.mig_steps.proofs.Options.{cond-then}
use Rattle.mig_steps.proofs.SpotPlaces.{IsPlaceOf, place-of}
use Rattle.mig_literals.proofs.Ties.{same-lits}

one-in : (ls : List Lit) (l : Lit) → is_one_of ls l ≡ true → In l ls
one-in ls l h =
    let k = any-in (λ m. is_eq (lit_order l m)) ls h in
    subst (λ m. In m ls) (sym (same-lits l k.0 k.2)) k.1

-- a literal that goes may go
module _ (s : Setting) (t : Term) (path : List ℕ) (spot : Seen) (place : Place) (sound : IsSound s t) (is : place_at t path ≡ Some place) (of : IsPlaceOf spot place) where
  abbrev Gone : Type 0
  Gone = SameAmong s (t ∷ []) (replaced t path ([] ∷ []))

  again : (l : Lit) → spot.lit ≡ l → is_one_of spot.earlier l ≡ true → Gone
  again l e h = repeated-goes s t path place is (of.earlier place.lit (subst (λ m. In m spot.earlier) (sym (of.lit ∙ e)) (one-in spot.earlier l h)))

  may-go : (l : Lit) → spot.lit ≡ l → goes spot l ≡ true → Gone
  may-go (Cmp op a b) e h =
      given-goes s t path place sound is
      (ap (is_given place.scope (plain_around place)) (of.lit ∙ e) ∙ ap (λ vs. is_given vs (plain_around place) (Cmp op a b)) of.scope ∙ ap (λ ls. is_given spot.scope ls (Cmp op a b)) of.around ∙ h)
  may-go (Other a b) e h = again (Other a b) e h
  may-go (Any' held vars n row) e h = again (Any' held vars n row) e h

pub implied-sound : (p : Sides) (invs : List Invariant) → IsSoundAtLiterals p invs implied
implied-sound p invs = record {
  fits = λ kinds t path args s alts h is g. fits args s alts g;
  bag = λ m at kinds t path args s alts h is g. bag m at kinds t path args s alts h is g;
}
  where
    fits : (args : List ℕ) (s : Seen) (alts : List (List Lit)) → implied args s ≡ Some alts → Each (FitIn p s.scope) alts
    fits [] s alts g = subst (Each (FitIn p s.scope)) (same_Some ([] ∷ []) alts (cond-then (goes s s.lit) (Some ([] ∷ [])) alts g).1) (record { fits = refl; oriented = refl }, tt)
    fits (a ∷ args) s alts g = cc

    bag : (m : Moment) → IsMoment p invs m → (kinds : List Kind) (t : Term) (path args : List ℕ) (s : Seen) (alts : List (List Lit)) → IsProperTerm p kinds t → spot_at t path ≡ Some s → implied args s ≡ Some alts → SameAmong (setting_of p m) (t ∷ []) (replaced t path alts)
    bag m at kinds t path [] s alts h is g =
        let k = cond-then (goes s s.lit) (Some ([] ∷ [])) alts g in
        let there = place-of t path s is in
        subst (λ a. SameAmong (setting_of p m) (t ∷ []) (replaced t path a)) (same_Some ([] ∷ []) alts k.1)
        (may-go (setting_of p m) t path s there.0 (sound-at p invs m at kinds t h) there.1 there.2 s.lit refl k.0)
    bag m at kinds t path (a ∷ args) s alts h is g = cc
