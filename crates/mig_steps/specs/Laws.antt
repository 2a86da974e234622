-- What holds of rules put to work, and of keys at a moment of a call.
use Rattle.std.specs.Prelude.{◌≡◌, ℕ, true, List, ◌∷◌, Some, None}
use Rattle.mig_schema.specs.declared.tables.Kind.{Kind}
use Rattle.mig_meaning.specs.declared.relating.Invariant.{Invariant}
use Rattle.mig_algebra.specs.declared.literals.Lit.{Lit}
use Rattle.mig_algebra.specs.declared.terms.Term.{Term}
use Rattle.mig_algebra.specs.Proper.{Sides, IsProperTerm}
use Rattle.mig_classes.specs.Keys.{KeysAreFresh}
use Rattle.mig_listing.specs.Listing.{IsIn, Rises}
use Rattle.mig_listing.specs.Orders.{Before}
use Rattle.mig_replacing.specs.Given.{IsSound}
use Rattle.mig_obligations.specs.Settings.{Moment, setting_of, IsMoment}
use Rattle.mig_steps.specs.Bodies.{is_body}
use Rattle.mig_steps.specs.Offering.{Args, args_alone, OffersAlone, OffersAll}
use Rattle.mig_steps.specs.Paths.{own_path, lit_paths, body_paths, bare}
use Rattle.mig_steps.specs.Sound.{IsSoundRule, IsSoundAlone, IsSoundOnTerms, IsSoundAtLiterals, IsSoundOnTails}
use Rattle.mig_steps.specs.Spots.{Seen}
use Rattle.mig_steps.specs.Ways.{TermRule, LitRule, TailRule, OnTerm, on_term, at_literal, alone, on_terms}

-- at each moment of a call the keys are fresh, and so a proper term has all that the laws of replacement ask
pub record MomentLaw : Type 0 where
  pub keys : (p : Sides) (invs : List Invariant) (m : Moment) → IsMoment p invs m → KeysAreFresh (setting_of p m)
  pub sound : (p : Sides) (invs : List Invariant) (m : Moment) → IsMoment p invs m → (kinds : List Kind) (t : Term) → IsProperTerm p kinds t → IsSound (setting_of p m) t

-- a sound rule is sound where it is put to work
pub record WaysLaw : Type 0 where
  pub terms : (p : Sides) (invs : List Invariant) (gives : TermRule) → IsSoundOnTerms p invs gives → IsSoundAlone p invs (on_term gives)
  pub literals : (p : Sides) (invs : List Invariant) (gives : LitRule) → IsSoundAtLiterals p invs gives → IsSoundAlone p invs (at_literal gives)
  pub one : (p : Sides) (invs : List Invariant) (gives : OnTerm) → IsSoundAlone p invs gives → IsSoundRule p invs (alone gives)
  pub tails : (p : Sides) (invs : List Invariant) (gives : TailRule) → IsSoundOnTails p invs gives → IsSoundRule p invs (on_terms gives)

-- all is tried with which a rule gives something
pub record OfferLaw : Type 0 where
  pub terms : (gives : TermRule) (args : Term → List (List ℕ)) → ((t : Term) → Rises Before (args t)) → ((t : Term) (bs : List ℕ) (us : List Term) → gives bs t ≡ Some us → IsIn bs (args t)) → OffersAlone (on_term gives) own_path (λ path t. args t)
  pub literals : (gives : LitRule) → ((a : ℕ) (bs : List ℕ) (s : Seen) → gives (a ∷ bs) s ≡ None) → OffersAlone (at_literal gives) lit_paths bare
  pub bodies : (gives : LitRule) → ((a : ℕ) (bs : List ℕ) (s : Seen) → gives (a ∷ bs) s ≡ None) → ((bs : List ℕ) (s : Seen) (alts : List (List Lit)) → gives bs s ≡ Some alts → is_body s.lit ≡ true) → OffersAlone (at_literal gives) body_paths bare
  pub one : (gives : OnTerm) (paths : Term → List (List ℕ)) (args : Args) → OffersAlone gives paths args → OffersAll (alone gives) paths (args_alone args)
