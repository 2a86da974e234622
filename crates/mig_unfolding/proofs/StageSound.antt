-- The rule `stage`: the terms are proper, and have the term's bag wherever the facts hold; each variable that is unfolded is tried.
use Rattle.std.proofs.Common.{◌≡◌, ℕ, ◌+◌, ◌-◌, ◌<◌, true, false, not, List, [], ◌∷◌, length, Some, refl, ap, ◌∙◌, arith, inl}
use Rattle.std.specs.Prelude.{nat_lt, slice_get}
use Rattle.std.specs.Option.{option_and_then}
use Rattle.std.proofs.lemmas.Bool.{and_from, ne_eqb}
use Rattle.std.proofs.lemmas.Bool.Decides.{nat_tests}
use Rattle.mig_schema.specs.declared.tables.Kind.{Kind}
use Rattle.mig_meaning.specs.declared.relating.Invariant.{Invariant}
use Rattle.mig_meaning.specs.Lists.{Each}
use Rattle.mig_meaning.proofs.Within.{each-weaker}
use Rattle.mig_algebra.specs.declared.atoms.Var.{Var}
use Rattle.mig_algebra.specs.declared.terms.Term.{Term}
use Rattle.mig_algebra.specs.Proper.{Sides, IsProperTerm}
use Rattle.mig_algebra.proofs.Weights.{weight}
use Rattle.mig_listing.specs.Listing.{IsIn}
use Rattle.mig_listing.proofs.ChosenAll.{chosen-rises, chosen-has}
use Rattle.mig_replacing.specs.Replaced.{SameAmong}
use Rattle.mig_replacing.proofs.Replacing.{same-among}
use Rattle.mig_obligations.specs.Fitting.{IsFit}
use Rattle.mig_obligations.specs.Settings.{Moment, setting_of, IsMoment}
use Rattle.mig_steps.specs.Offering.{OffersAlone}
use Rattle.mig_steps.specs.Paths.{own_path}
use Rattle.mig_steps.specs.Sound.{IsSoundOnTerms}
use Rattle.mig_steps.specs.Ways.{on_term}
use Rattle.mig_steps.proofs.OfferedPaths.{own-with}
use Rattle.mig_steps.proofs.Options.{and-then, get-within}
use Rattle.mig_unfolding.specs.Stages.{last_statement, by_stage, stage, has_stage, may_unfold, stage_args}
use Rattle.mig_unfolding.specs.Unfolding.{unfolded}
use Rattle.mig_unfolding.proofs.ProperHosts.{IsProperHost}
use Rattle.mig_unfolding.proofs.TypedStatements.{last-get}
use Rattle.mig_unfolding.proofs.Unfolded.{staged-proper, staged-alike}

pub stage-sound : (p : Sides) (invs : List Invariant) → IsFit p invs → IsSoundOnTerms p invs (stage p)
stage-sound p invs fit = record { proper = proper; bag = bag }
  where
    proper : (kinds : List Kind) (t : Term) (args : List ℕ) (us : List Term) → IsProperTerm p kinds t → stage p args t ≡ Some us → Each (IsProperTerm p kinds) us
    proper kinds t [] us h g = cc
    proper kinds t (v ∷ []) us h g =
        each-weaker (IsProperHost p [] kinds) (IsProperTerm p kinds) (λ (x : Term) k. record { vars = k.vars; fits = k.fits; oriented = k.oriented; head = k.head }) us
        (staged-proper p invs fit [] kinds t v us (record { vars = h.vars; fits = h.fits; oriented = h.oriented; head = h.head }) g)
    proper kinds t (v ∷ (w ∷ args)) us h g = cc

    bag : (m : Moment) → IsMoment p invs m → (kinds : List Kind) (t : Term) (args : List ℕ) (us : List Term) → IsProperTerm p kinds t → stage p args t ≡ Some us → SameAmong (setting_of p m) (t ∷ []) us
    bag m at kinds t [] us h g = cc
    bag m at kinds t (v ∷ []) us h g = same-among (setting_of p m) (t ∷ []) us (λ w. (staged-alike p invs fit m at t [] v us h.vars g [] (inl refl)).by w ∙ one (weight (setting_of p m) w t))
      where
        one : (n : ℕ) → n ≡ n + 0
        one n = omega arith
    bag m at kinds t (v ∷ (w ∷ args)) us h g = cc

-- ---- what is tried

-- a variable that is unfolded has a stage after a statement
pub unfolds-later : (p : Sides) (sc : List Var) (i : ℕ) (t : Term) (us : List Term) → by_stage p sc i t ≡ Some us → (i < length t.vars) × (has_stage (slice_get t.vars i) ≡ true)
unfolds-later p sc i t us g =
    let a = and-then (λ (w : Var). option_and_then (λ s. unfolded s sc i w t) (last_statement p w)) (slice_get t.vars i) us g in
    let b = and-then (λ s. unfolded s sc i a.0 t) (last_statement p a.0) us a.2 in
    let l = last-get p a.0 b.0 b.1 in
    (get-within t.vars i a.0 a.1, ap has_stage a.1 ∙ ap not (ne_eqb a.0.stage 0 l.0))

-- each variable that is unfolded is tried
pub stage-offered : (p : Sides) → OffersAlone (on_term (stage p)) own_path (λ path t. stage_args t)
stage-offered p = own-with (stage p) stage_args (λ t. chosen-rises (may_unfold 0 t.vars) (length t.vars) 1 []) has
  where
    none : (v : ℕ) → nat_lt v 0 ≡ false
    none v = grind (arith, nat_tests)

    has : (t : Term) (bs : List ℕ) (us : List Term) → stage p bs t ≡ Some us → IsIn bs (stage_args t)
    has t [] us g = cc
    has t (v ∷ []) us g =
        let k = unfolds-later p [] v t us g in
        let z : v - 0 ≡ v = omega arith in
        chosen-has (may_unfold 0 t.vars) (length t.vars) 1 [] (v ∷ []) refl
        (k.0, and_from (not (nat_lt v 0)) (has_stage (slice_get t.vars (v - 0))) (ap not (none v)) (ap (λ i. has_stage (slice_get t.vars i)) z ∙ k.1), tt)
    has t (v ∷ (w ∷ args)) us g = cc
