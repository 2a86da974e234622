-- Variables of a term folded by a view: the term is proper, and has its bag wherever the facts hold; what is tried for the rule has all that it allows.
use Rattle.std.proofs.Common.{◌≡◌, ℕ, zero, suc, List, [], ◌∷◌, Some, refl, subst}
use Rattle.std.specs.Prelude.{slice_get}
use Rattle.mig_schema.specs.declared.faults.Side.TheVariants.{Old, New}
use Rattle.mig_schema.specs.declared.tables.Kind.{Kind}
use Rattle.mig_meaning.specs.declared.relating.Invariant.{Invariant}
use Rattle.mig_meaning.specs.declared.relating.Invariant.TheVariants.{Views}
use Rattle.mig_meaning.specs.declared.relating.View.{View}
use Rattle.mig_meaning.specs.Bags.{SameBag}
use Rattle.mig_meaning.specs.Holds.{outputs, Holds, AllHold}
use Rattle.mig_meaning.specs.Lists.{Each}
use Rattle.mig_meaning.specs.Renaming.{same}
use Rattle.mig_meaning.proofs.Renamings.{rows-same}
use Rattle.mig_algebra.specs.declared.terms.Term.{Term}
use Rattle.mig_algebra.specs.Proper.{Sides, IsProperTerm}
use Rattle.mig_algebra.specs.Shown.{Shows}
use Rattle.mig_obligations.specs.Fitting.{IsFit}
use Rattle.mig_obligations.specs.Shaped.{is_shaped}
use Rattle.mig_obligations.specs.Settings.{Moment, setting_of, IsMoment}
use Rattle.mig_replacing.specs.Replaced.{SameAmong}
use Rattle.mig_steps.specs.Sound.{IsSoundOnTerms}
use Rattle.mig_steps.proofs.Options.{all-get}
use Rattle.mig_folding.specs.Folds.{fold}
use Rattle.mig_folding.proofs.FoldsGiven.{folds-by}
pub use Rattle.mig_folding.proofs.FoldOffered.{fold-offered}
use Rattle.mig_folding.proofs.FoldHosts.{fold-same}
use Rattle.mig_folding.proofs.FoldProper.{may-fold, term-proper}

-- ---- a view at a moment

holds-at : (m : Moment) (is : List Invariant) (k : ℕ) (i : Invariant) → AllHold same m.old m.new is → slice_get is k ≡ Some i → Holds same m.old m.new i
holds-at m [] k i a h = cc
holds-at m (j ∷ js) zero i a h = let e : j ≡ i = cc in subst (Holds same m.old m.new) e a.0
holds-at m (j ∷ js) (suc k) i a h = holds-at m js k i a.1 h

-- the outputs of both sides are equal bags
pub view-holds : (p : Sides) (invs : List Invariant) (m : Moment) → IsMoment p invs m → (k : ℕ) (source target : View) → slice_get invs k ≡ Some (Views source target) → SameBag (outputs source m.old) (outputs target m.new)
view-holds p invs m at k source target there = subst (λ rs. SameBag rs (outputs target m.new)) (rows-same (outputs source m.old)) (holds-at m invs k (Views source target) at.facts.hold there)

pub old-shown : (p : Sides) (m : Moment) → Shows (setting_of p m) Old 0 m.old
old-shown p m = record { by = λ u. refl }

pub new-shown : (p : Sides) (m : Moment) → Shows (setting_of p m) New 0 m.new
new-shown p m = record { by = λ u. refl }

-- ---- the rule

pub fold-sound : (p : Sides) (invs : List Invariant) → IsFit p invs → IsSoundOnTerms p invs (fold invs)
fold-sound p invs fit = record { proper = proper; bag = bag }
  where
    proper : (kinds : List Kind) (t : Term) (args : List ℕ) (us : List Term) → IsProperTerm p kinds t → fold invs args t ≡ Some us → Each (IsProperTerm p kinds) us
    proper kinds t args us h g =
        let b = folds-by invs args t us g in
        let shaped = all-get (is_shaped p.source p.target) invs b.k (Views b.source b.target) fit.shaped b.there in
        subst (Each (IsProperTerm p kinds)) b.made (term-proper p kinds b.source b.target b.named t b.term shaped h b.folds, tt)

    bag : (m : Moment) → IsMoment p invs m → (kinds : List Kind) (t : Term) (args : List ℕ) (us : List Term) → IsProperTerm p kinds t → fold invs args t ≡ Some us → SameAmong (setting_of p m) (t ∷ []) us
    bag m at kinds t args us h g =
        let b = folds-by invs args t us g in
        let shaped = all-get (is_shaped p.source p.target) invs b.k (Views b.source b.target) fit.shaped b.there in
        subst (SameAmong (setting_of p m) (t ∷ [])) b.made
        (fold-same (setting_of p m) m.old m.new b.source b.target b.named (old-shown p m) (new-shown p m) (view-holds p invs m at b.k b.source b.target b.there) (may-fold p.source p.target b.source b.target shaped) t b.term b.folds)
