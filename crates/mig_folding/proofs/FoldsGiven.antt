-- What the rule for terms asks where it gives something.
use Rattle.std.proofs.Common.{◌≡◌, ℕ, List, [], ◌∷◌, Some, refl}
use Rattle.std.specs.Prelude.{slice_get}
use Rattle.mig_meaning.specs.declared.relating.Invariant.{Invariant}
use Rattle.mig_meaning.specs.declared.relating.Invariant.TheVariants.{Views, Unique, Apart, Within}
use Rattle.mig_meaning.specs.declared.relating.View.{View}
use Rattle.mig_algebra.specs.declared.terms.Term.{Term}
use Rattle.mig_steps.proofs.Options.{and-then, map-some}
use Rattle.mig_folding.specs.Folding.{fold_of}
use Rattle.mig_folding.specs.Folds.{by_fold, fold}

-- what the rule asks, and what it gives
pub record FoldsBy (invs : List Invariant) (args : List ℕ) (t : Term) (us : List Term) : Type 0 where
  pub k : ℕ
  pub named : List ℕ
  pub source : View
  pub target : View
  pub term : Term
  pub args-are : args ≡ k ∷ named
  pub there : slice_get invs k ≡ Some (Views source target)
  pub folds : fold_of source target named t ≡ Some term
  pub made : term ∷ [] ≡ us

pub folds-by : (invs : List Invariant) (args : List ℕ) (t : Term) (us : List Term) → fold invs args t ≡ Some us → FoldsBy invs args t us
folds-by invs [] t us g = cc
folds-by invs (k ∷ xs) t us g = let a = and-then (by_fold xs t) (slice_get invs k) us g in at-view a.0 a.1 a.2
  where
    at-view : (i : Invariant) → slice_get invs k ≡ Some i → by_fold xs t i ≡ Some us → FoldsBy invs (k ∷ xs) t us
    at-view (Views source target) there h =
        let b = map-some (λ (u : Term). u ∷ []) (fold_of source target xs t) us h in
        record { k = k; named = xs; source = source; target = target; term = b.0; args-are = refl; there = there; folds = b.1; made = b.2 }
    at-view (Unique side c) there h = cc
    at-view (Apart side c d) there h = cc
    at-view (Within side c d) there h = cc
