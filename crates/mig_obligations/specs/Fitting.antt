-- Pairs of functions of which steps and obligations speak, and expressions with one bag.
use Rattle.std.specs.Prelude.{◌≡◌, true, List}
use Rattle.std.specs.List.{list_all}
use Rattle.mig_schema.specs.Typed.{IsTypedFunction}
use Rattle.mig_meaning.specs.declared.relating.Invariant.{Invariant}
use Rattle.mig_meaning.specs.Bags.{SameBag}
use Rattle.mig_meaning.specs.Lists.{Each}
use Rattle.mig_meaning.specs.States.{labels_fit}
use Rattle.mig_meaning.specs.Functions.{SameFunction}
use Rattle.mig_algebra.specs.declared.terms.Expr.{Expr}
use Rattle.mig_algebra.specs.Meaning.{bag}
use Rattle.mig_algebra.specs.Proper.{Sides}
use Rattle.mig_obligations.specs.Obligations.{obligations, AreProper}
use Rattle.mig_obligations.specs.Settings.{Moment, setting_of, IsMoment}
use Rattle.mig_obligations.specs.Shaped.{is_shaped}

-- a pair of typed functions that are the same, with labels up to 15, and invariants that are shaped
pub record IsFit (p : Sides) (invs : List Invariant) : Type 0 where
  pub source : IsTypedFunction p.source p.source_fn
  pub target : IsTypedFunction p.target p.target_fn
  pub source_labels : labels_fit p.source_fn ≡ true
  pub target_labels : labels_fit p.target_fn ≡ true
  pub same : SameFunction p.source p.target p.source_fn p.target_fn
  pub shaped : list_all (is_shaped p.source p.target) invs ≡ true

-- two expressions have equal bags wherever the facts hold
pub record KeepsBag (p : Sides) (invs : List Invariant) (e e' : Expr) : Type 0 where
  pub by : (m : Moment) → IsMoment p invs m → SameBag (bag (setting_of p m) e) (bag (setting_of p m) e')

-- the obligations of a fit pair have proper expressions
pub record ProperLaw : Type 0 where
  pub by : (p : Sides) (invs : List Invariant) → IsFit p invs → Each (AreProper p) (obligations invs p.source_fn.body p.target_fn.body)
