-- What is asked of each rule, so that steps keep what expressions stand for.
use Rattle.std.specs.Prelude.{◌≡◌, ℕ, List, [], ◌∷◌, Some}
use Rattle.mig_schema.specs.declared.tables.Kind.{Kind}
use Rattle.mig_meaning.specs.declared.relating.Invariant.{Invariant}
use Rattle.mig_meaning.specs.Lists.{Each}
use Rattle.mig_algebra.specs.declared.literals.Lit.{Lit}
use Rattle.mig_algebra.specs.declared.terms.Term.{Term}
use Rattle.mig_algebra.specs.Proper.{Sides, IsProperTerm}
use Rattle.mig_replacing.specs.Replaced.{replaced, FitIn, SameAmong}
use Rattle.mig_obligations.specs.Settings.{Moment, setting_of, IsMoment}
use Rattle.mig_steps.specs.Spots.{Seen, spot_at}
use Rattle.mig_steps.specs.Ways.{TermRule, LitRule, TailRule, OnTerm, OnTerms}

-- what stands in place of a proper term and of the proper ones behind it is proper, with the same bag together wherever the facts hold
pub record IsSoundRule (p : Sides) (invs : List Invariant) (gives : OnTerms) : Type 0 where
  pub proper : (kinds : List Kind) (n : ℕ) (path args : List ℕ) (t : Term) (later us : List Term) → IsProperTerm p kinds t → Each (IsProperTerm p kinds) later → gives n path args t later ≡ Some us → Each (IsProperTerm p kinds) us
  pub bag : (m : Moment) → IsMoment p invs m → (kinds : List Kind) (n : ℕ) (path args : List ℕ) (t : Term) (later us : List Term) → IsProperTerm p kinds t → Each (IsProperTerm p kinds) later → gives n path args t later ≡ Some us → SameAmong (setting_of p m) (t ∷ later) us

-- the same of what stands in place of one term
pub record IsSoundAlone (p : Sides) (invs : List Invariant) (gives : OnTerm) : Type 0 where
  pub proper : (kinds : List Kind) (t : Term) (path args : List ℕ) (us : List Term) → IsProperTerm p kinds t → gives path args t ≡ Some us → Each (IsProperTerm p kinds) us
  pub bag : (m : Moment) → IsMoment p invs m → (kinds : List Kind) (t : Term) (path args : List ℕ) (us : List Term) → IsProperTerm p kinds t → gives path args t ≡ Some us → SameAmong (setting_of p m) (t ∷ []) us

-- of a rule on terms
pub record IsSoundOnTerms (p : Sides) (invs : List Invariant) (gives : TermRule) : Type 0 where
  pub proper : (kinds : List Kind) (t : Term) (args : List ℕ) (us : List Term) → IsProperTerm p kinds t → gives args t ≡ Some us → Each (IsProperTerm p kinds) us
  pub bag : (m : Moment) → IsMoment p invs m → (kinds : List Kind) (t : Term) (args : List ℕ) (us : List Term) → IsProperTerm p kinds t → gives args t ≡ Some us → SameAmong (setting_of p m) (t ∷ []) us

-- of a rule on literals: the alternatives fit where the literal stands, and may take its place
pub record IsSoundAtLiterals (p : Sides) (invs : List Invariant) (gives : LitRule) : Type 0 where
  pub fits : (kinds : List Kind) (t : Term) (path args : List ℕ) (s : Seen) (alts : List (List Lit)) → IsProperTerm p kinds t → spot_at t path ≡ Some s → gives args s ≡ Some alts → Each (FitIn p s.scope) alts
  pub bag : (m : Moment) → IsMoment p invs m → (kinds : List Kind) (t : Term) (path args : List ℕ) (s : Seen) (alts : List (List Lit)) → IsProperTerm p kinds t → spot_at t path ≡ Some s → gives args s ≡ Some alts → SameAmong (setting_of p m) (t ∷ []) (replaced t path alts)

-- of a rule on several terms
pub record IsSoundOnTails (p : Sides) (invs : List Invariant) (gives : TailRule) : Type 0 where
  pub proper : (kinds : List Kind) (n : ℕ) (args : List ℕ) (t : Term) (later us : List Term) → IsProperTerm p kinds t → Each (IsProperTerm p kinds) later → gives n args t later ≡ Some us → Each (IsProperTerm p kinds) us
  pub bag : (m : Moment) → IsMoment p invs m → (kinds : List Kind) (n : ℕ) (args : List ℕ) (t : Term) (later us : List Term) → IsProperTerm p kinds t → Each (IsProperTerm p kinds) later → gives n args t later ≡ Some us → SameAmong (setting_of p m) (t ∷ later) us
