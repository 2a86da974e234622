-- A rule on terms, and a rule on literals, is sound as a rule of the table.
use Rattle.std.proofs.Common.{◌≡◌, ℕ, List, [], ◌∷◌, ◌++◌, Some, sym, subst, append_assoc}
use Rattle.std.specs.Option.{option_and_then}
use Rattle.mig_meaning.specs.declared.relating.Invariant.{Invariant}
use Rattle.mig_meaning.specs.Bags.{SameBag}
use Rattle.mig_meaning.specs.Lists.{Each}
use Rattle.mig_meaning.proofs.Within.{each-append}
use Rattle.mig_algebra.specs.declared.terms.Term.{Term}
use Rattle.mig_algebra.specs.Meaning.{Setting, terms_bag}
use Rattle.mig_algebra.specs.Proper.{Sides, IsProperTerm}
use Rattle.mig_replacing.specs.Replaced.{replaced, SameAmong, FitIn}
use Rattle.mig_replacing.proofs.Fitting.{replaced-proper}
use Rattle.mig_obligations.specs.Settings.{Moment, setting_of, IsMoment}
use Rattle.mig_schema.specs.declared.tables.Kind.{Kind}
use Rattle.mig_steps.specs.Ways.{TermRule, LitRule, TailRule, OnTerm, on_term, at_literal, alone, on_terms, nothing}
use Rattle.mig_steps.specs.Spots.{spot_at}
use Rattle.mig_steps.specs.Sound.{IsSoundRule, IsSoundAlone, IsSoundOnTerms, IsSoundAtLiterals, IsSoundOnTails}
use Rattle.mig_steps.proofs.Options.{and-then, map-some}
use Rattle.mig_steps.proofs.SpotPlaces.{place-of}

module _ (p : Sides) (invs : List Invariant) where
  pub nothing-sound : IsSoundAlone p invs nothing
  nothing-sound = record { proper = λ kinds t path args us h g. cc; bag = λ m at kinds t path args us h g. cc }

  pub on_term-sound : (gives : TermRule) → IsSoundOnTerms p invs gives → IsSoundAlone p invs (on_term gives)
  on_term-sound gives sound = record { proper = proper; bag = bag }
    where
      proper : (kinds : List Kind) (t : Term) (path args : List ℕ) (us : List Term) → IsProperTerm p kinds t → on_term gives path args t ≡ Some us → Each (IsProperTerm p kinds) us
      proper kinds t [] args us h g = sound.proper kinds t args us h g
      proper kinds t (j ∷ path) args us h g = cc

      bag : (m : Moment) → IsMoment p invs m → (kinds : List Kind) (t : Term) (path args : List ℕ) (us : List Term) → IsProperTerm p kinds t → on_term gives path args t ≡ Some us → SameAmong (setting_of p m) (t ∷ []) us
      bag m at kinds t [] args us h g = sound.bag m at kinds t args us h g
      bag m at kinds t (j ∷ path) args us h g = cc

  pub at_literal-sound : (gives : LitRule) → IsSoundAtLiterals p invs gives → IsSoundAlone p invs (at_literal gives)
  at_literal-sound gives sound = record {
    proper = λ kinds t path args us h g.
        let a = map-some (replaced t path) (option_and_then (gives args) (spot_at t path)) us g in
        let b = and-then (gives args) (spot_at t path) a.0 a.1 in
        let there = place-of t path b.0 b.1 in
        subst (Each (IsProperTerm p kinds)) a.2
        (replaced-proper p kinds t path there.0 a.0 there.1 h
        (subst (λ sc. Each (FitIn p sc) a.0) (sym there.2.scope) (sound.fits kinds t path args b.0 a.0 h b.1 b.2)));
    bag = λ m at kinds t path args us h g.
        let a = map-some (replaced t path) (option_and_then (gives args) (spot_at t path)) us g in
        let b = and-then (gives args) (spot_at t path) a.0 a.1 in
        subst (SameAmong (setting_of p m) (t ∷ [])) a.2 (sound.bag m at kinds t path args b.0 a.0 h b.1 b.2);
  }

  -- the terms behind stay as they are
  pub alone-sound : (gives : OnTerm) → IsSoundAlone p invs gives → IsSoundRule p invs (alone gives)
  alone-sound gives sound = record {
    proper = λ kinds n path args t later us h hs g.
        let a = map-some (λ vs. vs ++ later) (gives path args t) us g in
        subst (Each (IsProperTerm p kinds)) a.2 (each-append (IsProperTerm p kinds) a.0 later (sound.proper kinds t path args a.0 h a.1) hs);
    bag = λ m at kinds n path args t later us h hs g.
        let a = map-some (λ vs. vs ++ later) (gives path args t) us g in
        subst (SameAmong (setting_of p m) (t ∷ later)) a.2 (same-before (setting_of p m) t a.0 later (sound.bag m at kinds t path args a.0 h a.1));
  }
    where
      same-before : (s : Setting) (t : Term) (us later : List Term) → SameAmong s (t ∷ []) us → SameAmong s (t ∷ later) (us ++ later)
      same-before s t us later h = record {
        by = λ before behind.
            subst (λ ts. SameBag (terms_bag s (before ++ ts)) (terms_bag s (before ++ ((t ∷ later) ++ behind)))) (sym (append_assoc us later behind)) (h.by before (later ++ behind));
      }

  pub on_terms-sound : (gives : TailRule) → IsSoundOnTails p invs gives → IsSoundRule p invs (on_terms gives)
  on_terms-sound gives sound = record { proper = proper; bag = bag }
    where
      proper : (kinds : List Kind) (n : ℕ) (path args : List ℕ) (t : Term) (later us : List Term) → IsProperTerm p kinds t → Each (IsProperTerm p kinds) later → on_terms gives n path args t later ≡ Some us → Each (IsProperTerm p kinds) us
      proper kinds n [] args t later us h hs g = sound.proper kinds n args t later us h hs g
      proper kinds n (j ∷ path) args t later us h hs g = cc

      bag : (m : Moment) → IsMoment p invs m → (kinds : List Kind) (n : ℕ) (path args : List ℕ) (t : Term) (later us : List Term) → IsProperTerm p kinds t → Each (IsProperTerm p kinds) later → on_terms gives n path args t later ≡ Some us → SameAmong (setting_of p m) (t ∷ later) us
      bag m at kinds n [] args t later us h hs g = sound.bag m at kinds n args t later us h hs g
      bag m at kinds n (j ∷ path) args t later us h hs g = cc
