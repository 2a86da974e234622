-- Steps lead from proper expressions to proper ones of the same bag: the table of the rules' laws.
use Rattle.std.proofs.Common.{◌≡◌, ◌+◌, true, List, [], ◌∷◌, ◌++◌, take, drop, Some, sym, subst}
use Rattle.std.specs.Prelude.{slice_get}
use Rattle.std.specs.Option.{option_and_then}
use Rattle.std.proofs.lemmas.Option.{same_Some}
use Rattle.mig_meaning.specs.declared.relating.Invariant.{Invariant}
use Rattle.mig_meaning.specs.Bags.{SameBag}
use Rattle.mig_meaning.specs.Lists.{Each}
use Rattle.mig_meaning.proofs.Within.{each-append}
use Rattle.mig_algebra.specs.declared.terms.Term.{Term}
use Rattle.mig_algebra.specs.declared.terms.Expr.{Expr}
use Rattle.mig_algebra.specs.Meaning.{bag, terms_bag}
use Rattle.mig_algebra.specs.Proper.{Sides, IsProperTerm, IsProper}
use Rattle.mig_algebra.proofs.Lists.{each-left, each-right}
use Rattle.mig_steps.specs.declared.steps.Rule.{Rule}
use Rattle.mig_steps.specs.declared.steps.Rule.TheVariants.{Stage, StageIn, Dead, Same, Implied, Lift, Split, Found, Alone, Inside, Never, Merge, Apart, Lossless, Fold, FoldIn, Rejoin}
use Rattle.mig_steps.specs.declared.steps.Step.{Step}
use Rattle.mig_steps.specs.Limits.{is_within_limits, is_short}
use Rattle.mig_obligations.specs.Settings.{Moment, setting_of, IsMoment}
use Rattle.mig_classes.proofs.WrittenProper.{parts-at}
use Rattle.mig_steps.proofs.Options.{and-then, cond-then}
use Rattle.std.proofs.Common.{length, subst₂}
use Rattle.std.proofs.lemmas.List.{append-nil}
use Rattle.mig_obligations.specs.Fitting.{IsFit, KeepsBag}
use Rattle.mig_steps.specs.Sound.{IsSoundRule}
use Rattle.mig_steps.specs.Ways.{on_term, at_literal}
use Rattle.mig_steps.proofs.WaysSound.{on_term-sound, at_literal-sound, alone-sound, on_terms-sound}
use Rattle.mig_literals.specs.Dead.{dead}
use Rattle.mig_literals.specs.Implied.{implied}
use Rattle.mig_literals.specs.Lifted.{lifted}
use Rattle.mig_literals.specs.Rejoined.{rejoined}
use Rattle.mig_literals.specs.Same.{same}
use Rattle.mig_literals.specs.Split.{split}
use Rattle.mig_literals.proofs.DeadSound.{dead-sound}
use Rattle.mig_literals.proofs.ImpliedSound.{implied-sound}
use Rattle.mig_literals.proofs.LiftedSound.{lifted-sound}
use Rattle.mig_literals.proofs.RejoinedSound.{rejoined-sound}
use Rattle.mig_literals.proofs.SameSound.{same-sound}
use Rattle.mig_literals.proofs.SplitSound.{split-sound}
use Rattle.mig_rows.specs.Alone as rows
use Rattle.mig_rows.specs.Inside.{inside}
use Rattle.mig_rows.specs.Lossless.{lossless}
use Rattle.mig_rows.specs.Merged.{merged}
use Rattle.mig_rows.specs.Never.{never}
use Rattle.mig_rows.specs.Parted.{parted}
use Rattle.mig_rows.proofs.AloneSound as by_rows
use Rattle.mig_rows.proofs.InsideSound.{inside-sound}
use Rattle.mig_rows.proofs.LosslessSound.{lossless-sound}
use Rattle.mig_rows.proofs.MergedSound.{merged-sound}
use Rattle.mig_rows.proofs.NeverSound.{never-sound}
use Rattle.mig_rows.proofs.PartedSound.{parted-sound}
use Rattle.mig_unfolding.specs.Stages.{stage, stagein}
use Rattle.mig_unfolding.proofs.StageInSound.{stagein-sound}
use Rattle.mig_unfolding.proofs.StageSound.{stage-sound}
use Rattle.mig_folding.specs.Foldins.{foldin}
use Rattle.mig_folding.specs.Folds.{fold}
use Rattle.mig_folding.proofs.FoldSound.{fold-sound}
use Rattle.mig_folding.proofs.FoldinSound.{foldin-sound}
use Rattle.mig_folding.specs.Found.{found}
use Rattle.mig_folding.proofs.FoundSound.{found-sound}
use Rattle.mig_rules.specs.Follow.{by_rule, put_terms, limited, comes_of, follow}
use Rattle.mig_rules.specs.Keeping.{FollowLaw}

rule-sound : (p : Sides) (invs : List Invariant) → IsFit p invs → (r : Rule) → IsSoundRule p invs (by_rule p invs r)
rule-sound p invs fit Stage = alone-sound p invs (on_term (stage p)) (on_term-sound p invs (stage p) (stage-sound p invs fit))
rule-sound p invs fit StageIn = alone-sound p invs (at_literal (stagein p)) (at_literal-sound p invs (stagein p) (stagein-sound p invs fit))
rule-sound p invs fit Dead = alone-sound p invs (on_term dead) (on_term-sound p invs dead (dead-sound p invs))
rule-sound p invs fit Same = alone-sound p invs (on_term same) (on_term-sound p invs same (same-sound p invs))
rule-sound p invs fit Implied = alone-sound p invs (at_literal implied) (at_literal-sound p invs implied (implied-sound p invs))
rule-sound p invs fit Lift = alone-sound p invs (at_literal lifted) (at_literal-sound p invs lifted (lifted-sound p invs))
rule-sound p invs fit Split = alone-sound p invs (at_literal split) (at_literal-sound p invs split (split-sound p invs))
rule-sound p invs fit Found = alone-sound p invs (at_literal found) (at_literal-sound p invs found (found-sound p invs))
rule-sound p invs fit Alone = alone-sound p invs (at_literal (rows.alone invs)) (at_literal-sound p invs (rows.alone invs) (by_rows.alone-sound p invs))
rule-sound p invs fit Inside = alone-sound p invs (at_literal (inside invs)) (at_literal-sound p invs (inside invs) (inside-sound p invs))
rule-sound p invs fit Never = alone-sound p invs (at_literal (never invs)) (at_literal-sound p invs (never invs) (never-sound p invs))
rule-sound p invs fit Merge = alone-sound p invs (on_term (merged invs)) (on_term-sound p invs (merged invs) (merged-sound p invs))
rule-sound p invs fit Apart = alone-sound p invs (on_term (parted invs)) (on_term-sound p invs (parted invs) (parted-sound p invs))
rule-sound p invs fit Lossless = alone-sound p invs (on_term (lossless invs)) (on_term-sound p invs (lossless invs) (lossless-sound p invs))
rule-sound p invs fit Fold = alone-sound p invs (on_term (fold invs)) (on_term-sound p invs (fold invs) (fold-sound p invs fit))
rule-sound p invs fit FoldIn = alone-sound p invs (at_literal (foldin invs)) (at_literal-sound p invs (foldin invs) (foldin-sound p invs fit))
rule-sound p invs fit Rejoin = on_terms-sound p invs rejoined (rejoined-sound p invs)

-- ---- expressions

-- a step that follows: its term, and what comes in its place and that of those behind it
pub record Followed (p : Sides) (invs : List Invariant) (s : Step) (e e' : Expr) : Type 0 where
  pub term : Term
  pub there : slice_get e.terms s.term ≡ Some term
  pub terms : List Term
  pub given : by_rule p invs s.rule s.term s.path s.args term (drop (s.term + 1) e.terms) ≡ Some terms
  pub is : ◌≡◌ {A = Expr} (record { terms = put_terms s.term terms e.terms }) e'
  pub short : is_short s ≡ true

pub followed : (p : Sides) (invs : List Invariant) (s : Step) (e e' : Expr) → follow p invs s e ≡ Some e' → Followed p invs s e e'
followed p invs s e e' h =
    let inner = option_and_then (λ us. limited (record { terms = put_terms s.term us e.terms })) (option_and_then (comes_of p invs s e.terms) (slice_get e.terms s.term)) in
    let a = cond-then (is_short s) inner e' h in
    let b = and-then (λ us. limited (record { terms = put_terms s.term us e.terms })) (option_and_then (comes_of p invs s e.terms) (slice_get e.terms s.term)) e' a.1 in
    let c = and-then (comes_of p invs s e.terms) (slice_get e.terms s.term) b.0 b.1 in
    let made : Expr = record { terms = put_terms s.term b.0 e.terms } in
    let d = cond-then (is_within_limits made) (Some made) e' b.2 in
    record { term = c.0; there = c.1; terms = b.0; given = c.2; is = same_Some made e' d.1; short = a.0 }

module _ (p : Sides) (invs : List Invariant) (fit : IsFit p invs) (s : Step) (e e' : Expr) (h : IsProper p e) (f : Followed p invs s e e') where
  parts : (e.terms ≡ take s.term e.terms ++ (f.term ∷ drop (s.term + 1) e.terms)) × (length (take s.term e.terms) ≡ s.term)
  parts = parts-at e.terms s.term f.term f.there

  whole : Each (IsProperTerm p h.kinds) (take s.term e.terms ++ (f.term ∷ drop (s.term + 1) e.terms))
  whole = subst (Each (IsProperTerm p h.kinds)) parts.0 h.terms

  behind : IsProperTerm p h.kinds f.term × Each (IsProperTerm p h.kinds) (drop (s.term + 1) e.terms)
  behind = each-right (IsProperTerm p h.kinds) (take s.term e.terms) (f.term ∷ drop (s.term + 1) e.terms) whole

  step-proper : IsProper p e'
  step-proper = subst (IsProper p) f.is (record {
    kinds = h.kinds;
    terms = each-append (IsProperTerm p h.kinds) (take s.term e.terms) f.terms
        (each-left (IsProperTerm p h.kinds) (take s.term e.terms) (f.term ∷ drop (s.term + 1) e.terms) whole)
        ((rule-sound p invs fit s.rule).proper h.kinds s.term s.path s.args f.term (drop (s.term + 1) e.terms) f.terms behind.0 behind.1 f.given);
  })

  step-keeps : KeepsBag p invs e e'
  step-keeps = subst (KeepsBag p invs e) f.is (record { by = same })
    where
      same : (m : Moment) → IsMoment p invs m → SameBag (bag (setting_of p m) e) (terms_bag (setting_of p m) (put_terms s.term f.terms e.terms))
      same m at =
          let among = ((rule-sound p invs fit s.rule).bag m at h.kinds s.term s.path s.args f.term (drop (s.term + 1) e.terms) f.terms behind.0 behind.1 f.given).by (take s.term e.terms) [] in
          let made : SameBag (terms_bag (setting_of p m) (put_terms s.term f.terms e.terms)) (terms_bag (setting_of p m) (take s.term e.terms ++ (f.term ∷ drop (s.term + 1) e.terms))) =
          subst₂ (λ (us ts : List Term). SameBag (terms_bag (setting_of p m) (take s.term e.terms ++ us)) (terms_bag (setting_of p m) (take s.term e.terms ++ ts))) (append-nil f.terms) (append-nil (f.term ∷ drop (s.term + 1) e.terms)) among in
          let turned : SameBag (terms_bag (setting_of p m) (take s.term e.terms ++ (f.term ∷ drop (s.term + 1) e.terms))) (terms_bag (setting_of p m) (put_terms s.term f.terms e.terms)) = record { by = λ r. sym (made.by r) } in
          subst (λ (ts : List Term). SameBag (terms_bag (setting_of p m) ts) (terms_bag (setting_of p m) (put_terms s.term f.terms e.terms))) (sym parts.0) turned

pub follow-law : FollowLaw
follow-law = record {
  proper = λ p invs fit s e e' h g. step-proper p invs fit s e e' h (followed p invs s e e' g);
  bag = λ p invs fit s e e' h g. step-keeps p invs fit s e e' h (followed p invs s e e' g);
}
