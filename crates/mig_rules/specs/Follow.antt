-- Which expression a step leads to: the table of rules.
use Rattle.std.specs.Prelude.{ℕ, ◌+◌, cond, List, ◌++◌, take, drop, slice_get, Option, Some, None}
use Rattle.std.specs.Option.{option_and_then}
use Rattle.mig_meaning.specs.declared.relating.Invariant.{Invariant}
use Rattle.mig_algebra.specs.declared.terms.Term.{Term}
use Rattle.mig_algebra.specs.declared.terms.Expr.{Expr}
use Rattle.mig_algebra.specs.Proper.{Sides}
use Rattle.mig_steps.specs.declared.steps.Rule.{Rule}
use Rattle.mig_steps.specs.declared.steps.Rule.TheVariants.{Stage, StageIn, Dead, Same, Implied, Lift, Split, Found, Alone, Inside, Never, Merge, Apart, Lossless, Fold, FoldIn, Rejoin}
use Rattle.mig_steps.specs.declared.steps.Step.{Step}
use Rattle.mig_steps.specs.Limits.{is_within_limits, is_short}
use Rattle.mig_steps.specs.Ways.{OnTerms, on_term, at_literal, alone, on_terms}
use Rattle.mig_literals.specs.Dead.{dead}
use Rattle.mig_literals.specs.Implied.{implied}
use Rattle.mig_literals.specs.Lifted.{lifted}
use Rattle.mig_literals.specs.Rejoined.{rejoined}
use Rattle.mig_literals.specs.Same.{same}
use Rattle.mig_literals.specs.Split.{split}
use Rattle.mig_rows.specs.Alone as rows
use Rattle.mig_rows.specs.Inside.{inside}
use Rattle.mig_rows.specs.Lossless.{lossless}
use Rattle.mig_rows.specs.Merged.{merged}
use Rattle.mig_rows.specs.Never.{never}
use Rattle.mig_rows.specs.Parted.{parted}
use Rattle.mig_unfolding.specs.Stages.{stage, stagein}
use Rattle.mig_folding.specs.Foldins.{foldin}
use Rattle.mig_folding.specs.Folds.{fold}
use Rattle.mig_folding.specs.Found.{found}

-- what a rule puts in place of a term and of those behind it, by the term's number and the step's path and arguments
abbrev pub by_rule : Sides → List Invariant → Rule → OnTerms
by_rule p invs Stage = alone (on_term (stage p))
by_rule p invs StageIn = alone (at_literal (stagein p))
by_rule p invs Dead = alone (on_term dead)
by_rule p invs Same = alone (on_term same)
by_rule p invs Implied = alone (at_literal implied)
by_rule p invs Lift = alone (at_literal lifted)
by_rule p invs Split = alone (at_literal split)
by_rule p invs Found = alone (at_literal found)
by_rule p invs Alone = alone (at_literal (rows.alone invs))
by_rule p invs Inside = alone (at_literal (inside invs))
by_rule p invs Never = alone (at_literal (never invs))
by_rule p invs Merge = alone (on_term (merged invs))
by_rule p invs Apart = alone (on_term (parted invs))
by_rule p invs Lossless = alone (on_term (lossless invs))
by_rule p invs Fold = alone (on_term (fold invs))
by_rule p invs FoldIn = alone (at_literal (foldin invs))
by_rule p invs Rejoin = on_terms rejoined

-- terms in place of the term of number n and of all behind it
abbrev pub put_terms : ℕ → List Term → List Term → List Term
put_terms n us ts = take n ts ++ us

-- an expression within the limits
abbrev pub limited : Expr → Option Expr
limited e = cond (is_within_limits e) (Some e) None

-- what a step puts in place of its term t and of those behind it
abbrev pub comes_of : Sides → List Invariant → Step → List Term → Term → Option (List Term)
comes_of p invs s ts t = by_rule p invs s.rule s.term s.path s.args t (drop (s.term + 1) ts)

-- the expression that a step leads to, if it follows
abbrev pub follow : Sides → List Invariant → Step → Expr → Option Expr
follow p invs s e =
    cond (is_short s)
    (option_and_then (λ us. limited (record { terms = put_terms s.term us e.terms })) (option_and_then (comes_of p invs s e.terms) (slice_get e.terms s.term)))
    None
