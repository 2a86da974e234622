-- What is tried for each rule: a table. And which rules look at one term alone.
use Rattle.std.proofs.Common.{◌<◌, List, refl, arith}
use Rattle.mig_meaning.specs.declared.relating.Invariant.{Invariant}
use Rattle.mig_algebra.specs.Proper.{Sides}
use Rattle.mig_steps.specs.declared.steps.Rule.{Rule}
use Rattle.mig_steps.specs.declared.steps.Rule.TheVariants.{Stage, StageIn, Dead, Same, Implied, Lift, Split, Found, Alone, Inside, Never, Merge, Apart, Lossless, Fold, FoldIn, Rejoin}
use Rattle.mig_steps.specs.Offering.{OffersAll, LooksAtOne}
use Rattle.mig_steps.specs.Paths.{own_path, lit_paths, body_paths, bare}
use Rattle.mig_steps.specs.Ways.{on_term, at_literal}
use Rattle.mig_steps.proofs.OfferedPaths.{own-offered, lits-offered, bodies-offered, alone-offers, alone-looks}
use Rattle.mig_literals.specs.Dead.{dead}
use Rattle.mig_literals.specs.Implied.{implied}
use Rattle.mig_literals.specs.Lifted.{lifted}
use Rattle.mig_literals.specs.Same.{same}
use Rattle.mig_literals.specs.Split.{split}
use Rattle.mig_literals.proofs.LiftedSound.{lifted-body}
use Rattle.mig_literals.proofs.RejoinedTried.{rejoined-offers}
use Rattle.mig_literals.proofs.SplitSound.{split-is_body}
use Rattle.mig_rows.specs.Alone as rows
use Rattle.mig_rows.specs.Alone.{alone_args}
use Rattle.mig_rows.specs.Inside.{inside, inside_args}
use Rattle.mig_rows.specs.Lossless.{lossless, lossless_args}
use Rattle.mig_rows.specs.Merged.{merged, merge_args}
use Rattle.mig_rows.specs.Never.{never}
use Rattle.mig_rows.specs.Parted.{parted, apart_args}
use Rattle.mig_rows.proofs.AloneSound.{alone-offered}
use Rattle.mig_rows.proofs.InsideSound.{inside-offered}
use Rattle.mig_rows.proofs.LosslessSound.{lossless-offered}
use Rattle.mig_rows.proofs.MergedSound.{merged-offered}
use Rattle.mig_rows.proofs.NeverSound.{never-is_body}
use Rattle.mig_rows.proofs.PartedSound.{parted-offered}
use Rattle.mig_unfolding.specs.Stages.{stage, stagein, stage_args, stagein_args}
use Rattle.mig_unfolding.proofs.StageInSound.{stagein-offered}
use Rattle.mig_unfolding.proofs.StageSound.{stage-offered}
use Rattle.mig_folding.specs.Foldins.{foldin, foldin_args}
use Rattle.mig_folding.specs.Folds.{fold, fold_args}
use Rattle.mig_folding.proofs.FoldSound.{fold-offered}
use Rattle.mig_folding.proofs.FoldinOffered.{foldin-offered}
use Rattle.mig_folding.specs.Found.{found, found_args}
use Rattle.mig_folding.proofs.FoundTried.{found-offered}
use Rattle.mig_rules.specs.First.{number_of}
use Rattle.mig_rules.specs.Follow.{by_rule}
use Rattle.mig_rules.specs.Offered.{paths_for, args_for}

pub rule-offers : (p : Sides) (invs : List Invariant) (r : Rule) → OffersAll (by_rule p invs r) (paths_for r) (args_for invs r)
rule-offers p invs Stage = alone-offers (on_term (stage p)) own_path (λ path t. stage_args t) (stage-offered p)
rule-offers p invs StageIn = alone-offers (at_literal (stagein p)) body_paths stagein_args (stagein-offered p)
rule-offers p invs Dead = alone-offers (on_term dead) own_path bare (own-offered dead (λ a bs t. refl))
rule-offers p invs Same = alone-offers (on_term same) own_path bare (own-offered same (λ a bs t. refl))
rule-offers p invs Implied = alone-offers (at_literal implied) lit_paths bare (lits-offered implied (λ a bs s. refl))
rule-offers p invs Lift = alone-offers (at_literal lifted) body_paths bare (bodies-offered lifted (λ a bs s. refl) lifted-body)
rule-offers p invs Split = alone-offers (at_literal split) body_paths bare (bodies-offered split (λ a bs s. refl) split-is_body)
rule-offers p invs Found = alone-offers (at_literal found) body_paths found_args found-offered
rule-offers p invs Alone = alone-offers (at_literal (rows.alone invs)) body_paths (alone_args invs) (alone-offered invs)
rule-offers p invs Inside = alone-offers (at_literal (inside invs)) body_paths (inside_args invs) (inside-offered invs)
rule-offers p invs Never = alone-offers (at_literal (never invs)) body_paths bare (bodies-offered (never invs) (λ a bs s. refl) (never-is_body invs))
rule-offers p invs Merge = alone-offers (on_term (merged invs)) own_path (λ path t. merge_args invs t) (merged-offered invs)
rule-offers p invs Apart = alone-offers (on_term (parted invs)) own_path (λ path t. apart_args invs t) (parted-offered invs)
rule-offers p invs Lossless = alone-offers (on_term (lossless invs)) own_path (λ path t. lossless_args invs t) (lossless-offered invs)
rule-offers p invs Fold = alone-offers (on_term (fold invs)) own_path (λ path t. fold_args invs t) (fold-offered invs)
rule-offers p invs FoldIn = alone-offers (at_literal (foldin invs)) body_paths (foldin_args invs) (foldin-offered invs)
rule-offers p invs Rejoin = rejoined-offers

-- all but the last look at one term
pub rule-looks : (p : Sides) (invs : List Invariant) (r : Rule) → number_of r < 16 → LooksAtOne (by_rule p invs r)
rule-looks p invs Stage l = alone-looks (on_term (stage p))
rule-looks p invs StageIn l = alone-looks (at_literal (stagein p))
rule-looks p invs Dead l = alone-looks (on_term dead)
rule-looks p invs Same l = alone-looks (on_term same)
rule-looks p invs Implied l = alone-looks (at_literal implied)
rule-looks p invs Lift l = alone-looks (at_literal lifted)
rule-looks p invs Split l = alone-looks (at_literal split)
rule-looks p invs Found l = alone-looks (at_literal found)
rule-looks p invs Alone l = alone-looks (at_literal (rows.alone invs))
rule-looks p invs Inside l = alone-looks (at_literal (inside invs))
rule-looks p invs Never l = alone-looks (at_literal (never invs))
rule-looks p invs Merge l = alone-looks (on_term (merged invs))
rule-looks p invs Apart l = alone-looks (on_term (parted invs))
rule-looks p invs Lossless l = alone-looks (on_term (lossless invs))
rule-looks p invs Fold l = alone-looks (on_term (fold invs))
rule-looks p invs FoldIn l = alone-looks (at_literal (foldin invs))
rule-looks p invs Rejoin l = absurd (omega (arith, l))
