-- Which paths and arguments are tried for a rule: two tables.
use Rattle.std.specs.Prelude.{ℕ, List}
use Rattle.mig_meaning.specs.declared.relating.Invariant.{Invariant}
use Rattle.mig_algebra.specs.declared.terms.Term.{Term}
use Rattle.mig_steps.specs.declared.steps.Rule.{Rule}
use Rattle.mig_steps.specs.declared.steps.Rule.TheVariants.{Stage, StageIn, Dead, Same, Implied, Lift, Split, Found, Alone, Inside, Never, Merge, Apart, Lossless, Fold, FoldIn, Rejoin}
use Rattle.mig_steps.specs.Offering.{TailArgs, args_alone}
use Rattle.mig_steps.specs.Paths.{own_path, lit_paths, body_paths, bare}
use Rattle.mig_literals.specs.Rejoined.{rejoin_args}
use Rattle.mig_rows.specs.Alone.{alone_args}
use Rattle.mig_rows.specs.Inside.{inside_args}
use Rattle.mig_rows.specs.Lossless.{lossless_args}
use Rattle.mig_rows.specs.Merged.{merge_args}
use Rattle.mig_rows.specs.Parted.{apart_args}
use Rattle.mig_unfolding.specs.Stages.{stage_args, stagein_args}
use Rattle.mig_folding.specs.Foldins.{foldin_args}
use Rattle.mig_folding.specs.Folds.{fold_args}
use Rattle.mig_folding.specs.Found.{found_args}

-- the paths for a rule
abbrev pub paths_for : Rule → Term → List (List ℕ)
paths_for Stage = own_path
paths_for StageIn = body_paths
paths_for Dead = own_path
paths_for Same = own_path
paths_for Implied = lit_paths
paths_for Lift = body_paths
paths_for Split = body_paths
paths_for Found = body_paths
paths_for Alone = body_paths
paths_for Inside = body_paths
paths_for Never = body_paths
paths_for Merge = own_path
paths_for Apart = own_path
paths_for Lossless = own_path
paths_for Fold = own_path
paths_for FoldIn = body_paths
paths_for Rejoin = own_path

-- the arguments for a rule at the term of a number, at a path, with the terms behind
abbrev pub args_for : List Invariant → Rule → TailArgs
args_for invs Stage = args_alone (λ path t. stage_args t)
args_for invs StageIn = args_alone stagein_args
args_for invs Dead = args_alone bare
args_for invs Same = args_alone bare
args_for invs Implied = args_alone bare
args_for invs Lift = args_alone bare
args_for invs Split = args_alone bare
args_for invs Found = args_alone found_args
args_for invs Alone = args_alone (alone_args invs)
args_for invs Inside = args_alone (inside_args invs)
args_for invs Never = args_alone bare
args_for invs Merge = args_alone (λ path t. merge_args invs t)
args_for invs Apart = args_alone (λ path t. apart_args invs t)
args_for invs Lossless = args_alone (λ path t. lossless_args invs t)
args_for invs Fold = args_alone (λ path t. fold_args invs t)
args_for invs FoldIn = args_alone (foldin_args invs)
args_for invs Rejoin = rejoin_args
