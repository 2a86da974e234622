use Rattle.std.proofs.Common.{◌≡◌, ℕ, List, ◌++◌, map, subst, ap, ◌∙◌}
use Rattle.std.specs.Prelude.{filter}
use Rattle.std.specs.List.{flat_map}
use Rattle.std.proofs.lemmas.Result.{IfOk-weaker}
use Rattle.mig_schema.specs.declared.programs.Join.{Join}
use Rattle.mig_schema.specs.declared.programs.Stmt.TheVariants.{Delete}
use Rattle.mig_schema.specs.declared.tables.ColId.{ColId}
use Rattle.mig_trees.specs.Answer.{AreTrees}
use Rattle.mig_invariant.specs.Columns.{all_columns, columns_within}
use Rattle.mig_invariant.specs.Images.{images}
use Rattle.mig_sketch.specs.declared.images.Imaged.{Imaged}
use Rattle.mig_sketch.specs.declared.plans.Part.{Part}
use Rattle.mig_sketch.specs.declared.plans.Part.TheVariants as part
use Rattle.mig_sketch.specs.Imaging.{imaged, image_sets, looked}
use Rattle.mig_sketch.specs.Needs.{has_any, condition_columns}
use Rattle.mig_sketch.specs.Options.{AreOptions, delete_over}
use Rattle.mig_sketch.proofs.Optional.{delete_are}
use Rattle.mig_sketch.proofs.options.delete_options.Goals as goal

pub returns-clause-options : goal.returns-clause-options
returns-clause-options c =
    let named = c.as_slice.ensures ∙ c.in_ok-add_condition.ensures ∙ ap (λ (cs : List ColId). cs ++ condition_columns c.args.cond.now) c.new-columns.ensures in
    let listed = c.in_ok-images.ensures ∙ ap (λ (cs : List ColId). map (imaged (all_columns c.args.job.now.target) c.args.corr.now) cs) named in
    let more = filter has_any (map (images c.args.job.now.target c.args.corr.now) (columns_within (all_columns c.args.job.now.source) c.args.tables.now)) in
    let needed = c.in_ok-add_listed.ensures
    ∙ ap (λ (sets : List (List ColId)). sets ++ filter has_any (map (images c.args.job.now.target c.args.corr.now) (columns_within (all_columns c.args.job.now.source) c.args.tables.now)))
    (c.in_ok-sets.ensures ∙ ap (λ (is : List Imaged). image_sets is) c.as_slice-2.ensures.value) in
    let serving = subst (λ (need : List (List ColId)). AreTrees c.args.job.now.target need c.in_ok-trees.trees) needed c.in_ok-trees.ensures.trees in
    IfOk-weaker c.options_over.result
    (λ (o : List Part). o ≡ flat_map (λ tree. delete_over c.args.job.now.target (looked c.as_slice-3.result.now tree) c.args.cond.now tree) c.as_slice-4.result.now)
    (λ (o : List Part). (free : List ℕ) (s : ℕ) (join : Join) → AreOptions c.args.job.now c.args.corr.now free s (part.Stmt (Delete c.args.tables.now join c.args.cond.now)) o)
    (λ o are free s join. delete_are c.args.job.now c.args.corr.now free s c.in_ok-trees.trees o c.args.tables.now join c.args.cond.now c.in_ok-images.images.items listed serving
    (are
    ∙ ap (λ (trees : List Join). flat_map (λ tree. delete_over c.args.job.now.target (looked c.as_slice-3.result.now tree) c.args.cond.now tree) trees) c.as_slice-4.ensures
    ∙ ap (λ (is : List Imaged). flat_map (λ tree. delete_over c.args.job.now.target (looked is tree) c.args.cond.now tree) c.in_ok-trees.trees) c.as_slice-3.ensures.value))
    c.options_over.ensures
