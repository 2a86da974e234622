use Rattle.std.proofs.Common.{◌≡◌, ℕ, List, map, subst, ap, ◌∙◌}
use Rattle.std.specs.List.{flat_map}
use Rattle.std.proofs.lemmas.Result.{IfOk-weaker}
use Rattle.mig_schema.specs.declared.programs.Join.{Join}
use Rattle.mig_schema.specs.declared.tables.ColId.{ColId}
use Rattle.mig_trees.specs.Answer.{AreTrees}
use Rattle.mig_invariant.specs.Columns.{all_columns}
use Rattle.mig_sketch.specs.declared.images.Imaged.{Imaged}
use Rattle.mig_sketch.specs.declared.plans.Part.{Part}
use Rattle.mig_sketch.specs.declared.plans.Part.TheVariants as part
use Rattle.mig_sketch.specs.Imaging.{imaged, image_sets, looked}
use Rattle.mig_sketch.specs.Options.{AreOptions, query_over}
use Rattle.mig_sketch.proofs.Optional.{query_are}
use Rattle.mig_sketch.proofs.options.query_options.Goals as goal

pub returns-clause-options : goal.returns-clause-options
returns-clause-options c =
    let list = c.in_ok-images.images.items in
    let listed = c.in_ok-images.ensures ∙ ap (λ (cs : List ColId). map (imaged (all_columns c.args.job.now.target) c.args.corr.now) cs) (c.as_slice.ensures ∙ c.in_ok-columns.ensures) in
    let needed = c.in_ok-sets.ensures ∙ ap (λ (is : List Imaged). image_sets is) c.as_slice-2.ensures.value in
    let serving = subst (λ (need : List (List ColId)). AreTrees c.args.job.now.target need c.in_ok-trees.trees) needed c.in_ok-trees.ensures.trees in
    IfOk-weaker c.options_over.result
    (λ (o : List Part). o ≡ flat_map (λ tree. query_over (looked c.as_slice-3.result.now tree) c.args.query.now tree) c.as_slice-4.result.now)
    (λ (o : List Part). (free : List ℕ) (s : ℕ) → AreOptions c.args.job.now c.args.corr.now free s (part.Query c.args.query.now) o)
    (λ o are free s. query_are c.args.job.now c.args.corr.now free s c.in_ok-trees.trees o c.args.query.now c.in_ok-images.images.items listed serving
    (are
    ∙ ap (λ (trees : List Join). flat_map (λ tree. query_over (looked c.as_slice-3.result.now tree) c.args.query.now tree) trees) c.as_slice-4.ensures
    ∙ ap (λ (is : List Imaged). flat_map (λ tree. query_over (looked is tree) c.args.query.now tree) c.in_ok-trees.trees) c.as_slice-3.ensures.value))
    c.options_over.ensures
