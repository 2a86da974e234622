use Rattle.std.proofs.Common.{◌≡◌, ℕ, List, map, subst, ap, ◌∙◌}
use Rattle.std.specs.List.{flat_map}
use Rattle.std.proofs.lemmas.Result.{IfOk-weaker}
use Rattle.mig_schema.specs.declared.programs.Join.{Join}
use Rattle.mig_schema.specs.declared.programs.Stmt.TheVariants.{Set}
use Rattle.mig_schema.specs.declared.tables.ColId.{ColId}
use Rattle.mig_trees.specs.Answer.{AreTrees}
use Rattle.mig_invariant.specs.Columns.{all_columns}
use Rattle.mig_invariant.specs.Images.{images_among}
use Rattle.mig_sketch.specs.declared.images.Imaged.{Imaged}
use Rattle.mig_sketch.specs.declared.plans.Part.{Part}
use Rattle.mig_sketch.specs.declared.plans.Part.TheVariants as part
use Rattle.mig_sketch.specs.Imaging.{imaged, image_sets, looked}
use Rattle.mig_sketch.specs.Options.{AreOptions, set_over, only_image}
use Rattle.mig_sketch.proofs.Optional.{set_are}
use Rattle.mig_sketch.proofs.options.set_options.Goals as goal

pub returns-clause-options : goal.returns-clause-options
returns-clause-options c =
    let listed = c.in_ok-images.ensures ∙ ap (λ (cs : List ColId). map (imaged (all_columns c.args.job.now.target) c.args.corr.now) cs) (c.as_slice.ensures ∙ c.in_ok-columns.ensures) in
    let needed = c.in_ok-sets.ensures ∙ ap (λ (is : List Imaged). image_sets is) c.as_slice-2.ensures.value in
    let serving = subst (λ (need : List (List ColId)). AreTrees c.args.job.now.target need c.in_ok-trees.trees) needed c.in_ok-trees.ensures.trees in
    let only = c.only_image.ensures ∙ ap (λ (ds : List ColId). only_image ds) (c.as_slice-4.ensures ∙ c.in_ok-own.ensures ∙ ap (λ (ds : List ColId). images_among ds c.args.corr.now c.args.column) (c.as_slice-3.ensures ∙ c.in_ok-targets.ensures)) in
    IfOk-weaker c.options_over.result
    (λ (o : List Part). o ≡ flat_map (λ tree. set_over (looked c.as_slice-5.result.now tree) c.only_image.result c.args.value.now c.args.cond.now tree) c.as_slice-6.result.now)
    (λ (o : List Part). (free : List ℕ) (s : ℕ) (join : Join) → AreOptions c.args.job.now c.args.corr.now free s (part.Stmt (Set c.args.column c.args.value.now join c.args.cond.now)) o)
    (λ o are free s join. set_are c.args.job.now c.args.corr.now free s c.in_ok-trees.trees o c.args.column c.args.value.now join c.args.cond.now c.in_ok-images.images.items c.only_image.result listed only serving
    (are
    ∙ ap (λ (trees : List Join). flat_map (λ tree. set_over (looked c.as_slice-5.result.now tree) c.only_image.result c.args.value.now c.args.cond.now tree) trees) c.as_slice-6.ensures
    ∙ ap (λ (is : List Imaged). flat_map (λ tree. set_over (looked is tree) c.only_image.result c.args.value.now c.args.cond.now tree) c.in_ok-trees.trees) c.as_slice-5.ensures.value))
    c.options_over.ensures
