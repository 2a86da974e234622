use Rattle.std.proofs.Common.{◌≡◌, List, map, subst, ap, ◌∙◌}
use Rattle.std.specs.List.{flat_map}
use Rattle.std.proofs.lemmas.Result.{IfOk-weaker}
use Rattle.mig_schema.specs.declared.programs.Join.{Join}
use Rattle.mig_schema.specs.declared.programs.Stmt.TheVariants.{Insert}
use Rattle.mig_schema.specs.declared.tables.ColId.{ColId}
use Rattle.mig_trees.specs.Answer.{AreTrees}
use Rattle.mig_invariant.specs.Columns.{all_columns}
use Rattle.mig_sketch.specs.declared.images.Imaged.{Imaged}
use Rattle.mig_sketch.specs.declared.plans.Part.{Part}
use Rattle.mig_sketch.specs.declared.plans.Part.TheVariants as part
use Rattle.mig_sketch.specs.Imaging.{imaged, single_sets, carried_to}
use Rattle.mig_sketch.specs.Options.{AreOptions, insert_over}
use Rattle.mig_sketch.specs.Values.{insert_values}
use Rattle.mig_sketch.proofs.Optional.{insert_are}
use Rattle.mig_sketch.proofs.options.insert_options.Goals as goal

pub returns-clause-options : goal.returns-clause-options
returns-clause-options c =
    let listed = c.in_ok-images.ensures ∙ ap (λ (cs : List ColId). map (imaged (all_columns c.args.job.now.target) c.args.corr.now) cs) (c.as_slice.ensures ∙ c.in_ok-columns.ensures) in
    let needed = c.in_ok-sets.ensures ∙ ap (λ (is : List Imaged). flat_map single_sets is) c.as_slice-2.ensures.value in
    let serving = subst (λ (need : List (List ColId)). AreTrees c.args.job.now.target need c.in_ok-trees.trees) needed c.in_ok-trees.ensures.trees in
    let given = c.as_slice-4.ensures.value ∙ c.in_ok-carried.ensures ∙ ap (λ (is : List Imaged). flat_map (carried_to c.args.join.now c.args.values.now) is) c.as_slice-3.ensures.value in
    IfOk-weaker c.options_over.result
    (λ (o : List Part). o ≡ flat_map (λ tree. insert_over tree (insert_values c.args.job.now.target c.as_slice-4.result.now c.args.free.now c.args.statement tree)) c.as_slice-5.result.now)
    (λ (o : List Part). AreOptions c.args.job.now c.args.corr.now c.args.free.now c.args.statement (part.Stmt (Insert c.args.join.now c.args.values.now)) o)
    (λ o are. insert_are c.args.job.now c.args.corr.now c.args.free.now c.args.statement c.in_ok-trees.trees o c.args.join.now c.args.values.now c.in_ok-images.images.items c.as_slice-4.result.now listed given serving
    (are ∙ ap (λ (trees : List Join). flat_map (λ tree. insert_over tree (insert_values c.args.job.now.target c.as_slice-4.result.now c.args.free.now c.args.statement tree)) trees) c.as_slice-5.ensures))
    c.options_over.ensures
