use Rattle.std.proofs.Common.{◌≡◌, List, [], ◌∙◌}
use Rattle.std.specs.Prelude.{Option}
use Rattle.std.proofs.lemmas.Result.{IfOk-weaker}
use Rattle.mig_schema.specs.declared.programs.Assign.{Assign}
use Rattle.mig_sketch.specs.Labels.{new_label}
use Rattle.mig_sketch.specs.Leading.{scalars_at}
use Rattle.mig_sketch.specs.Values.{first_columns, values_from, insert_values}
use Rattle.mig_sketch.proofs.Valued.{values_led}
use Rattle.mig_sketch.proofs.values.insert_values.Goals as goal

pub returns : goal.returns
returns c =
    let target = c.args.target.now in
    let tree = c.args.tree.now in
    let e = values_led c.args.target.now c.args.carried.now c.args.free.now c.args.s c.args.tree.now c.as_slice-2.result.now c.as_slice.result.now (c.as_slice-2.ensures.value ∙ c.in_ok-led.ensures) (c.as_slice.ensures ∙ c.in_ok-columns.ensures) in
    IfOk-weaker c.class_values.result
    (λ (o : Option (List Assign)). o ≡ values_from c.args.target.now (scalars_at c.args.tree.now c.as_slice-2.result.now) (new_label c.args.free.now c.args.s) 0 (first_columns c.args.tree.now [] c.as_slice.result.now))
    (λ (o : Option (List Assign)). o ≡ insert_values c.args.target.now c.args.carried.now c.args.free.now c.args.s c.args.tree.now)
    (λ o h. h ∙ e)
    c.class_values.ensures
