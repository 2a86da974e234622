use Rattle.std.proofs.Common.{◌++◌, take, sym, ap, ◌∙◌}
use Rattle.mig_schema.specs.Typed.{item_columns}
use Rattle.mig_schema.specs.declared.programs.Cmp.{Cmp}
use Rattle.mig_sketch.specs.Needs.{case_columns}
use Rattle.mig_sketch.proofs.Steps.{flat-step, two-more}
use Rattle.mig_sketch.proofs.needing.add_case.Goals as goal

pub loop-cmp-preserved : goal.loop-cmp-preserved
loop-cmp-preserved c =
    let xs = c.args.cmps.now in
    let i = c.loop-cmp.cmp-index in
    let x = c.cmp-item.result in
    let first = c.in_ok-add_item.ensures ∙ ap (λ t. t ++ item_columns x.left) c.loop-cmp.invariant in
    two-more c.args.list.now c.add_item.new.list c.add_item-in-loop-cmp.new.list (case_columns (take i xs)) (item_columns x.left) (item_columns x.right) first c.in_ok-add_item-2.ensures
    ∙ ap (λ t. c.args.list.now ++ t) (ap (λ (y : Cmp). case_columns (take i xs) ++ (item_columns y.left ++ item_columns y.right)) c.cmp-item.is ∙ sym (flat-step (λ (y : Cmp). item_columns y.left ++ item_columns y.right) xs i x c.loop-cmp-test.true))
