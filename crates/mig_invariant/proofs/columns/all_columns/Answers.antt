use Rattle.std.proofs.Common.{ℕ, List, ◌++◌, ap, sym, ◌∙◌}
use Rattle.mig_schema.specs.Columns.{columns_in}
use Rattle.mig_schema.specs.declared.tables.ColId.{ColId}
use Rattle.mig_invariant.proofs.Tables.{flat_range_more}
use Rattle.mig_invariant.proofs.columns.all_columns.Goals as goal

pub loop-t-preserved : goal.loop-t-preserved
loop-t-preserved c =
    c.in_ok-add_columns.ensures
    ∙ ap (λ (t : ℕ). c.loop-t.list ++ columns_in c.args.schema.now t) c.in_ok-number.ensures.ok
    ∙ ap (λ (list : List ColId). list ++ columns_in c.args.schema.now c.loop-t.t) c.loop-t.invariant
    ∙ sym (flat_range_more (columns_in c.args.schema.now) c.loop-t.t)
