use Rattle.std.proofs.Common.{ℕ, List, [], ◌∷◌, ◌++◌, take, sym, ap, ◌∙◌, arith, append_assoc}
use Rattle.mig_base.specs.Lists.{numbered}
use Rattle.mig_schema.specs.declared.tables.ColId.{ColId}
use Rattle.mig_schema.specs.declared.tables.Column.{Column}
use Rattle.mig_schema.specs.Columns.{no_column}
use Rattle.mig_invariant.proofs.Tables.{numbered_more}
use Rattle.mig_sketch.proofs.needing.add_columns.Goals as goal

abbrev at : ℕ → ℕ → ColId
at t n = record { table = t; column = n }

pub loop-n-preserved : goal.loop-n-preserved
loop-n-preserved c =
    c.in_ok-push.ensures.ok
    ∙ ap (λ (k : ℕ). c.loop-n.list ++ at c.args.t k ∷ []) c.in_ok-column.ensures.ok
    ∙ ap (λ (list : List ColId). list ++ at c.args.t c.loop-n.n ∷ []) c.loop-n.invariant
    ∙ append_assoc c.args.list.now (numbered (λ n (d : Column). at c.args.t n) 0 (take c.loop-n.n c.columns_of-items.result.now)) (at c.args.t c.loop-n.n ∷ [])
    ∙ ap (λ (list : List ColId). c.args.list.now ++ list) (sym (numbered_more (λ n (d : Column). at c.args.t n) c.columns_of-items.result.now c.loop-n.n no_column (omega arith)))
