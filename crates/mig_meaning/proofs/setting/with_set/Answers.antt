use Rattle.std.proofs.Common.{cond, map}
use Rattle.std.specs.Prelude.{◌==◌}
use Rattle.mig_meaning.specs.Effect.{takes_part, with_value}
use Rattle.mig_meaning.proofs.Steps.{numbered-step}
use Rattle.mig_meaning.proofs.setting.with_set.Goals as goal

pub loop-n-preserved : goal.loop-n-preserved
loop-n-preserved c =
    numbered-step (λ n rows. cond (n == c.args.column.table) (map (λ p. cond (takes_part c.args.tables.now c.args.met.now n p) (with_value c.args.column.column c.args.value.now p) p) rows) rows) c.as_slice-before.result.now c.loop-n.n c.index-before-n.result c.in_ok-set_table.field-0 c.loop-n.after c.push.new.self c.loop-n-test.true c.index-before-n.is c.loop-n.invariant c.in_ok-set_table.ensures c.in_ok-push.ensures.ok
