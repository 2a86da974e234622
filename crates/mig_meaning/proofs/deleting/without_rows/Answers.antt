use Rattle.std.proofs.Common.{cond, not}
use Rattle.std.specs.Prelude.{◌==◌, filter}
use Rattle.std.specs.List.{list_any}
use Rattle.mig_meaning.specs.Effect.{takes_part}
use Rattle.mig_meaning.proofs.Steps.{numbered-step}
use Rattle.mig_meaning.proofs.deleting.without_rows.Goals as goal

pub loop-n-preserved : goal.loop-n-preserved
loop-n-preserved c =
    numbered-step (λ n rows. cond (list_any (λ t. t == n) c.args.listed.now) (filter (λ p. not (takes_part c.args.tables.now c.args.met.now n p)) rows) rows) c.as_slice-before.result.now c.loop-n.n c.index-before-n.result c.in_ok-table_without.field-0 c.loop-n.after c.push.new.self c.loop-n-test.true c.index-before-n.is c.loop-n.invariant c.in_ok-table_without.ensures c.in_ok-push.ensures.ok
