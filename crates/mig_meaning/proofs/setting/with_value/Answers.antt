use Rattle.std.proofs.Common.{cond}
use Rattle.std.specs.Prelude.{◌==◌}
use Rattle.mig_schema.specs.declared.values.Value.{Value}
use Rattle.mig_meaning.proofs.Steps.{numbered-step}
use Rattle.mig_meaning.proofs.setting.with_value.Goals as goal

pub loop-n-preserved : goal.loop-n-preserved
loop-n-preserved c = numbered-step (λ n (x : Value). cond (n == c.args.column) c.args.value.now x) c.as_slice-before.result.now c.loop-n.n c.index-before-n.result c.in_ok-one_of.field-0 c.loop-n.values c.push.new.self c.loop-n-test.true c.index-before-n.is c.loop-n.invariant c.in_ok-one_of.ensures c.in_ok-push.ensures.ok
