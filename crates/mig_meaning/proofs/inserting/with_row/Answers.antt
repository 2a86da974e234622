use Rattle.std.proofs.Common.{cond, ◌∷◌, ◌++◌, []}
use Rattle.std.specs.Prelude.{◌==◌}
use Rattle.mig_meaning.proofs.Steps.{numbered-step}
use Rattle.mig_meaning.proofs.inserting.with_row.Goals as goal

pub loop-n-preserved : goal.loop-n-preserved
loop-n-preserved c =
    numbered-step (λ n rows. cond (n == c.args.t) (rows ++ (record { id = c.args.state.now.next; row = record { values = c.args.values.now } } ∷ [])) rows) c.as_slice-before.result.now c.loop-n.n c.index-before-n.result c.in_ok-with_last.field-0 c.loop-n.tables c.push.new.self c.loop-n-test.true c.index-before-n.is c.loop-n.invariant c.in_ok-with_last.ensures c.in_ok-push.ensures.ok
