use Rattle.std.proofs.Common.{arith}
use Rattle.std.proofs.lemmas.Grind.{common_steps}
use Rattle.mig_corresp.proofs.Uses as uses
use Rattle.mig_corresp.proofs.using.set_uses.Goals as goal

pub returns-then-same_col : goal.returns-then-same_col
returns-then-same_col c = grind (arith, common_steps, uses.set_uses c.args.column c.args.written c.args.value.now c.args.join.now c.args.cond.now)

pub returns-else-same_col : goal.returns-else-same_col
returns-else-same_col c = grind (arith, common_steps, uses.set_uses c.args.column c.args.written c.args.value.now c.args.join.now c.args.cond.now)
