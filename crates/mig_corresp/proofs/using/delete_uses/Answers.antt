use Rattle.std.proofs.Common.{arith}
use Rattle.std.proofs.lemmas.Grind.{common_steps}
use Rattle.mig_corresp.proofs.Uses as uses
use Rattle.mig_corresp.proofs.using.delete_uses.Goals as goal

pub returns-then-equates : goal.returns-then-equates
returns-then-equates c = grind (arith, common_steps, uses.delete_uses c.args.column c.args.tables.now c.args.join.now c.args.cond.now)

pub returns-else-equates : goal.returns-else-equates
returns-else-equates c = grind (arith, common_steps, uses.delete_uses c.args.column c.args.tables.now c.args.join.now c.args.cond.now)
