use Rattle.std.proofs.Common.{arith}
use Rattle.std.proofs.lemmas.Grind.{common_steps}
use Rattle.mig_corresp.proofs.Uses as uses
use Rattle.mig_corresp.proofs.using.query_uses.Goals as goal

pub returns-then-selects : goal.returns-then-selects
returns-then-selects c = grind (arith, common_steps, uses.query_uses c.args.column c.args.query.now)

pub returns-else-selects : goal.returns-else-selects
returns-else-selects c = grind (arith, common_steps, uses.query_uses c.args.column c.args.query.now)
