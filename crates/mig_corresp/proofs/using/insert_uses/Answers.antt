use Rattle.std.proofs.Common.{arith}
use Rattle.std.proofs.lemmas.Grind.{common_steps}
use Rattle.mig_corresp.proofs.Uses as uses
use Rattle.mig_corresp.proofs.using.insert_uses.Goals as goal

pub returns-then-assigns : goal.returns-then-assigns
returns-then-assigns c = grind (arith, common_steps, uses.insert_uses c.args.column c.args.join.now c.args.values.now)

pub returns-else-assigns : goal.returns-else-assigns
returns-else-assigns c = grind (arith, common_steps, uses.insert_uses c.args.column c.args.join.now c.args.values.now)
