-- Past the last table stands the empty one.
use Rattle.std.proofs.Common.{arith}
use Rattle.std.proofs.lemmas.Grind.{common_steps}
use Rattle.std.proofs.lemmas.Option.{gets}
use Rattle.mig_corresp.proofs.naming.table_name.Goals as goal

pub returns-in-None : goal.returns-in-None
returns-in-None c = grind (arith, common_steps, gets)
