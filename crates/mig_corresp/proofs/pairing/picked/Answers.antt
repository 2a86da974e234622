use Rattle.std.proofs.Common.{arith}
use Rattle.std.proofs.lemmas.Grind.{common_steps}
use Rattle.mig_invariant.specs.declared.corresp.ColPair.{ColPair}
use Rattle.mig_corresp.proofs.Places.{picked_more}
use Rattle.mig_corresp.proofs.pairing.picked.Goals as goal

pub loop-i-preserved : goal.loop-i-preserved
loop-i-preserved c =
    let none : ColPair = record { source = record { table = 0; column = 0 }; target = record { table = 0; column = 0 } } in
    grind (arith, common_steps, picked_more c.args.pairs.now c.args.values.now c.loop-i.i none (omega arith))
