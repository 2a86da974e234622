use Rattle.std.proofs.Common.{arith}
use Rattle.std.proofs.lemmas.Grind.{common_steps}
use Rattle.mig_invariant.specs.declared.corresp.ColPair.{ColPair}
use Rattle.mig_corresp.specs.Correspondences.{comes_to}
use Rattle.mig_corresp.proofs.Places.{places_more}
use Rattle.mig_corresp.proofs.coding.places_to.Goals as goal

pub loop-n-preserved : goal.loop-n-preserved
loop-n-preserved c =
    let none : ColPair = record { source = record { table = 0; column = 0 }; target = record { table = 0; column = 0 } } in
    grind (arith, common_steps, places_more (comes_to c.args.column) c.args.pairs.now c.loop-n.n none (omega arith))
