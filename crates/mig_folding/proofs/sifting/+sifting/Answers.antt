use Rattle.std.proofs.Common.{◌∙◌, arith}
use Rattle.mig_steps.proofs.ChosenSteps.{chosen-ends}
use Rattle.mig_folding.proofs.sifting.+sifting.Goals as goal

pub sifted-returns : goal.sifted-returns
sifted-returns g t c =
    chosen-ends (g.T.Sieve.may c.args.test.now) c.args.n c.args.count c.args.before.now c.as_slice-x-items.result.now c.loop-x.x-index c.loop-x.all.items
    (omega arith) (c.as_slice-x-items.ensures ∙ c.in_ok-offered.ensures) (omega arith) c.loop-x.invariant
