-- The first pair that is broken is the one before which none is.
use Rattle.std.proofs.Common.{arith, subst}
use Rattle.mig_typing.specs.First.{IsFirst}
use Rattle.mig_certificate.specs.BrokenPlace.{broken}
use Rattle.mig_checker.specs.Inside.{pair_numbers, at_pair}
use Rattle.mig_checker.proofs.InPairs.{past-functions}
use Rattle.mig_checker.proofs.Loops.{none-up-to, none-found}
use Rattle.mig_checker.proofs.pairs.first_pair.Goals as goal

pub loop-i-preserved : goal.loop-i-preserved
loop-i-preserved c =
    none-up-to pair_numbers (λ i q. broken c.args.job.now c.args.program.now c.args.certificate.now (at_pair i q)) c.loop-i.i c.loop-i.invariant
    (subst (IsFirst pair_numbers (λ q. broken c.args.job.now c.args.program.now c.args.certificate.now (at_pair c.loop-i.i q))) c.in-None.is c.in_ok-place.ensures)

pub returns : goal.returns
returns c =
    none-found pair_numbers (λ i q. broken c.args.job.now c.args.program.now c.args.certificate.now (at_pair i q)) c.loop-i.i c.loop-i.invariant
    (λ j q l. past-functions c.args.job.now c.args.program.now c.args.certificate.now j (omega (arith, l, c.loop-i-test.false, c.len-i-end.ensures)) q)
