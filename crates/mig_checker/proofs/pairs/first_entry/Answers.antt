-- The first entry that is broken is the one before which none is.
use Rattle.std.proofs.Common.{arith, subst}
use Rattle.mig_typing.specs.First.{IsFirst}
use Rattle.mig_obligations.specs.Pairs.{sides_of}
use Rattle.mig_checker.specs.Inside.{entry_numbers, entry_at_broken}
use Rattle.mig_checker.proofs.InPairs.{past-obligations}
use Rattle.mig_checker.proofs.Loops.{none-up-to, none-found}
use Rattle.mig_checker.proofs.pairs.first_entry.Goals as goal

pub loop-k-preserved : goal.loop-k-preserved
loop-k-preserved c =
    let at = entry_at_broken (sides_of c.args.facts.now.pair.now) c.args.facts.now.invariants.now.list c.args.entries.now in
    none-up-to entry_numbers at c.loop-k.k c.loop-k.invariant (subst (IsFirst entry_numbers (at c.loop-k.k)) c.in-None.is c.in_ok-place.ensures)

pub returns : goal.returns
returns c =
    let p = sides_of c.args.facts.now.pair.now in
    let invs = c.args.facts.now.invariants.now.list in
    none-found entry_numbers (entry_at_broken p invs c.args.entries.now) c.loop-k.k c.loop-k.invariant
    (λ j q l. past-obligations p invs c.args.entries.now j (omega (arith, l, c.loop-k-test.false, c.count_of-k-end.ensures)) q)
