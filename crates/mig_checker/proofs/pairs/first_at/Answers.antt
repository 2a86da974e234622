-- The entry of a number is broken where the entry that is there is.
use Rattle.std.proofs.Common.{sym, ◌∙◌}
use Rattle.std.proofs.lemmas.Result.{IfOk-weaker}
use Rattle.mig_typing.specs.First.{IsFirst}
use Rattle.mig_obligations.specs.Pairs.{sides_of}
use Rattle.mig_checker.specs.Inside.{entry_numbers, entry_broken, entry_at_broken}
use Rattle.mig_checker.proofs.InPairs.{entry-there}
use Rattle.mig_checker.proofs.pairs.first_at.Goals as goal

pub returns-in-Some-get : goal.returns-in-Some-get
returns-in-Some-get c =
    let p = sides_of c.args.facts.now.pair.now in
    let invs = c.args.facts.now.invariants.now.list in
    IfOk-weaker c.first_in_entry.result
    (IsFirst entry_numbers (entry_broken p invs c.in_ok-claim.claim c.in-Some.obligation c.in-Some-get.entry.now))
    (IsFirst entry_numbers (entry_at_broken p invs c.args.entries.now c.args.k))
    (λ r f. entry-there p invs c.args.entries.now c.args.k c.in_ok-claim.claim c.in-Some.obligation c.in-Some-get.entry.now r c.in_ok-claim.ensures (sym c.in_ok-obligation.ensures ∙ c.in-Some.is) (sym c.in-Some-get.ensures.value) f)
    c.first_in_entry.ensures
