-- The claim is the right one; the first block that is stuck, or the ends, decide.
use Rattle.std.proofs.Common.{◌+◌, sym, ap, ◌∙◌, subst, Some}
use Rattle.mig_typing.specs.First.{IsFirst}
use Rattle.mig_obligations.specs.Pairs.{sides_of}
use Rattle.mig_checker.specs.declared.places.InEntry.TheVariants.{Step}
use Rattle.mig_checker.specs.Inside.{entry_numbers, entry_broken}
use Rattle.mig_checker.proofs.Walks.{walk-end, walk-stuck}
use Rattle.mig_checker.proofs.EntryPlaces.{old-first, new-first, ends-first, none-first}
use Rattle.mig_checker.proofs.entries.first_in_entry.Goals as goal

pub returns-in-Stuck : goal.returns-in-Stuck
returns-in-Stuck c =
    let p = sides_of c.args.facts.now.pair.now in
    let invs = c.args.facts.now.invariants.now.list in
    old-first p invs c.args.claim c.args.obligation c.args.entry.now c.in-Stuck.s
    (sym c.same_claim.ensures ∙ c.if-not-same_claim.false)
    (walk-stuck p invs c.as_slice.result.now c.args.entry.now.source c.args.obligation.source c.in-Stuck.s c.in_ok-s.field-0 c.in_ok-s.ensures c.as_slice.ensures c.in-Stuck.is)

pub returns-in-Stuck-2 : goal.returns-in-Stuck-2
returns-in-Stuck-2 c =
    let p = sides_of c.args.facts.now.pair.now in
    let invs = c.args.facts.now.invariants.now.list in
    let o = c.args.obligation in
    let e = c.args.entry.now in
    subst (λ q. IsFirst entry_numbers (entry_broken p invs c.args.claim o e) (Some q))
    (ap (λ n. Step (n + c.in-Stuck-2.s)) (sym c.len.ensures) ∙ sym c.in_ok-numbered_on-in-Stuck-2.ensures)
    (new-first p invs c.args.claim o e c.in-End.end c.in-Stuck-2.s
    (sym c.same_claim.ensures ∙ c.if-not-same_claim.false)
    (walk-end p invs c.as_slice.result.now e.source o.source c.in-End.end c.in_ok-s.field-0 c.in_ok-s.ensures c.as_slice.ensures c.in-End.is)
    (walk-stuck p invs c.as_slice-2.result.now e.target o.target c.in-Stuck-2.s c.in_ok-s-2.field-0 c.in_ok-s-2.ensures c.as_slice-2.ensures c.in-Stuck-2.is))

pub returns-then-branch : goal.returns-then-branch
returns-then-branch c =
    let p = sides_of c.args.facts.now.pair.now in
    let invs = c.args.facts.now.invariants.now.list in
    let o = c.args.obligation in
    let e = c.args.entry.now in
    none-first p invs c.args.claim o e c.in-End.end c.in-End-2.end
    (sym c.same_claim.ensures ∙ c.if-not-same_claim.false)
    (walk-end p invs c.as_slice.result.now e.source o.source c.in-End.end c.in_ok-s.field-0 c.in_ok-s.ensures c.as_slice.ensures c.in-End.is)
    (walk-end p invs c.as_slice-2.result.now e.target o.target c.in-End-2.end c.in_ok-s-2.field-0 c.in_ok-s-2.ensures c.as_slice-2.ensures c.in-End-2.is)
    (sym c.in_ok-meet.ensures ∙ c.if-branch.true)

pub returns : goal.returns
returns c =
    let p = sides_of c.args.facts.now.pair.now in
    let invs = c.args.facts.now.invariants.now.list in
    let o = c.args.obligation in
    let e = c.args.entry.now in
    ends-first p invs c.args.claim o e c.in-End.end c.in-End-2.end
    (sym c.same_claim.ensures ∙ c.if-not-same_claim.false)
    (walk-end p invs c.as_slice.result.now e.source o.source c.in-End.end c.in_ok-s.field-0 c.in_ok-s.ensures c.as_slice.ensures c.in-End.is)
    (walk-end p invs c.as_slice-2.result.now e.target o.target c.in-End-2.end c.in_ok-s-2.field-0 c.in_ok-s-2.ensures c.as_slice-2.ensures c.in-End-2.is)
    (sym c.in_ok-meet.ensures ∙ c.if-branch.false)
