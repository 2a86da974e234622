-- The first entry that is broken, else an entry too many.
use Rattle.std.proofs.Common.{ℕ, ◌∷◌, subst, arith, length}
use Rattle.std.proofs.lemmas.Bool.{lt-ltb, le-ltb}
use Rattle.mig_typing.specs.First.{IsFirst}
use Rattle.mig_obligations.specs.Pairs.{sides_of}
use Rattle.mig_obligations.specs.Obligations.{obligations}
use Rattle.mig_checker.specs.declared.places.InEntry.{InEntry}
use Rattle.mig_checker.specs.Inside.{entry_numbers, entry_at_broken}
use Rattle.mig_checker.proofs.InPairs.{entry-first, extra-first, entries-clear}
use Rattle.mig_checker.proofs.pairs.first_in_entries.Goals as goal

pub returns-in-Some : goal.returns-in-Some
returns-in-Some c =
    let p = sides_of c.args.facts.now.pair.now in
    let invs = c.args.facts.now.invariants.now.list in
    let es = c.args.entries.now in
    entry-first p invs es c.in-Some.found.0 c.in-Some.found.1
    (subst (IsFirst (λ (q : ℕ × InEntry). q.0 ∷ entry_numbers q.1) (λ q. entry_at_broken p invs es q.0 q.1)) c.in-Some.is c.in_ok-found.ensures)

pub returns-then-count_of-len : goal.returns-then-count_of-len
returns-then-count_of-len c =
    let p = sides_of c.args.facts.now.pair.now in
    let invs = c.args.facts.now.invariants.now.list in
    let es = c.args.entries.now in
    extra-first p invs es
    (subst (IsFirst (λ (q : ℕ × InEntry). q.0 ∷ entry_numbers q.1) (λ q. entry_at_broken p invs es q.0 q.1)) c.in-None.is c.in_ok-found.ensures)
    (lt-ltb (length (obligations invs p.source_fn.body p.target_fn.body)) (length es) (omega (arith, c.count_of.ensures, c.len.ensures, c.if-count_of-len.true)))

pub returns-else-count_of-len : goal.returns-else-count_of-len
returns-else-count_of-len c =
    let p = sides_of c.args.facts.now.pair.now in
    let invs = c.args.facts.now.invariants.now.list in
    let es = c.args.entries.now in
    entries-clear p invs es
    (subst (IsFirst (λ (q : ℕ × InEntry). q.0 ∷ entry_numbers q.1) (λ q. entry_at_broken p invs es q.0 q.1)) c.in-None.is c.in_ok-found.ensures)
    (le-ltb (length (obligations invs p.source_fn.body p.target_fn.body)) (length es) (omega (arith, c.count_of.ensures, c.len.ensures, c.if-count_of-len.false)))
