use Rattle.std.proofs.Common.{List, ℕ, sym, subst, arith}
use Rattle.mig_obligations.specs.Pairs.{sides_of}
use Rattle.mig_rules.specs.Quiet.{AreQuiet}
use Rattle.mig_rules.proofs.Silent.{quiet-first, silent-first, quiet-marked}
use Rattle.mig_rules.proofs.resuming.first_where.Goals as goal

pub returns-then-number-known-clause-step : goal.returns-then-number-known-clause-step
returns-then-number-known-clause-step c =
    sym (quiet-first (sides_of c.args.facts.now.pair.now) c.args.facts.now.invariants.now.list c.args.expr.now c.args.quiet.now.items c.args.rule c.args.n c.requires
    (omega (arith, c.if-number-known.true, c.known_of-known.ensures, c.number_of-number.ensures.number)))

pub returns-then-silent-clause-step : goal.returns-then-silent-clause-step
returns-then-silent-clause-step c =
    let s = c.in_ok-silent.ensures c.if-silent.true in
    sym (silent-first (sides_of c.args.facts.now.pair.now) c.args.facts.now.invariants.now.list c.args.expr.now c.args.rule c.args.n c.in-Some.tail.term.now c.in-Some.ensures.1 (omega (arith, s.0, c.number_of-number.ensures.number)) s.1)

pub returns-then-silent-clause-quiet : goal.returns-then-silent-clause-quiet
returns-then-silent-clause-quiet c =
    let s = c.in_ok-silent.ensures c.if-silent.true in
    subst (λ (qs : List ℕ). AreQuiet (sides_of c.args.facts.now.pair.now) c.args.facts.now.invariants.now.list qs c.args.expr.now.terms) (sym c.mark.ensures)
    (quiet-marked (sides_of c.args.facts.now.pair.now) c.args.facts.now.invariants.now.list c.args.quiet.now.items c.args.expr.now.terms c.args.rule c.args.n c.number_of-number.result c.in-Some.tail.term.now c.requires c.in-Some.ensures.1 c.number_of-number.ensures.number (omega (arith, s.0, c.number_of-number.ensures.number)) s.1)
