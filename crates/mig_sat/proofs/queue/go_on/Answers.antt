use Rattle.std.proofs.Common.{get_or, sym, ◌∙◌, arith}
use Rattle.std.specs.Prelude.{slice_get}
use Rattle.std.proofs.lemmas.Option.{slice_get-get_or}
use Rattle.mig_sat.specs.Saying.{IsSaid, IsSilent}
use Rattle.mig_sat.proofs.Ahead.{at_none, silent_more, stops_behind}
use Rattle.mig_sat.proofs.queue.go_on.Goals as goal

pub loop-index-init : goal.loop-index-init
loop-index-init c = record { least = omega arith; before = λ i n le lt. absurd (omega (arith, le, lt)) }

pub loop-index-preserved : goal.loop-index-preserved
loop-index-preserved c =
    let clauses = c.args.cnf.now.clauses in
    let steps = c.args.trail.now.steps in
    let number = get_or c.args.list.now c.loop-index.index 0 in
    let here = slice_get-get_or c.args.list.now c.loop-index.index 0 c.loop-index-test.true in
    let silent = at_none c.told-found.result (IsSilent steps (slice_get clauses number)) (λ f. IsSaid steps (slice_get clauses number) f) c.told-found.ensures.said (sym c.is_some.ensures ∙ c.if-is_some.false) in
    let least = c.loop-index.invariant.least in
    record {
      least = omega (arith, least);
      before = silent_more clauses steps c.args.list.now c.args.at.now c.loop-index.index number c.loop-index.invariant.before here silent;
    }

pub returns-then-is_some-clause-said : goal.returns-then-is_some-clause-said
returns-then-is_some-clause-said c =
    let here = slice_get-get_or c.args.list.now c.loop-index.index 0 c.loop-index-test.true in
    stops_behind c.args.cnf.now.clauses c.args.trail.now.steps c.args.list.now c.args.at.now c.loop-index.index (get_or c.args.list.now c.loop-index.index 0) c.told-found.result c.loop-index.invariant.before c.loop-index.invariant.least here c.told-found.ensures.said (sym c.is_some.ensures ∙ c.if-is_some.true)

pub returns-clause-said : goal.returns-clause-said
returns-clause-said c = λ i n le lt. c.loop-index.invariant.before i n le (omega (arith, lt, c.loop-index-test.false))
