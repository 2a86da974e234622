use Rattle.std.proofs.Common.{◌≡◌, ◌≤◌, Some, None, [], length, refl, sym, subst, arith}
use Rattle.std.proofs.lemmas.Bool.{MatchBool-at_true, MatchBool-at_false}
use Rattle.mig_sat.specs.Steps.{IsRight}
use Rattle.mig_sat.specs.Found.{advanced}
use Rattle.mig_sat.proofs.Heeding.{IsHeeded, heeded_first, heeded_advanced}
use Rattle.mig_sat.proofs.Progress.{none_advanced, right_advanced, work-advanced}
use Rattle.mig_maxsat.specs.Rivals.{IsRival}
use Rattle.mig_maxsat.proofs.Rivalry.{answer_some, answer_none, held_floor}
use Rattle.mig_maxsat.proofs.heaviest.heaviest_above.Goals as goal

pub returns-then-not-branch-clause-heaviest : goal.returns-then-not-branch-clause-heaviest
returns-then-not-branch-clause-heaviest c =
    let p = c.args.problem.now in
    let settled = c.in_ok-held.ensures in
    let none : advanced c.in_ok-seen.seen c.loop-held.trail.steps ≡ None = MatchBool-at_false (advanced c.in_ok-seen.seen c.loop-held.trail.steps ≡ Some c.advance.new.trail.steps) (advanced c.in_ok-seen.seen c.loop-held.trail.steps ≡ None) c.if-not-branch.true c.in_ok-advance.ensures.on in
    answer_some p c.args.floor c.in_ok-held.held.floor c.in_ok-held.held.model (settled.kept c.args.floor c.loop-held.invariant.kept) (none_advanced p.hard.clauses p.hard.vars (IsRival p c.in_ok-held.held.floor) c.loop-held.trail.steps c.in_ok-seen.seen settled.right settled.so settled.full none)

pub returns-then-not-branch-clause-none : goal.returns-then-not-branch-clause-none
returns-then-not-branch-clause-none c =
    let p = c.args.problem.now in
    let settled = c.in_ok-held.ensures in
    let none : advanced c.in_ok-seen.seen c.loop-held.trail.steps ≡ None = MatchBool-at_false (advanced c.in_ok-seen.seen c.loop-held.trail.steps ≡ Some c.advance.new.trail.steps) (advanced c.in_ok-seen.seen c.loop-held.trail.steps ≡ None) c.if-not-branch.true c.in_ok-advance.ensures.on in
    answer_none p c.args.floor c.in_ok-held.held.floor c.in_ok-held.held.model (settled.kept c.args.floor c.loop-held.invariant.kept) (none_advanced p.hard.clauses p.hard.vars (IsRival p c.in_ok-held.held.floor) c.loop-held.trail.steps c.in_ok-seen.seen settled.right settled.so settled.full none)

pub loop-held-smaller : goal.loop-held-smaller
loop-held-smaller c =
    let room : length c.advance.new.trail.steps ≤ c.args.problem.now.hard.vars = omega (arith, c.len.ensures.is, c.len.ensures.most, c.in_ok-advance.ensures.size, c.loop-held.invariant.size) in
    let some : advanced c.in_ok-seen.seen c.loop-held.trail.steps ≡ Some c.advance.new.trail.steps = MatchBool-at_true (advanced c.in_ok-seen.seen c.loop-held.trail.steps ≡ Some c.advance.new.trail.steps) (advanced c.in_ok-seen.seen c.loop-held.trail.steps ≡ None) c.if-not-branch.false c.in_ok-advance.ensures.on in
    work-advanced c.args.problem.now.hard.vars c.loop-held.trail.steps c.advance.new.trail.steps c.in_ok-seen.seen c.loop-held.invariant.room room some

pub loop-held-init : goal.loop-held-init
loop-held-init c =
    let p = c.args.problem.now in
    let steps : c.in_ok-trail.trail.steps ≡ [] = c.in_ok-trail.ensures.1 in
    record {
      size = c.in_ok-trail.ensures.0;
      room = rw steps (omega arith);
      right = subst (IsRight p.hard.vars (IsRival p c.args.floor)) (sym steps) tt;
      kept = refl;
      floor = c.requires.floor;
      heeded = subst (IsHeeded p.hard c.in_ok-agenda.agenda) (sym steps) (heeded_first p.hard c.in_ok-agenda.agenda c.in_ok-agenda.ensures.count c.in_ok-agenda.ensures.lists c.in_ok-agenda.ensures.all);
    }

pub loop-held-preserved : goal.loop-held-preserved
loop-held-preserved c =
    let p = c.args.problem.now in
    let settled = c.in_ok-held.ensures in
    let kept = settled.kept c.args.floor c.loop-held.invariant.kept in
    let some : advanced c.in_ok-seen.seen c.loop-held.trail.steps ≡ Some c.advance.new.trail.steps = MatchBool-at_true (advanced c.in_ok-seen.seen c.loop-held.trail.steps ≡ Some c.advance.new.trail.steps) (advanced c.in_ok-seen.seen c.loop-held.trail.steps ≡ None) c.if-not-branch.false c.in_ok-advance.ensures.on in
    let right = right_advanced p.hard.clauses p.hard.vars (IsRival p c.in_ok-held.held.floor) c.loop-held.trail.steps c.advance.new.trail.steps c.in_ok-seen.seen settled.right settled.so settled.full some in
    record {
      size = omega (arith, c.in_ok-advance.ensures.size, c.loop-held.invariant.size);
      room = omega (arith, c.len.ensures.is, c.len.ensures.most, c.in_ok-advance.ensures.size, c.loop-held.invariant.size);
      right = right;
      kept = kept;
      floor = held_floor p c.args.floor c.in_ok-held.held.floor c.in_ok-held.held.model c.requires.sound c.requires.floor kept;
      heeded = heeded_advanced p.hard (IsRival p c.in_ok-held.held.floor) c.loop-held.agenda c.look_ahead.new.agenda c.shorten.new.self c.len.result c.loop-held.trail.steps c.advance.new.trail.steps c.in_ok-seen.seen c.loop-held.invariant.heeded c.look_ahead.ensures.lists c.in_ok-seen.ensures.heeded some right c.shorten.ensures.lists (sym c.len.ensures.is) c.shorten.ensures.pending;
    }
