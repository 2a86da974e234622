use Rattle.std.proofs.Common.{◌≡◌, ◌≤◌, Some, None, length, arith}
use Rattle.std.proofs.lemmas.Bool.{MatchBool-at_true}
use Rattle.mig_maxsat.specs.Scouting.{tried}
use Rattle.mig_maxsat.proofs.Reaching.{reached_small, reached_floor, work-tried}
use Rattle.mig_maxsat.proofs.scouting.scout.Goals as goal

pub returns-then-not-branch-clause-small : goal.returns-then-not-branch-clause-small
returns-then-not-branch-clause-small c = reached_small c.args.problem.now c.in_ok-reached.reached c.requires.sound c.in_ok-reached.ensures

pub loop-agenda-smaller : goal.loop-agenda-smaller
loop-agenda-smaller c =
    let ws = c.args.problem.now.weights in
    let room : length c.try_on.new.trail.steps ≤ c.args.problem.now.hard.vars = omega (arith, c.len.ensures.is, c.len.ensures.most, c.in_ok-try_on.ensures.size, c.loop-agenda.invariant.size) in
    let some : tried c.as_slice.result.now c.in_ok-seen.seen c.loop-agenda.trail.steps ≡ Some c.try_on.new.trail.steps = MatchBool-at_true (tried c.as_slice.result.now c.in_ok-seen.seen c.loop-agenda.trail.steps ≡ Some c.try_on.new.trail.steps) (tried c.as_slice.result.now c.in_ok-seen.seen c.loop-agenda.trail.steps ≡ None) c.if-not-branch.false c.in_ok-try_on.ensures.on in
    work-tried c.as_slice.result.now c.args.problem.now.hard.vars c.loop-agenda.trail.steps c.try_on.new.trail.steps c.in_ok-seen.seen c.loop-agenda.invariant.room room some

pub loop-agenda-preserved : goal.loop-agenda-preserved
loop-agenda-preserved c = record {
  size = omega (arith, c.in_ok-try_on.ensures.size, c.loop-agenda.invariant.size);
  room = omega (arith, c.len.ensures.is, c.len.ensures.most, c.in_ok-try_on.ensures.size, c.loop-agenda.invariant.size);
  reached = c.in_ok-reached.ensures;
  floor = reached_floor c.args.problem.now c.in_ok-reached.reached c.requires.sound c.in_ok-reached.ensures;
}
