-- A step that follows is one more, and one that doesn't is the first.
use Rattle.std.proofs.Common.{refl, length}
use Rattle.std.proofs.lemmas.Option.{slice_get_read}
use Rattle.mig_obligations.specs.Pairs.{sides_of}
use Rattle.mig_checker.proofs.Walks.{step-more, stuck-at}
use Rattle.mig_checker.proofs.walking.follow_all.Goals as goal

pub returns-in-Err-NoFollow : goal.returns-in-Err-NoFollow
returns-in-Err-NoFollow c =
    stuck-at (sides_of c.args.facts.now.pair.now) c.args.facts.now.invariants.now.list c.args.steps.now c.loop-s.s c.args.start c.loop-s.current c.index-steps-s.result c.loop-s.invariant
    (slice_get_read c.args.steps.now (length c.args.steps.now) c.loop-s.s c.index-steps-s.result refl c.loop-s-test.true c.index-steps-s.is)
    (c.in-Err-NoFollow.ensures c.in-Err-NoFollow.field-0-is)

pub loop-s-preserved : goal.loop-s-preserved
loop-s-preserved c =
    step-more (sides_of c.args.facts.now.pair.now) c.args.facts.now.invariants.now.list c.args.steps.now c.loop-s.s c.args.start c.loop-s.current c.in-Ok.next c.index-steps-s.result c.loop-s.invariant
    (slice_get_read c.args.steps.now (length c.args.steps.now) c.loop-s.s c.index-steps-s.result refl c.loop-s-test.true c.index-steps-s.is)
    c.in-Ok.ensures
