use Rattle.std.proofs.Common.{◌<◌, true, false, length, sym, ◌∙◌, subst, arith}
use Rattle.std.specs.Prelude.{None}
use Rattle.mig_listing.specs.Choices.{numbers}
use Rattle.mig_meaning.specs.Lists.{Each}
use Rattle.mig_storage.specs.VecMeaning.{meaning_of}
use Rattle.mig_failing.specs.Made.{invocations}
use Rattle.mig_failing.specs.Playing.{CanBeAsked, IsAfter, IsAsked}
use Rattle.mig_failing.proofs.AllLists.{nth_number, walked_all, walks_as, with_updates}
use Rattle.mig_failing.proofs.Asked.{all_asked}
use Rattle.mig_failing.proofs.Walked.{each_done, each_found, each_more}
use Rattle.mig_failing.proofs.failing.first_failing.Goals as goal

pub walk-requires-clause-updates : goal.walk-requires-clause-updates
walk-requires-clause-updates c =
    let can : CanBeAsked c.args.job.now c.args.program.now = record { old = c.requires.old; new = c.requires.new; within = c.requires.within; within_new = c.requires.within_new; functions = c.requires.functions } in
    subst (Each (IsAsked false c.args.job.now c.args.program.now)) (sym (c.as_slice.ensures ∙ c.in_ok-updates.ensures)) (all_asked c.args.job.now c.args.program.now false can)

pub walk-requires-clause-queries : goal.walk-requires-clause-queries
walk-requires-clause-queries c =
    let can : CanBeAsked c.args.job.now c.args.program.now = record { old = c.requires.old; new = c.requires.new; within = c.requires.within; within_new = c.requires.within_new; functions = c.requires.functions } in
    subst (Each (IsAsked true c.args.job.now c.args.program.now)) (sym (c.as_slice-2.ensures ∙ c.in_ok-queries.ensures)) (all_asked c.args.job.now c.args.program.now true can)

pub walk-requires-clause-old : goal.walk-requires-clause-old
walk-requires-clause-old c = subst (λ cs. IsAfter c.args.job.now.source c.args.job.now.program cs (meaning_of c.in_ok-played.played.source)) (sym c.in_ok-played.ensures.calls) (c.in_ok-played.ensures.old c.args.job.now.program)

pub walk-requires-clause-new : goal.walk-requires-clause-new
walk-requires-clause-new c = subst (λ cs. IsAfter c.args.job.now.target c.args.program.now cs (meaning_of c.in_ok-played.played.target)) (sym c.in_ok-played.ensures.calls) (c.in_ok-played.ensures.new c.args.program.now)

pub returns-then-is_some : goal.returns-then-is_some
returns-then-is_some c =
    let job = c.args.job.now in
    let p = c.args.program.now in
    let k = c.loop-many.many in
    let l : k < length (numbers 4) = omega (arith, c.loop-many-test.true) in
    walked_all job p c.args.tests c.walk.new.left c.in_ok-found.found
    (each_found job p (with_updates job) (numbers 4) k c.args.tests c.loop-many.left c.walk.new.left k l (nth_number k (omega (arith, c.loop-many-test.true))) c.loop-many.invariant c.in_ok-found.found (sym c.is_some.ensures ∙ c.if-is_some.true)
    (walks_as job p c.as_slice.result.now (invocations job.program false) c.as_slice-2.result.now (invocations job.program true) c.in_ok-played.played.calls k c.loop-many.left c.walk.new.left c.in_ok-found.found (c.as_slice.ensures ∙ c.in_ok-updates.ensures) (c.as_slice-2.ensures ∙ c.in_ok-queries.ensures) c.in_ok-played.ensures.calls c.in_ok-found.ensures))

pub loop-many-preserved : goal.loop-many-preserved
loop-many-preserved c =
    let job = c.args.job.now in
    let p = c.args.program.now in
    let k = c.loop-many.many in
    let l : k < length (numbers 4) = omega (arith, c.loop-many-test.true) in
    each_more job p (with_updates job) (numbers 4) k c.args.tests c.loop-many.left c.walk.new.left k l (nth_number k (omega (arith, c.loop-many-test.true))) c.loop-many.invariant c.in_ok-found.found (sym c.is_some.ensures ∙ c.if-is_some.false)
    (walks_as job p c.as_slice.result.now (invocations job.program false) c.as_slice-2.result.now (invocations job.program true) c.in_ok-played.played.calls k c.loop-many.left c.walk.new.left c.in_ok-found.found (c.as_slice.ensures ∙ c.in_ok-updates.ensures) (c.as_slice-2.ensures ∙ c.in_ok-queries.ensures) c.in_ok-played.ensures.calls c.in_ok-found.ensures)

pub returns : goal.returns
returns c =
    let job = c.args.job.now in
    let p = c.args.program.now in
    walked_all job p c.args.tests c.loop-many.left None
    (each_done job p (with_updates job) (numbers 4) c.loop-many.many c.args.tests c.loop-many.left (omega (arith, c.loop-many-test.false, c.loop-many.auto.many-end)) c.loop-many.invariant)
