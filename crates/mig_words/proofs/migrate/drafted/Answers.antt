use Rattle.std.proofs.Common.{◌≤◌, refl, arith}
use Rattle.std.proofs.lemmas.Result.{err_from_is_err_and}
use Rattle.mig_words.proofs.Stepping.{low, stepped, stopped}
use Rattle.mig_words.proofs.migrate.drafted.Goals as goal

pub overflow_cast-i : goal.overflow_cast-i
overflow_cast-i c =
    let n : c.loop-i.i ≤ 8 = low c.args.words.now c.loop-i.i c.index-words-i.result c.loop-i.draft c.loop-i-test.true c.index-words-i.is c.loop-i.invariant in omega (arith, n)

pub overflow_add-i : goal.overflow_add-i
overflow_add-i c =
    let n : c.loop-i.i ≤ 8 = low c.args.words.now c.loop-i.i c.index-words-i.result c.loop-i.draft c.loop-i-test.true c.index-words-i.is c.loop-i.invariant in omega (arith, n)

pub returns-in_err-take-clause-fault : goal.returns-in_err-take-clause-fault
returns-in_err-take-clause-fault c =
    let p = err_from_is_err_and c.from_residual.result c.from_residual.ensures.1 in
    rw (p.1, p.2)
    (stopped c.args.words.now c.loop-i.i c.index-words-i.result c.loop-i.draft c.loop-i-test.true c.index-words-i.is c.loop-i.invariant _ c.in_err-take.field-0.0 refl c.in_err-take.ensures.refused)

pub loop-i-preserved : goal.loop-i-preserved
loop-i-preserved c =
    stepped c.args.words.now c.loop-i.i c.index-words-i.result c.loop-i.draft c.loop-i-test.true c.index-words-i.is c.loop-i.invariant c.take.new.self c.in_ok-take.ensures.taken
