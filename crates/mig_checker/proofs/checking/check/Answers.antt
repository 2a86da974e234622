-- The verdict at the first broken place, or that there is none.
use Rattle.std.proofs.Common.{ap, refl, subst, arith, length}
use Rattle.std.proofs.lemmas.Bool.{lt-ltb}
use Rattle.mig_rules.specs.Keeping.{FollowLaw}
use Rattle.mig_rules.proofs.FollowSound.{follow-law}
use Rattle.mig_certificate.specs.BrokenPlace.{FunctionDiffers, InvariantUnshaped, PairExtra}
use Rattle.mig_checker.specs.declared.verdicts.Verdict.TheVariants.{Accepted, Rejected}
use Rattle.mig_checker.specs.declared.verdicts.Why.TheVariants as why
use Rattle.mig_checker.specs.Inside.{at_pair}
use Rattle.mig_checker.specs.Verdict.{verdict_at}
use Rattle.mig_checker.proofs.Assembled.{Pairs, functions-first, unshaped-first, pair-first, extra-last, verdict-means}
use Rattle.mig_checker.proofs.OneVerdict.{one-verdict}
use Rattle.mig_checker.proofs.Answered.{answered-at, answered-one, nothing-broken}
use Rattle.mig_checker.proofs.checking.check.Goals as goal

-- the law of steps
law : FollowLaw
law = follow-law

-- ---- a function differs

pub returns-in-Some-clause-verdict : goal.returns-in-Some-clause-verdict
returns-in-Some-clause-verdict c =
    let j = c.args.job.now in
    let p = c.args.program.now in
    let x = c.args.certificate.now in
    answered-at j p x (FunctionDiffers c.in-Some.n) c.rejected.result (Rejected c.in-Some.n 0 0 why.Shape) c.rejected.ensures refl (functions-first j p x c.in-Some.n c.in-Some.ensures)

pub returns-in-Some-clause-only : goal.returns-in-Some-clause-only
returns-in-Some-clause-only c = answered-one c.args.job.now c.args.program.now c.args.certificate.now c.rejected.result (returns-in-Some-clause-verdict c)

-- ---- an invariant is not shaped

pub returns-in-Some-first_unshaped-clause-verdict : goal.returns-in-Some-first_unshaped-clause-verdict
returns-in-Some-first_unshaped-clause-verdict c =
    let j = c.args.job.now in
    let p = c.args.program.now in
    let x = c.args.certificate.now in
    let k = c.in-Some-first_unshaped.k in
    answered-at j p x (InvariantUnshaped k) c.rejected-in-Some-first_unshaped.result (Rejected c.len-count.result k 0 why.Shape) c.rejected-in-Some-first_unshaped.ensures (ap (λ n. Rejected n k 0 why.Shape) c.len-count.ensures)
    (unshaped-first j p x c.in_default.ensures k c.in-Some-first_unshaped.ensures)

pub returns-in-Some-first_unshaped-clause-only : goal.returns-in-Some-first_unshaped-clause-only
returns-in-Some-first_unshaped-clause-only c = answered-one c.args.job.now c.args.program.now c.args.certificate.now c.rejected-in-Some-first_unshaped.result (returns-in-Some-first_unshaped-clause-verdict c)

-- ---- a pair is broken

pub returns-in-Some-2-clause-verdict : goal.returns-in-Some-2-clause-verdict
returns-in-Some-2-clause-verdict c =
    let j = c.args.job.now in
    let p = c.args.program.now in
    let x = c.args.certificate.now in
    let i = c.in-Some-2.found.0 in
    let q = c.in-Some-2.found.1 in
    answered-at j p x (at_pair i q) c.rejected_at.result (verdict_at j p x (at_pair i q)) c.rejected_at.ensures refl
    (pair-first j p x c.in_default.ensures c.in_default-first_unshaped.ensures i q (subst (Pairs j p x) c.in-Some-2.is c.in_ok-found.ensures))

pub returns-in-Some-2-clause-only : goal.returns-in-Some-2-clause-only
returns-in-Some-2-clause-only c = answered-one c.args.job.now c.args.program.now c.args.certificate.now c.rejected_at.result (returns-in-Some-2-clause-verdict c)

-- ---- a pair too many

pub returns-then-count-len-clause-verdict : goal.returns-then-count-len-clause-verdict
returns-then-count-len-clause-verdict c =
    let j = c.args.job.now in
    let p = c.args.program.now in
    let x = c.args.certificate.now in
    answered-at j p x PairExtra c.rejected-then-count-len.result (Rejected c.len-count.result 0 0 why.Extra) c.rejected-then-count-len.ensures (ap (λ n. Rejected n 0 0 why.Extra) c.len-count.ensures)
    (extra-last j p x c.in_default.ensures c.in_default-first_unshaped.ensures (subst (Pairs j p x) c.in_default-2.is c.in_ok-found.ensures)
    (lt-ltb (length j.program.functions) (length x.pairs) (omega (arith, c.len.ensures, c.len-count.ensures, c.if-count-len.true))))

pub returns-then-count-len-clause-only : goal.returns-then-count-len-clause-only
returns-then-count-len-clause-only c = answered-one c.args.job.now c.args.program.now c.args.certificate.now c.rejected-then-count-len.result (returns-then-count-len-clause-verdict c)

-- ---- nothing is broken

pub returns-clause-verdict : goal.returns-clause-verdict
returns-clause-verdict c =
    nothing-broken c.args.job.now c.args.program.now c.args.certificate.now c.in_default.ensures c.in_default-first_unshaped.ensures c.in_ok-found.field-0 c.in_ok-found.ensures c.in_default-2.is c.len-count.result c.len.result c.len-count.ensures c.len.ensures c.if-count-len.false

pub returns-clause-only : goal.returns-clause-only
returns-clause-only c =
    λ v k. one-verdict c.args.job.now c.args.program.now c.args.certificate.now Accepted v
    (nothing-broken c.args.job.now c.args.program.now c.args.certificate.now c.in_default.ensures c.in_default-first_unshaped.ensures c.in_ok-found.field-0 c.in_ok-found.ensures c.in_default-2.is c.len-count.result c.len.result c.len-count.ensures c.len.ensures c.if-count-len.false) k

pub returns-clause-means : goal.returns-clause-means
returns-clause-means c =
    verdict-means c.args.job.now c.args.program.now c.args.certificate.now law Accepted
    (nothing-broken c.args.job.now c.args.program.now c.args.certificate.now c.in_default.ensures c.in_default-first_unshaped.ensures c.in_ok-found.field-0 c.in_ok-found.ensures c.in_default-2.is c.len-count.result c.len.result c.len-count.ensures c.len.ensures c.if-count-len.false)
