-- The pair of a number is broken where the entries of its proof are.
use Rattle.std.proofs.Common.{sym}
use Rattle.std.proofs.lemmas.Result.{IfOk-weaker}
use Rattle.mig_typing.specs.First.{IsFirst}
use Rattle.mig_certificate.specs.Valid.{sides}
use Rattle.mig_certificate.specs.BrokenPlace.{broken}
use Rattle.mig_checker.specs.Inside.{pair_numbers, at_pair, entries_broken}
use Rattle.mig_checker.proofs.InPairs.{pair-there}
use Rattle.mig_checker.proofs.pairs.first_in_pair.Goals as goal

pub returns : goal.returns
returns c =
    let j = c.args.job.now in
    let p = c.args.program.now in
    let x = c.args.certificate.now in
    let f = c.in-Some.source_fn.now in
    let g = c.in-Some-get.target_fn.now in
    let y = c.in-Some-proof_of.proof.now in
    IfOk-weaker c.first_in_entries.result
    (IsFirst pair_numbers (entries_broken (sides j.source j.target f g) x.invariants.list y.entries))
    (IsFirst pair_numbers (λ q. broken j p x (at_pair c.args.i q)))
    (pair-there j p x c.args.i f y (sym c.in-Some.ensures.value) (sym c.in-Some-proof_of.ensures) g (sym c.in-Some-get.ensures.value))
    c.first_in_entries.ensures
