use Rattle.std.proofs.Common.{inr}
use Rattle.std.proofs.lemmas.Result.{err_from_is_err_and}
use Rattle.mig_words.proofs.Fixed.{check-fault, check-short, check-done}
use Rattle.mig_words.proofs.others.read_check.Goals as goal

pub returns-in_err-only_files-clause-fault : goal.returns-in_err-only_files-clause-fault
returns-in_err-only_files-clause-fault c =
    let p = err_from_is_err_and c.from_residual.result c.from_residual.ensures.1 in
    rw (p.1, p.2) (inr (check-fault c.args.words.now c.in_err-only_files.field-0.0 c.in_err-only_files.ensures.fault))

pub returns-then-words-lt2-clause-fault : goal.returns-then-words-lt2-clause-fault
returns-then-words-lt2-clause-fault c = inr (check-short c.args.words.now c.in_ok-only_files.ensures.files c.if-words-lt2.true)

pub returns-clause-found : goal.returns-clause-found
returns-clause-found c = rw (c.in_ok-twin.ensures, c.in_ok-twin-2.ensures) (check-done c.args.words.now c.index-words-0.result c.index-words-1.result c.in_ok-only_files.ensures.files c.if-words-lt2.false c.index-words-0.is c.index-words-1.is)
