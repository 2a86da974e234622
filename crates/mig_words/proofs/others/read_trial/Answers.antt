use Rattle.std.proofs.Common.{inr}
use Rattle.mig_words.specs.Words.{is_within, number_of}
use Rattle.mig_words.proofs.Ranking.{chosen, unchosen}
use Rattle.mig_words.proofs.Fixed.{trial-short, trial-wrong, trial-long, trial-done}
use Rattle.mig_words.proofs.others.read_trial.Goals as goal

pub returns-in_default-clause-fault : goal.returns-in_default-clause-fault
returns-in_default-clause-fault c = inr (trial-short c.args.words.now c.in_default.len_below)

pub returns-in_default-number_in-clause-fault : goal.returns-in_default-number_in-clause-fault
returns-in_default-number_in-clause-fault c =
    inr (trial-wrong c.args.words.now c.word-item.result c.in-len1-up.len_at_least c.word-item.is (unchosen (is_within 1 8 c.word-item.result) (number_of c.word-item.result) c.in_default-number_in.ensures))

pub returns-then-words-eq1-clause-found : goal.returns-then-words-eq1-clause-found
returns-then-words-eq1-clause-found c =
    let k = chosen (is_within 1 8 c.word-item.result) c.in-Some.number (number_of c.word-item.result) c.in-Some.ensures in
    trial-done c.args.words.now c.word-item.result c.in-Some.number c.if-words-eq1.true c.word-item.is k.0 k.1

pub returns-else-words-eq1-clause-fault : goal.returns-else-words-eq1-clause-fault
returns-else-words-eq1-clause-fault c =
    let k = chosen (is_within 1 8 c.word-item.result) c.in-Some.number (number_of c.word-item.result) c.in-Some.ensures in
    inr (trial-long c.args.words.now c.word-item.result c.in-len1-up.len_at_least c.if-words-eq1.false c.word-item.is k.0)
