use Rattle.mig_dimacs.proofs.answers.answer_cnf.Goals as goal

pub returns-clause-answer : goal.returns-clause-answer
returns-clause-answer c = (c.in_ok-cnf.cnf, c.in_ok-cnf.ensures.found, c.in_ok-text.ensures)
