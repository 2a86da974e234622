use Rattle.mig_dimacs.proofs.optimum.answer_wcnf.Goals as goal

pub returns-clause-answer : goal.returns-clause-answer
returns-clause-answer c = (c.in_ok-problem.problem, c.in_ok-problem.ensures.found, c.in_ok-text.ensures)
