use Rattle.std.proofs.Common.{◌≡◌, ◌++◌, take, drop}
use Rattle.mig_algebra.specs.Obligations.{answer_terms, answer_from}
use Rattle.mig_obligations.proofs.answering.answer_terms.Given as goal

abbrev pub invariant-loop-i : goal.invariant-loop-i
invariant-loop-i l = answer_terms l.side l.query ≡ l.terms.items ++ answer_from l.side l.query (take l.i l.query.cond.cases) (drop l.i l.query.cond.cases)
