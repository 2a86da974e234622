use Rattle.std.proofs.Common.{ℕ, List, sym, ◌∙◌, subst}
use Rattle.std.proofs.lemmas.List.{append_cancel_left}
use Rattle.mig_reading.specs.IsAnswer.{opening, AreLines}
use Rattle.mig_reading.proofs.answers.read_answer.Goals as goal

pub returns-in-Some-clause-only : goal.returns-in-Some-clause-only
returns-in-Some-clause-only c p c' h =
    let lines-is = append_cancel_left opening h.lines c.in-Some.lines.now (sym h.is ∙ c.in-Some.ensures.some) in
    c.lines_of.ensures.only p c' (subst (λ (xs : List ℕ). AreLines c.args.job.now xs p c') lines-is h.parts)

pub returns-in-None-clause-only : goal.returns-in-None-clause-only
returns-in-None-clause-only c p c' h = absurd (let e = c.in-None.ensures.none h.lines h.is in cc)
