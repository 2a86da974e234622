use Rattle.std.proofs.Common.{inl, inr}
use Rattle.mig_grammar.specs.Spelling.{job_tokens}
use Rattle.mig_grammar.specs.Shapes.{IsJobTree}
use Rattle.mig_tokens.proofs.PlacedAnswer.{memory, took, failed}
use Rattle.mig_grammar.proofs.Answered.{job_took, job_failed}
use Rattle.mig_grammar.proofs.jobs.answer_of.Goals as goal

pub returns-in-Ok : goal.returns-in-Ok
returns-in-Ok c =
    took job_tokens IsJobTree c.args.bytes.now c.in_ok-found.found.items c.in_ok-found.ensures c.in-Ok.job
    (job_took c.args.bytes.now c.in_ok-found.found.items c.in_ok-found.ensures c.in-Ok.job c.in-Ok.field-0-1.now (rw c.as_slice-all.ensures.value at c.in-Ok.ensures))

pub returns : goal.returns
returns c =
    elim c.placed.ensures [
      | inl e ↦ rw e (memory job_tokens IsJobTree c.args.bytes.now c.in_ok-found.found.items c.in_ok-found.ensures)
      | inr e ↦ rw (e, c.as_slice-all.ensures.value) (failed job_tokens IsJobTree c.args.bytes.now c.in_ok-found.found.items c.in_ok-found.ensures c.in-Err.e
          (job_failed c.args.bytes.now c.in_ok-found.found.items c.in_ok-found.ensures c.in-Err.e (rw c.as_slice-all.ensures.value at c.in-Err.ensures)))
    ]
