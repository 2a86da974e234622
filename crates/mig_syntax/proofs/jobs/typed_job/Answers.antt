use Rattle.std.proofs.Common.{rules}
use Rattle.mig_schema.specs.Typed.{IsTyped}
use Rattle.mig_grammar.specs.Spelling.{job_tokens}
use Rattle.mig_grammar.specs.Shapes.{IsJobTree}
use Rattle.mig_syntax.specs.Naming.{job_of}
use Rattle.mig_syntax.specs.TypingFault.{IsTypingFault}
use Rattle.mig_syntax.proofs.Answered.{unread, took, failed}
use Rattle.mig_syntax.proofs.jobs.typed_job.Goals as goal

pub returns-in_err-tree : goal.returns-in_err-tree
returns-in_err-tree c =
    let e = c.in_err-tree.ensures in
    unread job_tokens IsJobTree job_of IsTyped IsTypingFault c.args.bytes.now c.in_err-tree.field-0.0 c.from_residual.result
    (record { found = e.found; only = e.only; wrong = e.wrong; only_wrong = e.only_wrong; past = e.past; only_past = e.only_past })
    (search rules)

pub returns-in_err-check_job : goal.returns-in_err-check_job
returns-in_err-check_job c =
    let e = c.in_ok-tree.ensures in
    failed job_tokens IsJobTree job_of IsTyped IsTypingFault c.args.bytes.now c.in_ok-tree.tree
    (record { found = e.found; only = e.only; wrong = e.wrong; only_wrong = e.only_wrong; past = e.past; only_past = e.only_past })
    c.in_ok-job.job c.in_ok-job.ensures c.in_err-check_job.field-0.0 c.from_residual-in_err-check_job.result c.in_err-check_job.ensures (search rules)

pub returns : goal.returns
returns c =
    let e = c.in_ok-tree.ensures in
    took job_tokens IsJobTree job_of IsTyped IsTypingFault c.args.bytes.now c.in_ok-tree.tree
    (record { found = e.found; only = e.only; wrong = e.wrong; only_wrong = e.only_wrong; past = e.past; only_past = e.only_past })
    c.in_ok-job.job c.in_ok-job.ensures tt c.in_ok-check_job.ensures
