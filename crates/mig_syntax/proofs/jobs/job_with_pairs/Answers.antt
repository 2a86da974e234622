use Rattle.std.proofs.Common.{rules}
use Rattle.mig_syntax.proofs.WithPairs.{failed, many}
use Rattle.mig_syntax.proofs.jobs.job_with_pairs.Goals as goal

pub returns-in_err-job : goal.returns-in_err-job
returns-in_err-job c = failed c.args.bytes.now c.in_err-job.field-0.0 c.from_residual.result c.in_err-job.ensures (search rules)

pub returns-then-has_many_pairs : goal.returns-then-has_many_pairs
returns-then-has_many_pairs c = many c.args.bytes.now c.in_ok-job.job c.in_ok-job.ensures (search (rules, c.has_many_pairs.ensures.0))
