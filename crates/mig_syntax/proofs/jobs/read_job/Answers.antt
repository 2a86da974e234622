use Rattle.mig_syntax.proofs.WithinTexts.{job_text}
use Rattle.mig_syntax.proofs.jobs.read_job.Goals as goal

pub returns-clause-within : goal.returns-clause-within
returns-clause-within c = job_text c.args.bytes.now
