use Rattle.mig_cli.proofs.Planned.{no-bytes, no-texts}
use Rattle.mig_cli.proofs.planning.job_in.Goals as goal

pub returns-in-Ok-clause-refused : goal.returns-in-Ok-clause-refused
returns-in-Ok-clause-refused g c = no-texts _ _ _ c.in-Ok.bytes c.job_of.result (rw c.in-Ok.is at c.in_ok-bytes.ensures.gave) c.job_of.ensures.refused

pub returns-in-Err-clause-refused : goal.returns-in-Err-clause-refused
returns-in-Err-clause-refused g c = no-bytes _ _ _ c.in-Err.plan (rw c.in-Err.is at c.in_ok-bytes.ensures.refused)
