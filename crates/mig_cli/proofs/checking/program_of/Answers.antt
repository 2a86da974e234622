use Rattle.mig_cli.proofs.CheckPlans.{faulty, rejected, valid}
use Rattle.mig_cli.proofs.checking.program_of.Goals as goal

pub returns-in-Ok-clause-found : goal.returns-in-Ok-clause-found
returns-in-Ok-clause-found c = valid c.args.job.now c.args.file.now c.args.bytes.now c.in-Ok.program c.in-Ok.certificate (rw c.as_slice.ensures at c.in-Ok.ensures.found) c.judged.result c.judged.ensures.accepted

pub returns-in-Ok-clause-refused : goal.returns-in-Ok-clause-refused
returns-in-Ok-clause-refused c = rejected c.args.job.now c.args.file.now c.args.bytes.now c.in-Ok.program c.in-Ok.certificate (rw c.as_slice.ensures at c.in-Ok.ensures.found) c.judged.result c.judged.ensures.rejected

pub returns-in_ok-faulty_plan-in-Err-clause-refused : goal.returns-in_ok-faulty_plan-in-Err-clause-refused
returns-in_ok-faulty_plan-in-Err-clause-refused c =
    faulty c.args.job.now c.args.file.now c.args.bytes.now c.in-Err.fault c.in_ok-faulty_plan-in-Err.field-0 (rw c.as_slice.ensures at c.in-Err.ensures.only) c.in_ok-faulty_plan-in-Err.ensures
