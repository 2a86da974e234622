use Rattle.mig_cli.proofs.Planned.{faulty}
use Rattle.mig_cli.proofs.planning.job_of.Goals as goal

pub returns-in_ok-faulty_plan-in-Err-clause-refused : goal.returns-in_ok-faulty_plan-in-Err-clause-refused
returns-in_ok-faulty_plan-in-Err-clause-refused c =
    faulty c.args.file.now c.args.bytes.now c.in-Err.fault c.in_ok-faulty_plan-in-Err.field-0 c.in_ok-faulty_plan-in-Err.ensures
    (rw (← c.as_slice.ensures) c.in-Err.ensures.wrong) (rw (← c.as_slice.ensures) c.in-Err.ensures.past) (rw (← c.as_slice.ensures) c.in-Err.ensures.typing) (rw (← c.as_slice.ensures) c.in-Err.ensures.pairs)
