use Rattle.mig_cli.proofs.CheckPlans.{told-rejected}
use Rattle.mig_cli.proofs.checking.judged.Goals as goal

pub returns-in_ok-plan-in-Rejected-clause-rejected : goal.returns-in_ok-plan-in-Rejected-clause-rejected
returns-in_ok-plan-in-Rejected-clause-rejected c =
    told-rejected c.args.job.now c.args.program c.args.certificate.now _ c.in-Rejected.pair c.in-Rejected.obligation c.in-Rejected.step c.in-Rejected.why c.in_ok-plan-in-Rejected.plan c.in-Rejected.is
    c.in_ok-verdict.ensures.verdict c.in_ok-plan-in-Rejected.ensures
