use Rattle.mig_cli.specs.World.{files_meaning}
use Rattle.mig_cli.proofs.CheckPlans.{given, not-fetched, not-valid}
use Rattle.mig_cli.proofs.checking.program_in.Goals as goal

pub returns-in-Ok-clause-gave : goal.returns-in-Ok-clause-gave
returns-in-Ok-clause-gave g c =
    given c.args.job.now c.args.file.now (files_meaning g.F.Files c.args.files.now) (files_meaning g.F.Files c.fetched.new.files) c.in-Ok.bytes c.program_of.result (rw c.in-Ok.is at c.in_ok-bytes.ensures.gave) c.program_of.ensures.found

pub returns-in-Ok-clause-refused : goal.returns-in-Ok-clause-refused
returns-in-Ok-clause-refused g c = not-valid _ _ _ _ c.in-Ok.bytes c.program_of.result (rw c.in-Ok.is at c.in_ok-bytes.ensures.gave) c.program_of.ensures.refused

pub returns-in-Err-clause-refused : goal.returns-in-Err-clause-refused
returns-in-Err-clause-refused g c = not-fetched _ _ _ _ c.in-Err.plan (rw c.in-Err.is at c.in_ok-bytes.ensures.refused)
