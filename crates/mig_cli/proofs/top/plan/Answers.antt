use Rattle.std.proofs.Common.{inr, refl}
use Rattle.mig_words.specs.declared.command.Command.TheVariants.{Migrate}
use Rattle.mig_cli.specs.World.{inputs_of}
use Rattle.mig_cli.proofs.Commands.{faulty-nothing}
use Rattle.mig_cli.proofs.Worded.{check-names, checked, left, migrated, none-named, refused, run, run-names, unbuilt}
use Rattle.mig_cli.proofs.top.plan.Goals as goal

pub returns-in-Err-clause-due : goal.returns-in-Err-clause-due
returns-in-Err-clause-due g c = refused _ _ _ c.in-Err.fault c.in-Err.ensures.fault c.refused_plan.result refl refl c.refused_plan.ensures

pub returns-in-Err-clause-refused : goal.returns-in-Err-clause-refused
returns-in-Err-clause-refused g c =
    none-named _ c.in-Err.fault (λ other. faulty-nothing c.args.words.now c.in-Err.fault other c.read_words.result c.in-Err.is c.read_words.ensures.only) c.refused_plan.result c.refused_plan.ensures

pub returns-in-Migrate-clause-due : goal.returns-in-Migrate-clause-due
returns-in-Migrate-clause-due g c =
    migrated _ _ _ c.in-Migrate.job c.in-Migrate.options (rw c.in-Migrate.is at c.in-Ok.ensures.found) c.migrated_plan.result c.migrated_plan.ensures.asked refl c.migrated_plan.ensures.plan

pub returns-in-Migrate-clause-asked : goal.returns-in-Migrate-clause-asked
returns-in-Migrate-clause-asked g c = inr (Migrate c.in-Migrate.job c.in-Migrate.options, 1, rw c.in-Migrate.is at c.in-Ok.ensures.found, c.migrated_plan.ensures.asked)

pub returns-in-Run-clause-due : goal.returns-in-Run-clause-due
returns-in-Run-clause-due g c = run _ _ _ c.in-Run.job c.in-Run.calls c.in-Run.answer (rw c.in-Run.is at c.in-Ok.ensures.found) c.run_plan.result c.run_plan.ensures.plan

pub returns-in-Run-clause-left : goal.returns-in-Run-clause-left
returns-in-Run-clause-left g c =
    left _ (inputs_of g.F.Files g.S.Store c.args.files.now c.args.store.now) (inputs_of g.F.Files g.S.Store c.run_plan.new.files c.run_plan.new.store) c.in-Run.job c.in-Run.calls c.in-Run.answer
    (rw c.in-Run.is at c.in-Ok.ensures.found) c.run_plan.ensures.left

pub returns-in-Run-clause-asked : goal.returns-in-Run-clause-asked
returns-in-Run-clause-asked g c = run-names _ _ _ c.in-Run.job c.in-Run.calls c.in-Run.answer (rw c.in-Run.is at c.in-Ok.ensures.found) c.run_plan.ensures.asked

pub returns-in-Check-clause-due : goal.returns-in-Check-clause-due
returns-in-Check-clause-due g c = checked _ _ _ c.in-Check.job c.in-Check.answer (rw c.in-Check.is at c.in-Ok.ensures.found) c.checked_plan.result refl c.checked_plan.ensures.plan

pub returns-in-Check-clause-asked : goal.returns-in-Check-clause-asked
returns-in-Check-clause-asked g c = check-names _ _ _ c.in-Check.job c.in-Check.answer (rw c.in-Check.is at c.in-Ok.ensures.found) c.checked_plan.ensures.asked

pub returns-in-Trial-clause-due : goal.returns-in-Trial-clause-due
returns-in-Trial-clause-due g c = unbuilt _ _ _ c.in-Ok.command c.in-Ok.ensures.found (rw c.in-Trial.is refl) c.unbuilt_plan.result refl refl c.unbuilt_plan.ensures
