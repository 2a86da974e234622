use Rattle.mig_checker.specs.declared.verdicts.Verdict.TheVariants.{Accepted}
use Rattle.mig_cli.proofs.migrating.answer_of.Goals as goal

pub unreachable-requires : goal.unreachable-requires
unreachable-requires c = let accepted = c.in_ok-check.ensures.only Accepted c.requires.valid in cc
