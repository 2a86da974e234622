use Rattle.std.proofs.Common.{◌≡◌, ◌<◌, false}
use Rattle.mig_schema.specs.declared.faults.ProgramRule.{ProgramRule}
use Rattle.mig_typing.specs.Broken.{piece_broken, program_rank}
use Rattle.mig_typing.specs.Seen.{seen}
use Rattle.mig_typing.proofs.programs.first_rule.Given as goal

abbrev pub invariant-loop-rule : goal.invariant-loop-rule
invariant-loop-rule l = (r : ProgramRule) → program_rank r < l.rule-index → piece_broken l.schema l.function r (seen l.piece) ≡ false
