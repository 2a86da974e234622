use Rattle.std.proofs.Common.{◌≡◌, ℕ, ◌<◌, false}
use Rattle.mig_schema.specs.declared.faults.ProgramRule.{ProgramRule}
use Rattle.mig_typing.specs.Broken.{program_broken}
use Rattle.mig_typing.proofs.programs.first_place.Given as goal

abbrev pub invariant-loop-i : goal.invariant-loop-i
invariant-loop-i l = (r : ProgramRule) (j k : ℕ) → j < l.i → program_broken l.schema l.program r j k ≡ false
