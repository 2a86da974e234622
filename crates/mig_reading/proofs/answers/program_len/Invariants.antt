use Rattle.std.proofs.Common.{◌≡◌, ◌+◌, true, drop}
use Rattle.mig_reading.specs.IsAnswer as spec
use Rattle.mig_reading.proofs.answers.program_len.Given as goal

abbrev pub invariant-loop-i : goal.invariant-loop-i
invariant-loop-i l = spec.program_len l.begins (drop l.i l.bytes) + l.i ≡ spec.program_len true l.bytes
