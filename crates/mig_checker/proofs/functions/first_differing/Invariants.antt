use Rattle.std.proofs.Common.{◌≡◌, ℕ, ◌<◌, false}
use Rattle.std.specs.Prelude.{slice_get}
use Rattle.mig_certificate.specs.BrokenPlace.{differ}
use Rattle.mig_checker.proofs.functions.first_differing.Given as goal

abbrev pub invariant-loop-n : goal.invariant-loop-n
invariant-loop-n l = (m : ℕ) → m < l.n → differ l.job.source l.job.target (slice_get l.job.program.functions m) (slice_get l.program.functions m) ≡ false
