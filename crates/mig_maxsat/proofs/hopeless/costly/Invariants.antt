use Rattle.std.proofs.Common.{◌≡◌}
use Rattle.std.specs.Prelude.{filter}
use Rattle.std.specs.List.{range_with_len}
use Rattle.mig_maxsat.specs.Losses.{is_costly}
use Rattle.mig_maxsat.proofs.hopeless.costly.Given as goal

abbrev pub invariant-loop-number : goal.invariant-loop-number
invariant-loop-number l = l.numbers.items ≡ filter (is_costly l.problem) (range_with_len 0 l.number)
