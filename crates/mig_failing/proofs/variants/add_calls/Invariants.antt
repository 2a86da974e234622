use Rattle.std.proofs.Common.{◌≡◌, ◌++◌}
use Rattle.mig_failing.specs.Made.{made_calls}
use Rattle.mig_failing.proofs.variants.add_calls.Given as goal

abbrev pub invariant-loop-variant : goal.invariant-loop-variant
invariant-loop-variant l = l.calls ≡ l.fn.calls ++ made_calls l.number l.function l.variant
