use Rattle.std.proofs.Common.{◌≡◌, ◌+◌, ◌++◌, drop, true}
use Rattle.mig_failing.specs.Tests.{arguments}
use Rattle.mig_failing.proofs.variants.arguments.Given as goal

abbrev pub invariant-loop-param : goal.invariant-loop-param
invariant-loop-param l = record {
  position : l.position ≡ l.param-index + 1;
  values : l.values ++ arguments l.variant l.no_int l.position (drop l.param-index l.params) ≡ arguments l.variant true 1 l.params;
}
