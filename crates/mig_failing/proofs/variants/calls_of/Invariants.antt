use Rattle.std.proofs.Common.{◌≡◌, take}
use Rattle.mig_failing.proofs.Made.{made_from}
use Rattle.mig_failing.proofs.variants.calls_of.Given as goal

abbrev pub invariant-loop-function : goal.invariant-loop-function
invariant-loop-function l = record {
  number : l.number ≡ l.function-index;
  calls : l.calls ≡ made_from l.queries 0 (take l.function-index l.program.functions);
}
