use Rattle.std.proofs.Common.{◌≡◌}
use Rattle.csv.specs.Records.{fields_of}
use Rattle.mig_store.specs.Reading.{all_or_first, arguments, fields_in}
use Rattle.mig_store.proofs.Arguments.{left_at}
use Rattle.mig_store.proofs.Collect.{with_front}
use Rattle.mig_store.proofs.calls.arguments.Given as goal

abbrev pub invariant-loop-param : goal.invariant-loop-param
invariant-loop-param l = record {
  place : l.k ≡ l.param-index;
  rest : with_front l.values (all_or_first (left_at l.at l.params (fields_of l.record) l.param-index)) ≡ all_or_first (arguments l.at 1 l.params (fields_in (fields_of l.record)));
}
