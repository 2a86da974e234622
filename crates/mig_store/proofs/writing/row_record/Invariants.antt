use Rattle.std.proofs.Common.{◌≡◌, [], map, take}
use Rattle.csv.specs.Records.{fields_of, partial_of}
use Rattle.mig_store.specs.Fields.{value_text}
use Rattle.mig_store.proofs.writing.row_record.Given as goal

abbrev pub invariant-loop-value : goal.invariant-loop-value
invariant-loop-value l = record {
  fields : fields_of l.record ≡ map value_text (take l.value-index l.row);
  partial : partial_of l.record ≡ [];
}
