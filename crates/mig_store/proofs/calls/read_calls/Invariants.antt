use Rattle.std.proofs.Common.{◌≡◌, ◌<◌, ◌≤◌, List, Some}
use Rattle.csv.specs.Reading.{Ready}
use Rattle.csv.specs.declared.reader.Trim.TheVariants as trim
use Rattle.mig_store.specs.Reading.{Record, calls_said, records_in}
use Rattle.mig_store.proofs.Counted.{so_far}
use Rattle.mig_store.proofs.Records.{IsLeft}
use Rattle.mig_store.proofs.calls.read_calls.Given as goal

abbrev pub invariant-loop-record : goal.invariant-loop-record
invariant-loop-record l = (l.record-iterator.rdr.trim ≡ trim.None) × Ready l.record-iterator.rdr × (0 < l.record-iterator.left) × (l.count ≤ 100000)
    × (rs : List Record) × IsLeft (λ s. Some s.now) l.record-iterator.rdr rs × (so_far l.program l.calls l.count rs ≡ calls_said l.program (records_in l.fn.bytes))
