use Rattle.std.proofs.Common.{◌≡◌, ◌++◌}
use Rattle.mig_storage.proofs.IndexLemmas.{rows_at}
use Rattle.mig_storage.proofs.index.Index.matching.Given as goal

abbrev pub invariant-loop-entry : goal.invariant-loop-entry
invariant-loop-entry l = l.rows ++ rows_at l.self.column l.value l.slots l.entry-iterator ≡ rows_at l.self.column l.value l.slots l.initial.entry-iterator
