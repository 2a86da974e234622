use Rattle.std.proofs.Common.{ℕ, List, ◌++◌, map, take}
use Rattle.std.specs.List.{flat_map}
use Rattle.mig_store.specs.Writing.{record_text, row_record}
use Rattle.mig_store.specs.Written.{HasWritten}
use Rattle.mig_store.proofs.writing.put_rows.Given as goal

abbrev pub invariant-loop-row : goal.invariant-loop-row
invariant-loop-row g l = (text : List ℕ) → HasWritten g.W.Write.contents l.fn.writer text → HasWritten g.W.Write.contents l.writer (text ++ flat_map record_text (map (λ r. row_record r.now.values) (take l.row-index l.rows)))
