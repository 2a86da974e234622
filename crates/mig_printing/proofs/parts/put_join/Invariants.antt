use Rattle.std.proofs.Common.{◌≡◌, ◌++◌, take}
use Rattle.std.specs.List.{flat_map}
use Rattle.mig_printing.specs.Printing.{table_text, joined_text}
use Rattle.mig_printing.proofs.parts.put_join.Given as goal

abbrev pub invariant-loop-joined : goal.invariant-loop-joined
invariant-loop-joined l = l.out ≡ l.fn.out ++ (table_text l.schema l.fn.join.first ++ flat_map (joined_text l.schema) (take l.joined-index l.fn.join.more))
