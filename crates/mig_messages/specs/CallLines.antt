-- The lines on files of calls and on stores.
use Rattle.std.specs.Prelude.{ℕ, List, ◌++◌, codes, decimal}
use Rattle.mig_schema.specs.declared.limits.Limit.TheVariants as limit
use Rattle.mig_store.specs.declared.faults.CallsFault.{CallsFault}
use Rattle.mig_store.specs.declared.faults.CallsFault.TheVariants as fault
use Rattle.mig_messages.specs.Lines.{line, no_memory, past_limit}

-- the line on a store that failed
abbrev pub store_failed : List ℕ
store_failed = line (codes "store failed")

-- the line on a broken record, by its number and by why it is broken
abbrev pub broken_record : List ℕ → ℕ → List ℕ → List ℕ
broken_record file at why = file ++ (codes ": record " ++ (decimal at ++ (codes ": " ++ line why)))

-- the line on calls that are refused
abbrev pub calls_line : List ℕ → CallsFault → List ℕ
calls_line file fault.Memory = no_memory
calls_line file (fault.Unknown at) = broken_record file at (codes "unknown")
calls_line file (fault.Arity at) = broken_record file at (codes "arity")
calls_line file (fault.Value at field) = broken_record file at (codes "value " ++ decimal field)
calls_line file fault.Limit = past_limit file 0 limit.Calls
