-- The numbers of statuses, and which faults lead to which status.
use Rattle.std.specs.Prelude.{ℕ}
use Rattle.mig_syntax.specs.declared.fault.TextFault.{TextFault}
use Rattle.mig_syntax.specs.declared.fault.TextFault.TheVariants as text
use Rattle.mig_store.specs.declared.faults.CallsFault.{CallsFault}
use Rattle.mig_store.specs.declared.faults.CallsFault.TheVariants as calls
use Rattle.mig_messages.specs.declared.status.Status.{Status}
use Rattle.mig_messages.specs.declared.status.Status.TheVariants as status

-- the number that a program ends with
abbrev pub number : Status → ℕ
number status.Done = 0
number status.Words = 1
number status.Text = 2
number status.Exhausted = 3
number status.Spent = 4
number status.Rejected = 5
number status.File = 6
number status.Sink = 7
number status.Memory = 8
number status.Store = 9
number status.Limit = 10
number status.Calls = 11

-- the status that a fault of a text leads to
abbrev pub fault_status : TextFault → Status
fault_status text.Memory = status.Memory
fault_status (text.At row column) = status.Text
fault_status (text.Limit which row) = status.Limit
fault_status (text.Typing f) = status.Text

-- the status of calls that are refused
abbrev pub calls_status : CallsFault → Status
calls_status calls.Memory = status.Memory
calls_status (calls.Unknown at) = status.Calls
calls_status (calls.Arity at) = status.Calls
calls_status (calls.Value at field) = status.Calls
calls_status calls.Limit = status.Limit
