-- Faults of calls and of stores, as faults of playing.
use Rattle.mig_storage.specs.declared.faults.StoreFault.{StoreFault}
use Rattle.mig_storage.specs.declared.faults.StoreFault.TheVariants as store
use Rattle.mig_store.specs.declared.faults.CallsFault.{CallsFault}
use Rattle.mig_store.specs.declared.faults.CallsFault.TheVariants as calls
use Rattle.mig_store.specs.declared.play_faults.PlayFault.{PlayFault}
use Rattle.mig_store.specs.declared.play_faults.PlayFault.TheVariants as fault

-- want of memory stays what it is
abbrev pub calls_fault : CallsFault → PlayFault
calls_fault calls.Memory = fault.Memory
calls_fault (calls.Unknown at) = fault.Calls (calls.Unknown at)
calls_fault (calls.Arity at) = fault.Calls (calls.Arity at)
calls_fault (calls.Value at field) = fault.Calls (calls.Value at field)
calls_fault calls.Limit = fault.Calls calls.Limit

abbrev pub store_fault : StoreFault → PlayFault
store_fault store.Memory = fault.Memory
store_fault store.Failed = fault.Store
