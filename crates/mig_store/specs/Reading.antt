-- The calls that the records of a file say.
use Rattle.std.specs.Prelude.{ℕ, ◌+◌, ◌==◌, nat_le, if◌then◌else◌, List, [], ◌∷◌, length, take, position, slice_index_or, Option, Some, None, Result, Ok, Err}
use Rattle.std.specs.Str.{bytes_eq}
use Rattle.csv.specs.Reading.{default_config, records, strip_bom}
use Rattle.mig_schema.specs.declared.programs.Param.{Param}
use Rattle.mig_schema.specs.declared.programs.Program.{Program}
use Rattle.mig_schema.specs.declared.values.Value.{Value}
use Rattle.mig_base.specs.Lists.{numbered}
use Rattle.mig_meaning.specs.declared.calling.Calls.{Calls}
use Rattle.mig_meaning.specs.declared.calling.Invocation.{Invocation}
use Rattle.mig_meaning.specs.Run.{function_at}
use Rattle.mig_store.specs.declared.faults.CallsFault.{CallsFault}
use Rattle.mig_store.specs.declared.faults.CallsFault.TheVariants as fault
use Rattle.mig_store.specs.Fields.{value_spelled}

-- a record: its fields, each a list of bytes
abbrev pub Record : Type 0
Record = List (List ℕ)

-- the first field, which names the function
abbrev pub name_in : Record → List ℕ
name_in r = slice_index_or r 0 []

-- the other fields, which are the arguments
abbrev pub fields_in : Record → List (List ℕ)
fields_in [] = []
fields_in (name ∷ fields) = fields

-- an item in front of others, where those are all sound
abbrev pub with_first : {X E : Type 0} → X → Result (List X) E → Result (List X) E
with_first x (Ok xs) = Ok (x ∷ xs)
with_first x (Err e) = Err e

-- all items, or the fault of the first that is none
abbrev pub all_or_first : {X E : Type 0} → List (Result X E) → Result (List X) E
all_or_first [] = Ok []
all_or_first (Ok x ∷ rs) = with_first x (all_or_first rs)
all_or_first (Err e ∷ rs) = Err e

-- the number of the first function of this name
abbrev pub function_named : Program → List ℕ → Option ℕ
function_named p name = position (λ f. bytes_eq f.name name) p.functions

-- the value of an argument, or that it spells none; `at` is the number of its record, and k its own
abbrev pub argument : (at k : ℕ) → Option Value → Result Value CallsFault
argument at k None = Err (fault.Value at k)
argument at k (Some v) = Ok v

-- what each field says as the argument for its parameter, the first of which has the number k
abbrev pub arguments : (at k : ℕ) → List Param → List (List ℕ) → List (Result Value CallsFault)
arguments at k [] fields = []
arguments at k (p ∷ ps) [] = []
arguments at k (p ∷ ps) (w ∷ ws) = argument at k (value_spelled p.kind w) ∷ arguments at (k + 1) ps ws

-- a call of the function n with these arguments
abbrev pub with_arguments : ℕ → Result (List Value) CallsFault → Result Invocation CallsFault
with_arguments n (Ok values) = Ok (record { function = n; args = record { values = values } })
with_arguments n (Err f) = Err f

-- what the record of number `at` says whose first field names this function, or none
abbrev pub said_of : Program → (at : ℕ) → Option ℕ → List (List ℕ) → Result Invocation CallsFault
said_of p at None fields = Err (fault.Unknown at)
said_of p at (Some n) fields =
    if length fields == length (function_at p n).params then with_arguments n (all_or_first (arguments at 1 (function_at p n).params fields))
    else Err (fault.Arity at)

-- the call that the record of number `at` says, or why it says none
abbrev pub said : Program → (at : ℕ) → Record → Result Invocation CallsFault
said p at r = said_of p at (function_named p (name_in r)) (fields_in r)

-- calls that all are sound, of so many records
abbrev pub within_limit : (count : ℕ) → Result (List Invocation) CallsFault → Result Calls CallsFault
within_limit count (Err f) = Err f
within_limit count (Ok calls) = if nat_le count 100000 then Ok (record { calls = calls }) else Err fault.Limit

-- the calls that the records say, at most 100,000, or why the first of those records is refused that is
abbrev pub calls_said : Program → List Record → Result Calls CallsFault
calls_said p rs = within_limit (length rs) (all_or_first (numbered (said p) 1 (take 100000 rs)))

-- the records of a file, as the crate `csv` reads it with its usual settings and without a header
abbrev pub records_in : List ℕ → List Record
records_in bytes = records default_config (strip_bom bytes)
