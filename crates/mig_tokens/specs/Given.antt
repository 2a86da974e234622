-- What a reading function returned, against what reading gives.
use Rattle.std.specs.Prelude.{◌≡◌, List, Result, Ok, Err}
use Rattle.mig_tokens.specs.declared.token.Token.{Token}
use Rattle.mig_tokens.specs.declared.fault.ReadError.{ReadError}
use Rattle.mig_tokens.specs.declared.fault.ReadError.TheVariants as error
use Rattle.mig_tokens.specs.Reading.{Read, Took, Wrong, Past}

-- the error, unless memory ran out
abbrev pub Fails : {A : Type 0} → ReadError → Read A → Type 0
Fails error.Memory read = Unit {0}
Fails (error.At left) read = read ≡ Wrong left
Fails (error.Limit which left) read = read ≡ Past which left

-- what was returned, seen by view, is what reading gives
abbrev pub Gives : {X Y : Type 0} → (X → Y × List Token) → Result X ReadError → Read Y → Type 0
Gives view (Ok x) read = read ≡ Took (view x).0 (view x).1
Gives view (Err e) read = Fails e read
