-- No two statuses have one number.
use Rattle.std.proofs.Common.{◌≡◌, ℕ, zero, suc, List, [], ◌∷◌, refl, sym, ap, ◌∙◌}
use Rattle.mig_messages.specs.declared.status.Status.{Status}
use Rattle.mig_messages.specs.declared.status.Status.TheVariants.{Done, Words, Text, Exhausted, Spent, Rejected, File, Sink, Memory, Store, Limit, Calls}
use Rattle.mig_messages.specs.Statuses.{number}

-- the status at this place of a list
abbrev at : List Status → ℕ → Status
at [] n = Done
at (s ∷ all) zero = s
at (s ∷ all) (suc n) = at all n

-- the status with this number
abbrev status_of : ℕ → Status
status_of n = at (Done ∷ Words ∷ Text ∷ Exhausted ∷ Spent ∷ Rejected ∷ File ∷ Sink ∷ Memory ∷ Store ∷ Limit ∷ Calls ∷ []) n

status-number : (s : Status) → status_of (number s) ≡ s
status-number Done = refl
status-number Words = refl
status-number Text = refl
status-number Exhausted = refl
status-number Spent = refl
status-number Rejected = refl
status-number File = refl
status-number Sink = refl
status-number Memory = refl
status-number Store = refl
status-number Limit = refl
status-number Calls = refl

pub number-one : (s t : Status) → number s ≡ number t → s ≡ t
number-one s t e = sym (status-number s) ∙ ap status_of e ∙ status-number t
