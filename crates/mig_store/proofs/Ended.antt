-- What was answered where the calls were read or not, and what a whole run says of its store.
use Rattle.std.proofs.Common.{◌≡◌, ◌⊎◌, inl, inr, ℕ, Bool, true, false, List, Result, Ok, Err, refl, sym, subst}
use Rattle.mig_schema.specs.declared.programs.Program.{Program}
use Rattle.mig_meaning.specs.declared.calling.Calls.{Calls}
use Rattle.mig_storage.specs.Meaning.{IsSound, Meaning}
use Rattle.mig_store.specs.declared.faults.CallsFault.{CallsFault}
use Rattle.mig_store.specs.declared.faults.CallsFault.TheVariants as cause
use Rattle.mig_store.specs.declared.play_faults.PlayFault.{PlayFault}
use Rattle.mig_store.specs.declared.play_faults.PlayFault.TheVariants as fault
use Rattle.mig_store.specs.PlayFaults.{calls_fault}
use Rattle.mig_store.specs.Playing.{calls_in}

-- a cause is told, or it is want of memory
told-of : (f : CallsFault) → (calls_fault f ≡ fault.Calls f) ⊎ (calls_fault f ≡ fault.Memory)
told-of cause.Memory = inr refl
told-of (cause.Unknown at) = inl refl
told-of (cause.Arity at) = inl refl
told-of (cause.Value at field) = inl refl
told-of cause.Limit = inl refl

module _ (p : Program) (bytes : List ℕ) where
  -- what a reader of the calls answers
  abbrev IsSaid : Result Calls CallsFault → Type 0
  IsSaid r = (r ≡ Err cause.Memory) ⊎ (r ≡ calls_in p bytes)

  pub said-calls : (c : Calls) → IsSaid (Ok c) → calls_in p bytes ≡ Ok c
  said-calls c h = elim h [ inl e ↦ absurd cc | inr e ↦ sym e ]

  pub sound-calls : (c : Calls) (f : CallsFault) → IsSaid (Ok c) → calls_in p bytes ≡ Err f → ⊥
  sound-calls c f h e = let k = said-calls c h in absurd cc

  pub unread-calls : (r : Result (List ℕ) PlayFault) (f c : CallsFault) → IsSaid (Err f) → r ≡ Err (calls_fault f) → calls_in p bytes ≡ Err c → (r ≡ Err (fault.Calls c)) ⊎ (r ≡ Err fault.Memory)
  unread-calls r f c h is e = elim h [
    | inl i ↦ let same : f ≡ cause.Memory = cc in inr (subst (λ x. r ≡ Err (calls_fault x)) same is)
    | inr i ↦ let same : f ≡ c = cc in elim (told-of f) [ inl k ↦ inl cc | inr k ↦ inr cc ]
  ]

false-of : (b : Bool) → (b ≡ true → ⊥) → b ≡ false
false-of true h = absurd (h refl)
false-of false h = refl

-- a store that played a whole run was whole, and is
pub whole-store : {T : Type 0} (old new : Meaning) (x : T) → IsSound {T = T} old new (Ok x) → (old.broken ≡ false) × (new.broken ≡ false)
whole-store old new x sound = (
  false-of old.broken (λ e. let k = (sound.broken e).1 in absurd cc),
  false-of new.broken (λ e. let k = sound.breaks e in absurd cc),
)
