-- What a store means that fails at listed calls, and what its calls do besides.
use Rattle.std.specs.Prelude.{◌≡◌, ℕ, ◌+◌, ◌-◌, ◌^◌, ◌||◌, ◌&&◌, Bool, true, false, not, min, if◌then◌else◌, List, Result, IsErrOf}
use Rattle.std.proofs.Common.{arith}
use Rattle.mig_io.specs.Counts.{raised, is_listed}
use Rattle.mig_storage.specs.Meaning.{Meaning, IsMeaning, IsSound}
use Rattle.mig_storage.specs.declared.faults.StoreFault.{StoreFault}
use Rattle.mig_storage.specs.declared.faults.StoreFault.TheVariants.{Failed}
use Rattle.mig_storage.specs.declared.fault_store.FaultStore.{FaultStore}

-- the meaning of the inner store, with faults of one's own
abbrev pub wrapped : Meaning → (own : ℕ) → (broken : Bool) → Meaning
wrapped m own broken = record {
  told = m.told;
  faults = min (m.faults + own) (2 ^ 64 - 1);
  broken = m.broken || broken;
  begun = m.begun;
  start = m.start;
  layout = m.layout;
}

-- the meaning of a faulty store, by that of its inner store
abbrev pub meaning_by : {S : Type 0} → (S → Meaning) → FaultStore S → Meaning
meaning_by meaning f = wrapped (meaning f.inner) f.own f.broken

-- how many calls there were
abbrev pub calls_of : {S : Type 0} → FaultStore S → ℕ
calls_of f = f.calls

-- the numbers of the calls that are to fail
abbrev pub listed_of : {S : Type 0} → FaultStore S → List ℕ
listed_of f = f.fails

-- whether the next call is one that is to fail
abbrev pub is_next : {S : Type 0} → FaultStore S → Bool
is_next f = is_listed f.fails f.calls

-- What a call does besides what every store's does: at a listed number it fails, and from then on at each call, without a call of the inner store. The first such call alone counts a fault. At any other it fails only where the inner store's call does.
pub record Strikes {S T : Type 0} (meaning : S → Meaning) (old new : FaultStore S) (answer : Result T StoreFault) : Type 0 where
  pub calls : new.calls ≡ raised old.calls
  pub fails : new.fails ≡ old.fails
  pub broken : new.broken ≡ (old.broken || is_next old)
  pub own : new.own ≡ (if not old.broken && is_next old then raised old.own else old.own)
  pub struck : new.broken ≡ true → IsErrOf answer Failed × (new.inner ≡ old.inner)
  pub passed : new.broken ≡ false → IsSound (meaning old.inner) (meaning new.inner) answer

pub faulty-valid : {S : Type 0} (meaning : S → Meaning) → ((s : S) → IsMeaning (meaning s)) → (f : FaultStore S) → IsMeaning (meaning_by meaning f)
faulty-valid meaning valid f = record {
  fits = (valid f.inner).fits;
  counted = omega arith;
}
