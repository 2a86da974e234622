-- What a store in memory means.
use Rattle.std.specs.Prelude.{◌≡◌, false, Some}
use Rattle.std.proofs.Common.{subst, lit<}
use Rattle.mig_meaning.specs.declared.states.State.{State}
use Rattle.mig_storage.specs.Layout.{Layout}
use Rattle.mig_storage.specs.Meaning.{Meaning, IsMeaning, FitsLayout}
use Rattle.mig_storage.specs.declared.vec_store.VecStore.{VecStore}

-- It tells what it holds, and at the begin it told what it held at the last mark. It counts no fault and is never broken.
abbrev pub meaning_of : VecStore → Meaning
meaning_of s = record {
  told = Some s.journal.current;
  faults = 0;
  broken = false;
  begun = s.begun;
  start = Some s.journal.start;
  layout = s.layout;
}

told-fits : (layout : Layout) (a b : State) → FitsLayout layout a → Some a ≡ Some b → FitsLayout layout b
told-fits layout a b fits e = let same : a ≡ b = cc in subst (FitsLayout layout) same fits

pub vec_valid : (s : VecStore) → IsMeaning (meaning_of s)
vec_valid s = record {
  fits = λ t e. told-fits s.layout s.journal.current t s.fits e;
  counted = lit< tt;
}
