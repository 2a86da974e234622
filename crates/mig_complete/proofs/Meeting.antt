-- Clauses that an assignment meets, by recursion.
use Rattle.std.proofs.Common.{◌≡◌, ◌⊎◌, ℕ, ◌<◌, Bool, true, false, List, [], ◌∷◌, ◌++◌, length, refl, sym, subst, inl, inr, arith, suc, zero}
use Rattle.std.specs.List.{All, Any}
use Rattle.std.specs.Prelude.{slice_index_or}
use Rattle.std.proofs.lemmas.Bool.{both_ways}
use Rattle.std.proofs.lemmas.List.Elements.{All-nil, All-cons, All-head, All-tail}
use Rattle.mig_sat.specs.declared.clauses.SatLit.{SatLit}
use Rattle.mig_sat.specs.Models.{value_of, HoldsLit}
use Rattle.mig_complete.specs.Coding.{positive, negative}

-- some literal is true
abbrev pub MeetsAny : List Bool → List SatLit → Type 0
MeetsAny m [] = ⊥
MeetsAny m (l ∷ ls) = HoldsLit m l ⊎ MeetsAny m ls

-- each clause has a true literal
abbrev pub MeetsAll : List Bool → List (List SatLit) → Type 0
MeetsAll m [] = Unit {0}
MeetsAll m (c ∷ cs) = MeetsAny m c × MeetsAll m cs

any_at : (m : List Bool) (c : List SatLit) (k : ℕ) (x : SatLit) → k < length c → slice_index_or c k x ≡ x → HoldsLit m x → MeetsAny m c
any_at m [] k x lt e h = absurd (omega (arith, lt))
any_at m (l ∷ ls) zero x lt e h = inl (subst (HoldsLit m) (sym e) h)
any_at m (l ∷ ls) (suc k) x lt e h = inr (any_at m ls k x (omega (arith, lt)) e h)

pub any_to : (m : List Bool) (c : List SatLit) → Any (HoldsLit m) c → MeetsAny m c
any_to m c h = any_at m c h.0 h.1 h.2 h.3 h.4

pub any_from : (m : List Bool) (c : List SatLit) → MeetsAny m c → Any (HoldsLit m) c
any_from m [] h = absurd h
any_from m (l ∷ ls) h = elim h [
  | inl here ↦ (0, l, omega arith, refl, here)
  | inr more ↦ let t = any_from m ls more in (suc t.0, t.1, omega (arith, t.2), t.3, t.4)
]

pub all_to : (m : List Bool) (cs : List (List SatLit)) → All (Any (HoldsLit m)) cs → MeetsAll m cs
all_to m [] h = tt
all_to m (c ∷ cs) h = (any_to m c (All-head (Any (HoldsLit m)) c cs h), all_to m cs (All-tail (Any (HoldsLit m)) c cs h))

pub all_from : (m : List Bool) (cs : List (List SatLit)) → MeetsAll m cs → All (Any (HoldsLit m)) cs
all_from m [] h = All-nil (Any (HoldsLit m))
all_from m (c ∷ cs) h = All-cons (Any (HoldsLit m)) c cs (any_from m c h.0) (all_from m cs h.1)

pub meets_append : (m : List Bool) (cs ds : List (List SatLit)) → MeetsAll m cs → MeetsAll m ds → MeetsAll m (cs ++ ds)
meets_append m [] ds h k = k
meets_append m (c ∷ cs) ds h k = (h.0, meets_append m cs ds h.1 k)

pub meets_left : (m : List Bool) (cs ds : List (List SatLit)) → MeetsAll m (cs ++ ds) → MeetsAll m cs
meets_left m [] ds h = tt
meets_left m (c ∷ cs) ds h = (h.0, meets_left m cs ds h.1)

pub meets_right : (m : List Bool) (cs ds : List (List SatLit)) → MeetsAll m (cs ++ ds) → MeetsAll m ds
meets_right m [] ds h = h
meets_right m (c ∷ cs) ds h = meets_right m cs ds h.1

-- a clause of a negative and a positive literal
pub implies_true : (m : List Bool) (v w : ℕ) → MeetsAny m (negative v ∷ (positive w ∷ [])) → value_of m v ≡ true → value_of m w ≡ true
implies_true m v w h t = elim h [
  | inl f ↦ absurd (both_ways (value_of m v) f t)
  | inr more ↦ elim more [ inl here ↦ here | inr none ↦ absurd none ]
]

-- a clause of two negative literals
pub implies_false : (m : List Bool) (v w : ℕ) → MeetsAny m (negative v ∷ (negative w ∷ [])) → value_of m v ≡ true → value_of m w ≡ false
implies_false m v w h t = elim h [
  | inl f ↦ absurd (both_ways (value_of m v) f t)
  | inr more ↦ elim more [ inl here ↦ here | inr none ↦ absurd none ]
]
