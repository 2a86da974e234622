-- A clause that forbids one list of values, and no other.
use Rattle.std.proofs.Common.{◌≡◌, ◌⊎◌, ℕ, ◌+◌, ◌<◌, Bool, true, false, not, List, [], ◌∷◌, ◌++◌, length, get_or, refl, ap, sym, ◌∙◌, subst, inl, inr, arith, suc, zero, All}
use Rattle.std.proofs.lemmas.List.Elements.{All-push}
use Rattle.mig_base.specs.Lists.{numbered}
use Rattle.mig_sat.specs.declared.clauses.SatLit.{SatLit}
use Rattle.mig_sat.specs.Models.{value_of}
use Rattle.mig_sat.proofs.Following.{not_both}
use Rattle.mig_maxsat.specs.declared.weighted.Weighted.{Weighted}
use Rattle.mig_maxsat.specs.Heaviest.{IsSound}
use Rattle.mig_corresp.specs.Coding.{differing}
use Rattle.mig_corresp.proofs.Couples.{SomeHolds}

abbrev other : ℕ → Bool → SatLit
other v b = record { var = v; positive = not b }

head_same : (x b : Bool) (os bs : List Bool) → x ∷ os ≡ b ∷ bs → x ≡ b
head_same x b os bs e = cc

tail_same : (x b : Bool) (os bs : List Bool) → x ∷ os ≡ b ∷ bs → os ≡ bs
tail_same x b os bs e = cc

same_or_not : (x b : Bool) → (x ≡ b) ⊎ (x ≡ not b)
same_or_not true true = inl refl
same_or_not true false = inr refl
same_or_not false true = inr refl
same_or_not false false = inl refl

-- a true literal shows a difference
differs_to : (o os m : List Bool) (v : ℕ) → ((p : ℕ) → value_of o (v + p) ≡ value_of os p) → length os ≡ length m → SomeHolds o (numbered other v m) → os ≡ m → ⊥
differs_to o os [] v at size h e = h
differs_to o [] (b ∷ bs) v at size h e = absurd (omega (arith, size))
differs_to o (x ∷ os) (b ∷ bs) v at size h e = elim h [
  | inl here ↦
      let zero_is : v ≡ v + 0 = omega arith in
      not_both b (sym (head_same x b os bs e) ∙ (sym (at 0) ∙ (ap (value_of o) (sym zero_is) ∙ here)))
  | inr later ↦ differs_to o os bs (v + 1) (λ p. let shift : (v + 1) + p ≡ v + suc p = omega arith in ap (value_of o) shift ∙ at (suc p)) (omega (arith, size)) later (tail_same x b os bs e)
]

-- and a difference makes one true
differs_from : (o os m : List Bool) (v : ℕ) → ((p : ℕ) → value_of o (v + p) ≡ value_of os p) → length os ≡ length m → (os ≡ m → ⊥) → SomeHolds o (numbered other v m)
differs_from o [] [] v at size ne = ne refl
differs_from o (x ∷ os) [] v at size ne = absurd (omega (arith, size))
differs_from o [] (b ∷ bs) v at size ne = absurd (omega (arith, size))
differs_from o (x ∷ os) (b ∷ bs) v at size ne =
    let zero_is : v ≡ v + 0 = omega arith in
    let rest = λ (same : x ≡ b). differs_from o os bs (v + 1) (λ p. let shift : (v + 1) + p ≡ v + suc p = omega arith in ap (value_of o) shift ∙ at (suc p)) (omega (arith, size)) (λ e. ne (ap (λ y. y ∷ os) same ∙ ap (λ t. b ∷ t) e)) in
    elim (same_or_not x b) [
      | inl same ↦ inr (rest same)
      | inr another ↦ inl (ap (value_of o) zero_is ∙ (at 0 ∙ another))
    ]

from_start : (o : List Bool) (p : ℕ) → value_of o (0 + p) ≡ value_of o p
from_start o p = let e : 0 + p ≡ p = omega arith in ap (value_of o) e

pub forbids : (o m : List Bool) → length o ≡ length m → SomeHolds o (differing m) → o ≡ m → ⊥
forbids o m size h = differs_to o o m 0 (from_start o) size h

pub allows : (o m : List Bool) → length o ≡ length m → (o ≡ m → ⊥) → SomeHolds o (differing m)
allows o m size ne = differs_from o o m 0 (from_start o) size ne

-- its variables are in range
below : (v : ℕ) (m : List Bool) (k : ℕ) (d : SatLit) → k < length (numbered other v m) → (get_or (numbered other v m) k d).var < v + length m
below v [] k d lt = absurd (omega (arith, lt))
below v (b ∷ m) zero d lt = omega arith
below v (b ∷ m) (suc k) d lt = let rest = below (v + 1) m k d (omega (arith, lt)) in omega (arith, rest)

-- one clause more leaves the problem sound
pub sound_more : (p q : Weighted) (m : List Bool) → IsSound p → length m ≡ p.hard.vars → q.hard.vars ≡ p.hard.vars → q.weights ≡ p.weights → q.hard.clauses ≡ p.hard.clauses ++ differing m ∷ [] → IsSound q
sound_more p q m s size vars weights clauses =
    let new : All (λ (l : SatLit). l.var < p.hard.vars) (differing m) = λ k d lt. let le = below 0 m k d lt in omega (arith, le, size) in
    let all : All (All (λ (l : SatLit). l.var < p.hard.vars)) (p.hard.clauses ++ differing m ∷ []) = All-push (All (λ (l : SatLit). l.var < p.hard.vars)) p.hard.clauses (differing m) s.range new in
    record {
      range = subst (λ n. All (All (λ (l : SatLit). l.var < n)) q.hard.clauses) (sym vars) (subst (All (All (λ (l : SatLit). l.var < p.hard.vars))) (sym clauses) all);
      sized = ap length weights ∙ s.sized ∙ sym vars;
      fits = rw weights s.fits;
    }
