-- There is one first model at most.
use Rattle.std.proofs.Common.{◌≡◌, ℕ, ◌<◌, ◌⊎◌, Bool, true, false, List, [], ◌∷◌, length, refl, ap, sym, ◌∙◌, inl, inr, arith, suc, zero}
use Rattle.mig_sat.specs.declared.clauses.Cnf.{Cnf}
use Rattle.mig_sat.specs.Models.{value_of, IsBefore, IsFirstModel}

-- the same values below a place, behind equal heads
pub same_below : (x : Bool) (a b : List Bool) (p v : ℕ) → ((w : ℕ) → w < p → value_of a w ≡ value_of b w) → v < suc p → value_of (x ∷ a) v ≡ value_of (x ∷ b) v
same_below x a b p zero h lt = refl
same_below x a b p (suc v) h lt = h v (omega (arith, lt))

-- what comes before does so behind equal heads
pub before_behind : (x : Bool) (a b : List Bool) → IsBefore a b → IsBefore (x ∷ a) (x ∷ b)
before_behind x a b h = record { place = suc h.place; here = h.here; there = h.there; same = λ v lt. same_below x a b h.place v h.same lt }

-- true comes before false
pub before_at_once : (a b : List Bool) → IsBefore (true ∷ a) (false ∷ b)
before_at_once a b = record { place = 0; here = refl; there = refl; same = λ v lt. absurd (omega (arith, lt)) }

-- of two assignments of one length, they are the same or one comes before the other
pub total : (a b : List Bool) → length a ≡ length b → (a ≡ b) ⊎ (IsBefore a b ⊎ IsBefore b a)
total [] [] e = inl refl
total [] (y ∷ b) e = absurd (omega (arith, e))
total (x ∷ a) [] e = absurd (omega (arith, e))
total (true ∷ a) (false ∷ b) e = inr (inl (before_at_once a b))
total (false ∷ a) (true ∷ b) e = inr (inr (before_at_once b a))
total (true ∷ a) (true ∷ b) e = elim (total a b (omega (arith, e))) [
  | inl same ↦ inl (ap (λ t. true ∷ t) same)
  | inr order ↦ elim order [ inl h ↦ inr (inl (before_behind true a b h)) | inr h ↦ inr (inr (before_behind true b a h)) ]
]
total (false ∷ a) (false ∷ b) e = elim (total a b (omega (arith, e))) [
  | inl same ↦ inl (ap (λ t. false ∷ t) same)
  | inr order ↦ elim order [ inl h ↦ inr (inl (before_behind false a b h)) | inr h ↦ inr (inr (before_behind false b a h)) ]
]

-- two first models are the same
pub one_first_model : (cnf : Cnf) (a b : List Bool) → IsFirstModel cnf a → IsFirstModel cnf b → a ≡ b
one_first_model cnf a b f g = elim (total a b (f.model.sized ∙ sym g.model.sized)) [
  | inl same ↦ same
  | inr order ↦ elim order [ inl h ↦ absurd (g.first a f.model h) | inr h ↦ absurd (f.first b g.model h) ]
]
