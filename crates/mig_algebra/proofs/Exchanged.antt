-- One row of a choice goes and others come behind it: what stands where.
use Rattle.std.proofs.Common.{◌≡◌, ◌≢◌, ℕ, suc, ◌+◌, ◌-◌, ◌<◌, ◌≤◌, true, false, cond, ◌∷◌, ◌++◌, refl, sym, ap, ap₂, ◌∙◌, arith, length, append_assoc, length-append, ⊎_elim}
use Rattle.std.specs.Prelude.{nat_lt}
use Rattle.std.proofs.lemmas.List.{get_or_append_left, get_or-append_right, get_or_at, get_or-append-add}
use Rattle.std.proofs.lemmas.Bool.{cases_lt, lt-ltb, le-ltb}
use Rattle.mig_meaning.specs.declared.states.Placed.{Placed}
use Rattle.mig_meaning.specs.Rows.{no_row}
use Rattle.mig_algebra.specs.Meaning.{Env, row_at}

-- the row that goes
pub row-going : (c d k : Env) (p : Placed) (x : ℕ) → length c ≡ x → row_at ((c ++ (p ∷ d)) ++ k) x ≡ p
row-going c d k p x h = ap (λ l. row_at l x) (append_assoc c (p ∷ d) k) ∙ get_or_at c p (d ++ k) no_row x h

-- a row that comes
pub row-coming : (c y k : Env) (n t : ℕ) → length c ≡ n → t < length y → row_at ((c ++ y) ++ k) (n + t) ≡ row_at y t
row-coming c y k n t h l =
    ap (λ r. row_at r (n + t)) (append_assoc c y k) ∙ ap (λ m. row_at (c ++ (y ++ k)) (m + t)) (sym h)
    ∙ get_or-append-add c (y ++ k) t no_row ∙ get_or_append_left y k no_row t l

module _ (c d y k : Env) (p : Placed) (x n m v : ℕ) (at : length c ≡ x) (own : length c + suc (length d) ≡ n) (more : length y ≡ m) where
  before : v < x → row_at ((c ++ (p ∷ d)) ++ k) v ≡ row_at (((c ++ d) ++ y) ++ k) v
  before l =
      ap (λ r. row_at r v) (append_assoc c (p ∷ d) k) ∙ get_or_append_left c ((p ∷ d) ++ k) no_row v (omega (arith, l, at))
      ∙ sym (get_or_append_left c (d ++ (y ++ k)) no_row v (omega (arith, l, at)))
      ∙ ap (λ r. row_at r v) (sym (append_assoc c d (y ++ k)) ∙ sym (append_assoc (c ++ d) y k))

  -- behind the row that goes, its own number is the place in what is left
  shifted : x < v → row_at ((c ++ (p ∷ d)) ++ k) v ≡ row_at (d ++ k) (v - 1 - x)
  shifted g =
      let step : v - length c ≡ suc (v - 1 - x) = omega (arith, g, at) in
      ap (λ r. row_at r v) (append_assoc c (p ∷ d) k) ∙ get_or-append_right c ((p ∷ d) ++ k) (length c) v no_row refl (omega (arith, g, at))
      ∙ ap (row_at (p ∷ (d ++ k))) step

  inside : x < v → v < n → row_at ((c ++ (p ∷ d)) ++ k) v ≡ row_at (((c ++ d) ++ y) ++ k) (v - 1)
  inside g l =
      let in' : v - 1 - x < length d = omega (arith, g, l, at, own) in
      shifted g ∙ get_or_append_left d k no_row (v - 1 - x) in'
      ∙ sym (get_or_append_left d (y ++ k) no_row (v - 1 - x) in')
      ∙ sym (get_or-append_right c (d ++ (y ++ k)) x (v - 1) no_row at (omega (arith, g)))
      ∙ ap (λ r. row_at r (v - 1)) (sym (append_assoc c d (y ++ k)) ∙ sym (append_assoc (c ++ d) y k))

  behind : x < v → n ≤ v → row_at ((c ++ (p ∷ d)) ++ k) v ≡ row_at (((c ++ d) ++ y) ++ k) (v - 1 + m)
  behind g l =
      let long : length ((c ++ d) ++ y) ≡ (x + length d) + m = length-append (c ++ d) y ∙ ap₂ (λ a b. a + b) (length-append c d ∙ ap (λ a. a + length d) at) more in
      let same : v - 1 - x - length d ≡ v - 1 + m - ((x + length d) + m) = omega (arith, g, l, at, own) in
      shifted g ∙ get_or-append_right d k (length d) (v - 1 - x) no_row refl (omega (arith, g, l, at, own))
      ∙ ap (row_at k) same
      ∙ sym (get_or-append_right ((c ++ d) ++ y) k ((x + length d) + m) (v - 1 + m) no_row long (omega (arith, g, l, at, own)))

  -- the row of any other number
  pub row-exchanged : v ≢ x → row_at ((c ++ (p ∷ d)) ++ k) v ≡ row_at (((c ++ d) ++ y) ++ k) (cond (nat_lt v x) v (cond (nat_lt v n) (v - 1) (v - 1 + m)))
  row-exchanged ne = ⊎_elim first rest (cases_lt v x)
    where
      first : v < x → row_at ((c ++ (p ∷ d)) ++ k) v ≡ row_at (((c ++ d) ++ y) ++ k) (cond (nat_lt v x) v (cond (nat_lt v n) (v - 1) (v - 1 + m)))
      first l = before l ∙ ap (λ b. row_at (((c ++ d) ++ y) ++ k) (cond b v (cond (nat_lt v n) (v - 1) (v - 1 + m)))) (sym (lt-ltb v x l))

      rest : x ≤ v → row_at ((c ++ (p ∷ d)) ++ k) v ≡ row_at (((c ++ d) ++ y) ++ k) (cond (nat_lt v x) v (cond (nat_lt v n) (v - 1) (v - 1 + m)))
      rest l = ⊎_elim second third (cases_lt v n)
        where
          out : (b : _) → nat_lt v n ≡ b → row_at (((c ++ d) ++ y) ++ k) (cond b (v - 1) (v - 1 + m)) ≡ row_at (((c ++ d) ++ y) ++ k) (cond (nat_lt v x) v (cond (nat_lt v n) (v - 1) (v - 1 + m)))
          out b e =
              ap (λ t. row_at (((c ++ d) ++ y) ++ k) (cond t (v - 1) (v - 1 + m))) (sym e)
              ∙ ap (λ t. row_at (((c ++ d) ++ y) ++ k) (cond t v (cond (nat_lt v n) (v - 1) (v - 1 + m)))) (sym (le-ltb v x l))

          second : v < n → row_at ((c ++ (p ∷ d)) ++ k) v ≡ row_at (((c ++ d) ++ y) ++ k) (cond (nat_lt v x) v (cond (nat_lt v n) (v - 1) (v - 1 + m)))
          second u = inside (omega (arith, l, ne)) u ∙ out true (lt-ltb v n u)

          third : n ≤ v → row_at ((c ++ (p ∷ d)) ++ k) v ≡ row_at (((c ++ d) ++ y) ++ k) (cond (nat_lt v x) v (cond (nat_lt v n) (v - 1) (v - 1 + m)))
          third u = behind (omega (arith, l, ne)) u ∙ out false (le-ltb v n u)
