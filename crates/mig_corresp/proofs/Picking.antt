-- What is taken of the pairs: how many pass a test, whether some does, and what they weigh.
use Rattle.std.proofs.Common.{◌≡◌, ℕ, ◌+◌, ◌+ℤ◌, Bool, true, false, cond, ◌||◌, List, [], ◌∷◌, map, length, refl, ap, sym, ◌∙◌, inl, inr, arith, suc, zero}
use Rattle.std.specs.Prelude.{filter}
use Rattle.std.specs.List.{list_any, count_by}
use Rattle.std.proofs.lemmas.Bool.{cases_Bool}
use Rattle.std.proofs.lemmas.Int.{ints}
use Rattle.std.proofs.Common.{zero-add}
use Rattle.std.proofs.lemmas.List.Sums.{sum_by-cons}
use Rattle.mig_schema.specs.declared.jobs.Job.{Job}
use Rattle.mig_sat.specs.Models.{value_of}
use Rattle.mig_maxsat.specs.Heaviest.{weight}
use Rattle.mig_listing.specs.Listing.{IsIn}
use Rattle.mig_invariant.specs.declared.corresp.ColPair.{ColPair}
use Rattle.mig_corresp.specs.Weights.{pair_weight, weight_of}
use Rattle.mig_corresp.specs.Coding.{places, picked}

-- those that pass a test are those that are taken by it
pub filter_picked : (test : ColPair → Bool) (ps : List ColPair) → filter test ps ≡ picked ps (map test ps)
filter_picked test [] = refl
filter_picked test (p ∷ ps) = elim (cases_Bool (test p)) [
  | inl t ↦ rw t (ap (λ ys. p ∷ ys) (filter_picked test ps))
  | inr f ↦ rw f (filter_picked test ps)
]

-- what is taken is one of the pairs
pub in_picked : (ps : List ColPair) (m : List Bool) (p : ColPair) → IsIn p (picked ps m) → IsIn p ps
in_picked [] m p i = i
in_picked (q ∷ ps) [] p i = absurd i
in_picked (q ∷ ps) (true ∷ m) p i = elim i [ inl e ↦ inl e | inr j ↦ inr (in_picked ps m p j) ]
in_picked (q ∷ ps) (false ∷ m) p i = inr (in_picked ps m p i)

-- the weight of the values is that of the pairs
pub weight_picked : (job : Job) (ps : List ColPair) (m : List Bool) → weight (map (pair_weight job) ps) m ≡ weight_of job (picked ps m)
weight_picked job [] m = refl
weight_picked job (p ∷ ps) [] = refl
weight_picked job (p ∷ ps) (true ∷ m) = ap (λ w. pair_weight job p +ℤ w) (weight_picked job ps m)
weight_picked job (p ∷ ps) (false ∷ m) = let rest = weight_picked job ps m in omega (arith, ints, rest)

-- one that passes counts, another does not
pub count_true : {A : Type 0} (p : A → Bool) (x : A) (xs : List A) → p x ≡ true → count_by p (x ∷ xs) ≡ 1 + count_by p xs
count_true {A} p x xs t = sum_by-cons (λ (y : A). cond (p y) 1 0) x xs ∙ ap (λ b. cond b 1 0 + count_by p xs) t

pub count_false : {A : Type 0} (p : A → Bool) (x : A) (xs : List A) → p x ≡ false → count_by p (x ∷ xs) ≡ count_by p xs
count_false {A} p x xs f = sum_by-cons (λ (y : A). cond (p y) 1 0) x xs ∙ ap (λ b. cond b 1 0 + count_by p xs) f ∙ zero-add (count_by p xs)

-- the values from n on are those of the shorter list
next_values : (n : ℕ) (m v : List Bool) (b : Bool) → ((k : ℕ) → value_of m (n + k) ≡ value_of (b ∷ v) k) → (k : ℕ) → value_of m (n + 1 + k) ≡ value_of v k
next_values n m v b at k = let e : n + 1 + k ≡ n + suc k = omega arith in ap (value_of m) e ∙ at (suc k)

first_value : (n : ℕ) (m v : List Bool) (b : Bool) → ((k : ℕ) → value_of m (n + k) ≡ value_of (b ∷ v) k) → value_of m n ≡ b
first_value n m v b at = let e : n ≡ n + 0 = omega arith in ap (value_of m) e ∙ at 0

-- some place that passes is true where some pair that passes is taken
pub some_from : (test : ColPair → Bool) (n : ℕ) (ps : List ColPair) (m v : List Bool) → length v ≡ length ps → ((k : ℕ) → value_of m (n + k) ≡ value_of v k) → list_any (value_of m) (places test n ps) ≡ list_any test (picked ps v)
some_from test n [] m v e at = refl
some_from test n (p ∷ ps) m [] e at = absurd (omega (arith, e))
some_from test n (p ∷ ps) m (true ∷ v) e at =
    let here = first_value n m v true at in
    let rest = some_from test (n + 1) ps m v (omega (arith, e)) (next_values n m v true at) in
    elim (cases_Bool (test p)) [ inl t ↦ rw (t, here) refl | inr f ↦ rw f rest ]
some_from test n (p ∷ ps) m (false ∷ v) e at =
    let here = first_value n m v false at in
    let rest = some_from test (n + 1) ps m v (omega (arith, e)) (next_values n m v false at) in
    elim (cases_Bool (test p)) [ inl t ↦ rw (t, here) rest | inr f ↦ rw f rest ]

-- as many places that pass are true as pairs that pass are taken
pub count_from : (test : ColPair → Bool) (n : ℕ) (ps : List ColPair) (m v : List Bool) → length v ≡ length ps → ((k : ℕ) → value_of m (n + k) ≡ value_of v k) → count_by (value_of m) (places test n ps) ≡ count_by test (picked ps v)
count_from test n [] m v e at = refl
count_from test n (p ∷ ps) m [] e at = absurd (omega (arith, e))
count_from test n (p ∷ ps) m (true ∷ v) e at =
    let here = first_value n m v true at in
    let rest = count_from test (n + 1) ps m v (omega (arith, e)) (next_values n m v true at) in
    elim (cases_Bool (test p)) [
      | inl t ↦ ap (λ b. count_by (value_of m) (cond b (n ∷ places test (n + 1) ps) (places test (n + 1) ps))) t ∙ (count_true (value_of m) n (places test (n + 1) ps) here ∙ ap (λ k. 1 + k) rest ∙ sym (count_true test p (picked ps v) t))
      | inr f ↦ ap (λ b. count_by (value_of m) (cond b (n ∷ places test (n + 1) ps) (places test (n + 1) ps))) f ∙ (rest ∙ sym (count_false test p (picked ps v) f))
    ]
count_from test n (p ∷ ps) m (false ∷ v) e at =
    let here = first_value n m v false at in
    let rest = count_from test (n + 1) ps m v (omega (arith, e)) (next_values n m v false at) in
    elim (cases_Bool (test p)) [
      | inl t ↦ ap (λ b. count_by (value_of m) (cond b (n ∷ places test (n + 1) ps) (places test (n + 1) ps))) t ∙ count_false (value_of m) n (places test (n + 1) ps) here ∙ rest
      | inr f ↦ ap (λ b. count_by (value_of m) (cond b (n ∷ places test (n + 1) ps) (places test (n + 1) ps))) f ∙ rest
    ]

from_none : (m : List Bool) (k : ℕ) → value_of m (0 + k) ≡ value_of m k
from_none m k = let e : 0 + k ≡ k = omega arith in ap (value_of m) e

-- the same from the first place on
pub some_picked : (test : ColPair → Bool) (ps : List ColPair) (m : List Bool) → length m ≡ length ps → list_any (value_of m) (places test 0 ps) ≡ list_any test (picked ps m)
some_picked test ps m e = some_from test 0 ps m m e (from_none m)

pub count_picked : (test : ColPair → Bool) (ps : List ColPair) (m : List Bool) → length m ≡ length ps → count_by (value_of m) (places test 0 ps) ≡ count_by test (picked ps m)
count_picked test ps m e = count_from test 0 ps m m e (from_none m)
