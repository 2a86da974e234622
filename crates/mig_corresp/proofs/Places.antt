-- The places of pairs, one pair more at a time.
use Rattle.std.proofs.Common.{◌≡◌, ℕ, ◌+◌, ◌<◌, Bool, true, false, cond, List, [], ◌∷◌, ◌++◌, length, take, get_or, refl, ap, sym, ◌∙◌, inl, inr, arith, suc, zero}
use Rattle.std.proofs.lemmas.Bool.{cases_Bool}
use Rattle.mig_invariant.specs.declared.corresp.ColPair.{ColPair}
use Rattle.mig_corresp.specs.Coding.{places, picked}

-- the places of the first pairs, and that of one more
pub places_from : (test : ColPair → Bool) (n : ℕ) (ps : List ColPair) (i : ℕ) (d : ColPair) → i < length ps → places test n (take (i + 1) ps) ≡ places test n (take i ps) ++ cond (test (get_or ps i d)) ((n + i) ∷ []) []
places_from test n [] i d lt = absurd (omega (arith, lt))
places_from test n (p ∷ ps) zero d lt = let e : n + 0 ≡ n = omega arith in rw e refl
places_from test n (p ∷ ps) (suc i) d lt =
    let e : n + suc i ≡ n + 1 + i = omega arith in
    let step : suc i + 1 ≡ suc (i + 1) = omega arith in
    let rest = places_from test (n + 1) ps i d (omega (arith, lt)) in
    elim (cases_Bool (test p)) [
      | inl t ↦ rw (step, e, t) (ap (λ ys. n ∷ ys) rest)
      | inr f ↦ rw (step, e, f) rest
    ]

-- the same from 0 on
pub places_more : (test : ColPair → Bool) (ps : List ColPair) (i : ℕ) (d : ColPair) → i < length ps → places test 0 (take (i + 1) ps) ≡ places test 0 (take i ps) ++ cond (test (get_or ps i d)) (i ∷ []) []
places_more test ps i d lt = let e : 0 + i ≡ i = omega arith in rw e at (places_from test 0 ps i d lt)

-- the pairs that are taken of the first ones, and of one more
pub picked_more : (ps : List ColPair) (m : List Bool) (i : ℕ) (d : ColPair) → i < length ps → picked (take (i + 1) ps) m ≡ picked (take i ps) m ++ cond (get_or m i false) (get_or ps i d ∷ []) []
picked_more [] m i d lt = absurd (omega (arith, lt))
picked_more (p ∷ ps) [] zero d lt = refl
picked_more (p ∷ ps) [] (suc i) d lt = let step : suc i + 1 ≡ suc (i + 1) = omega arith in rw step refl
picked_more (p ∷ ps) (true ∷ m) zero d lt = refl
picked_more (p ∷ ps) (false ∷ m) zero d lt = refl
picked_more (p ∷ ps) (true ∷ m) (suc i) d lt = let step : suc i + 1 ≡ suc (i + 1) = omega arith in rw step (ap (λ ys. p ∷ ys) (picked_more ps m i d (omega (arith, lt))))
picked_more (p ∷ ps) (false ∷ m) (suc i) d lt = let step : suc i + 1 ≡ suc (i + 1) = omega arith in rw step (picked_more ps m i d (omega (arith, lt)))
