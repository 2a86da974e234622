-- The order of lists, item by item, and that of bodies by the lists of their literals.
use Rattle.std.specs.Prelude.{min}
use Rattle.std.proofs.lemmas.Bool.{cases_lt}
use Rattle.std.proofs.Common.{◌≡◌, ℕ, ◌+◌, ◌<◌, ◌≤◌, Bool, List, [], ◌∷◌, length, drop, slice_index_or, zero, suc, refl, ap, ◌∙◌, arith, inl, inr, ◌⊎◌}
use Rattle.std.proofs.lemmas.Bool.Decides.{nat_tests}
use Rattle.std.specs.Cmp.Lexicographic.{slice_cmp}
use Rattle.std.specs.declared.cmp.Ordering.{Ordering}
use Rattle.std.specs.Ordering.{nat_cmp, bool_cmp, ordering_then}
use denote.Hole.Carrier.{hidden}
use Rattle.mig_algebra.specs.declared.literals.Inner.{Inner}
use Rattle.mig_algebra.specs.declared.literals.Lit.{Lit}
use Rattle.mig_algebra.specs.declared.literals.Lit.TheBlock.{hidden-the_row-Lit-0}
use Rattle.mig_algebra.specs.declared.literals.Lit.TheVariants.{Any}
use Rattle.mig_algebra.specs.Orders.{var_order, lit_order, row_order}

-- where a loop up to the lesser of two lengths ends
ended : (a b n i : ℕ) → n ≡ min a b → n ≤ i → i ≤ n → (i ≤ a) × (i ≤ b) × ((i ≡ a) ⊎ (i ≡ b))
ended a b n i e h k = go (cases_lt a b)
  where
    go : (a < b) ⊎ (b ≤ a) → (i ≤ a) × (i ≤ b) × ((i ≡ a) ⊎ (i ≡ b))
    go (inl l) = let m : n ≡ a = omega (arith, e, l) in (omega (arith, m, k), omega (arith, m, k, l), inl (omega (arith, m, h, k)))
    go (inr l) = let m : n ≡ b = omega (arith, e, l) in (omega (arith, m, k, l), omega (arith, m, k), inr (omega (arith, m, h, k)))

module _ {A : Type 0} (R : A → A → Ordering) where
  -- two lists from item i on: their items i, then what is behind
  pub order_step : (xs ys : List A) (i : ℕ) (c d : A) → i < length xs → i < length ys → slice_cmp R (drop i xs) (drop i ys) ≡ ordering_then (R (slice_index_or xs i c) (slice_index_or ys i d)) (slice_cmp R (drop (i + 1) xs) (drop (i + 1) ys))
  order_step [] ys i c d h k = absurd (omega (arith, h))
  order_step (x ∷ xs) [] i c d h k = absurd (omega (arith, k))
  order_step (x ∷ xs) (y ∷ ys) zero c d h k = refl
  order_step (x ∷ xs) (y ∷ ys) (suc i) c d h k = let e : suc i + 1 ≡ suc (i + 1) = omega arith in rw e (order_step xs ys i c d (omega (arith, h)) (omega (arith, k)))

  -- where one of them ends, the shorter is first
  pub order_end : (xs ys : List A) (i : ℕ) → i ≤ length xs → i ≤ length ys → (i ≡ length xs) ⊎ (i ≡ length ys) → slice_cmp R (drop i xs) (drop i ys) ≡ nat_cmp (length xs) (length ys)
  order_end [] [] zero h k e = refl
  order_end [] [] (suc i) h k e = refl
  order_end [] (y ∷ ys) zero h k e = grind (arith, nat_tests)
  order_end [] (y ∷ ys) (suc i) h k e = absurd (omega (arith, h))
  order_end (x ∷ xs) [] zero h k e = grind (arith, nat_tests)
  order_end (x ∷ xs) [] (suc i) h k e = absurd (omega (arith, k))
  order_end (x ∷ xs) (y ∷ ys) zero h k (inl e) = absurd (omega (arith, e))
  order_end (x ∷ xs) (y ∷ ys) zero h k (inr e) = absurd (omega (arith, e))
  order_end (x ∷ xs) (y ∷ ys) (suc i) h k e =
      let rest = order_end xs ys i (omega (arith, h)) (omega (arith, k)) (less e) in
      rest ∙ grind (arith, nat_tests)
    where
      less : (suc i ≡ length (x ∷ xs)) ⊎ (suc i ≡ length (y ∷ ys)) → (i ≡ length xs) ⊎ (i ≡ length ys)
      less (inl e') = inl (omega (arith, e'))
      less (inr e') = inr (omega (arith, e'))

-- the end of such a loop
module _ {A : Type 0} (R : A → A → Ordering) where
  pub order_left : (xs ys : List A) (n i : ℕ) → n ≡ min (length xs) (length ys) → n ≤ i → i ≤ n → slice_cmp R (drop i xs) (drop i ys) ≡ nat_cmp (length xs) (length ys)
  order_left xs ys n i e h k = let w = ended (length xs) (length ys) n i e h k in order_end R xs ys i w.0 w.1 w.2

row-order : (xs ys : List Lit) → row_order (hidden-the_row-Lit-0 xs) (hidden-the_row-Lit-0 ys) ≡ slice_cmp lit_order xs ys
unfolding hidden-the_row-Lit-0 hidden
row-order [] [] = refl
row-order [] (y ∷ ys) = refl
row-order (x ∷ xs) [] = refl
row-order (x ∷ xs) (y ∷ ys) = ap (ordering_then (lit_order x y)) (row-order xs ys)

-- two bodies by the lists of their literals
pub any_order : (held held' : Bool) (a b : Inner) → lit_order (Any held a) (Any held' b) ≡ ordering_then (bool_cmp held held') (ordering_then (slice_cmp var_order a.vars b.vars) (slice_cmp lit_order a.lits b.lits))
any_order held held' a b = ap (λ o. ordering_then (bool_cmp held held') (ordering_then (slice_cmp var_order a.vars b.vars) o)) (row-order a.lits b.lits)
