-- A list in order is the one list in order with these items.
use Rattle.std.proofs.Common.{◌≡◌, ℕ, ◌+◌, ◌<◌, ◌≤◌, Bool, true, false, cond, List, [], ◌∷◌, length, slice_index_or, suc, refl, sym, ap, ◌∙◌, arith, inl, inr, ◌⊎◌}
use Rattle.std.specs.Prelude.{◌↔◌}
use Rattle.std.specs.Cmp.{IsTotalOrder}
use Rattle.std.specs.List.{sum_by, fold}
use Rattle.std.specs.List.Sorted.{IsPermutation, IsSorted}
use Rattle.std.specs.declared.cmp.Ordering.{Ordering}
use Rattle.std.specs.declared.cmp.Ordering.TheVariants.{Less, Equal, Greater}
use Rattle.std.specs.Ordering.{is_lt, is_eq, is_gt, ordering_reverse}
use Rattle.std.proofs.lemmas.Cmp.{upto, tied_itself, alike_right}
use Rattle.std.proofs.lemmas.List.Sorted.{ranks_by, sorted_far, sum_by-IsPermutation}
use Rattle.mig_meaning.specs.Lists.{total, bit, Each}
use Rattle.mig_algebra.specs.Sorted.{put_in, sorted}

-- ---- orderings

-- an ordering is one of three
pub three_ways : (o : Ordering) → (o ≡ Less) ⊎ ((o ≡ Equal) ⊎ (o ≡ Greater))
three_ways Less = inl refl
three_ways Equal = inr (inl refl)
three_ways Greater = inr (inr refl)

gt-turned : (o : Ordering) → is_gt (ordering_reverse o) ≡ is_lt o
gt-turned Less = refl
gt-turned Equal = refl
gt-turned Greater = refl

-- what is greater stands behind, the other way round
not-less : (o : Ordering) → is_gt o ≡ true → is_lt o ≡ false
not-less Less h = cc
not-less Equal h = cc
not-less Greater h = refl

-- in an order that ties equal items alone, items tie exactly where they are equal
pub ties_same : {A : Type 0} (R : A → A → Ordering) → IsTotalOrder R → ((x y : A) → R x y ≡ Equal → x ≡ y) → (x y : A) → (R x y ≡ Equal) ↔ (x ≡ y)
ties_same R o tie x y = (tie x y, λ e. ap (R x) (sym e) ∙ tied_itself o x)

-- ---- sums

fold-total : {A : Type 0} (f : A → ℕ) (n : ℕ) (xs : List A) → fold (λ a x. a + f x) n xs ≡ n + total f xs
fold-total f n [] = omega arith
fold-total f n (x ∷ xs) = let e = fold-total f (n + f x) xs in omega (arith, e)

-- both spellings of a sum
pub sum_by-total : {A : Type 0} (f : A → ℕ) (xs : List A) → sum_by f xs ≡ total f xs
sum_by-total f xs = let e = fold-total f 0 xs in omega (arith, e)

module _ {A : Type 0} (R : A → A → Ordering) where
  put-total : (f : A → ℕ) (x : A) (ys : List A) → total f (put_in R x ys) ≡ f x + total f ys
  put-total f x [] = refl
  put-total f x (y ∷ ys) = go (is_gt (R x y)) (put-total f x ys)
    where
      go : (b : Bool) → total f (put_in R x ys) ≡ f x + total f ys → total f (cond b (y ∷ put_in R x ys) (x ∷ (y ∷ ys))) ≡ f x + (f y + total f ys)
      go true ih = omega (arith, ih)
      go false ih = refl

  -- a list in order has the items of the list
  pub sorted-total : (f : A → ℕ) (xs : List A) → total f (sorted R xs) ≡ total f xs
  sorted-total f [] = refl
  sorted-total f (x ∷ xs) = put-total f x (sorted R xs) ∙ ap (λ n. f x + n) (sorted-total f xs)

  -- no item stands before one that it is greater than
  abbrev pub Up : List A → Type 0
  Up [] = Unit {0}
  Up (x ∷ xs) = Each (λ y. is_gt (R x y) ≡ false) xs × Up xs

each-put : {A : Type 0} (R : A → A → Ordering) (P : A → Type 0) (x : A) (ys : List A) → P x → Each P ys → Each P (put_in R x ys)
each-put R P x [] h k = (h, tt)
each-put R P x (y ∷ ys) h k = go (is_gt (R x y)) (each-put R P x ys h k.1)
  where
    go : (b : Bool) → Each P (put_in R x ys) → Each P (cond b (y ∷ put_in R x ys) (x ∷ (y ∷ ys)))
    go true ih = (k.0, ih)
    go false ih = (h, k)

each-on : {A : Type 0} (P Q : A → Type 0) → ((x : A) → P x → Q x) → (xs : List A) → Each P xs → Each Q xs
each-on P Q f [] h = tt
each-on P Q f (x ∷ xs) h = (f x h.0, each-on P Q f xs h.1)

each-at : {A : Type 0} (P : A → Type 0) (xs : List A) → ((k : ℕ) (d : A) → k < length xs → P (slice_index_or xs k d)) → Each P xs
each-at P [] h = tt
each-at P (x ∷ xs) h = (h 0 x (omega arith), each-at P xs (λ k d lt. h (suc k) d (omega (arith, lt))))

module _ {A : Type 0} (R : A → A → Ordering) (o : IsTotalOrder R) where
  turned : (x y : A) → is_lt (R y x) ≡ false → is_gt (R x y) ≡ false
  turned x y h = ap is_gt (o.antisymm x y) ∙ gt-turned (R y x) ∙ h

  put-up : (x : A) (ys : List A) → Up R ys → Up R (put_in R x ys)
  put-up x [] h = (tt, tt)
  put-up x (y ∷ ys) h = go (is_gt (R x y)) refl (put-up x ys h.1)
    where
      go : (b : Bool) → is_gt (R x y) ≡ b → Up R (put_in R x ys) → Up R (cond b (y ∷ put_in R x ys) (x ∷ (y ∷ ys)))
      go true e ih = (each-put R (λ z. is_gt (R y z) ≡ false) x ys (turned y x (not-less (R x y) e)) h.0, ih)
      go false e ih = ((e, each-on (λ z. is_gt (R y z) ≡ false) (λ z. is_gt (R x z) ≡ false) (λ z k. upto o x y z e k) ys h.0), h)

  -- a list in order is in order
  pub sorted-up : (xs : List A) → Up R (sorted R xs)
  sorted-up [] = tt
  sorted-up (x ∷ xs) = put-up x (sorted R xs) (sorted-up xs)

  far-up : (xs : List A) → ((i j : ℕ) (d : A) → i ≤ j → j < length xs → is_lt (R (slice_index_or xs j d) (slice_index_or xs i d)) ≡ false) → Up R xs
  far-up [] h = tt
  far-up (x ∷ xs) h = (
    each-at (λ y. is_gt (R x y) ≡ false) xs (λ k d lt. turned x (slice_index_or xs k d) (h 0 (suc k) d (omega arith) (omega (arith, lt)))),
    far-up xs (λ i j d le lt. h (suc i) (suc j) d (omega (arith, le)) (omega (arith, lt))),
  )

  -- so is what a sort leaves
  pub up-from_sorted : (xs : List A) → IsSorted R xs → Up R xs
  up-from_sorted xs h = far-up xs (sorted_far (λ x y. is_lt (R x y)) (ranks_by o (λ x. x)) xs h)

  -- what is less than the first is less than all
  less-all : (x y : A) (ys : List A) → R x y ≡ Less → Each (λ z. is_gt (R y z) ≡ false) ys → Each (λ z. R x z ≡ Less) ys
  less-all x y ys h = each-on (λ z. is_gt (R y z) ≡ false) (λ z. R x z ≡ Less) step ys
    where
      step : (z : A) → is_gt (R y z) ≡ false → R x z ≡ Less
      step z k = go (three_ways (R y z))
        where
          go : (R y z ≡ Less) ⊎ ((R y z ≡ Equal) ⊎ (R y z ≡ Greater)) → R x z ≡ Less
          go (inl e) = o.trans x y z h e
          go (inr (inl e)) = sym (alike_right o y z x e) ∙ h
          go (inr (inr e)) = let bad : true ≡ false = sym (ap is_gt e) ∙ k in cc

  none-tie : (x : A) (ys : List A) → Each (λ z. R x z ≡ Less) ys → total (λ z. bit (is_eq (R x z))) ys ≡ 0
  none-tie x [] h = refl
  none-tie x (y ∷ ys) h = let e = ap (λ r. bit (is_eq r)) h.0 in let k = none-tie x ys h.1 in omega (arith, e, k)

  -- two lists in order with the same items are not such that one's first item is less than all of the other
  less-first : (x y : A) (xs ys : List A) → R x y ≡ Less → Each (λ z. is_gt (R y z) ≡ false) ys → ((f : A → ℕ) → total f (x ∷ xs) ≡ total f (y ∷ ys)) → ⊥
  less-first x y xs ys h k same =
      let counted = same (λ z. bit (is_eq (R x z))) in
      let here = ap (λ r. bit (is_eq r)) (tied_itself o x) in
      let there = ap (λ r. bit (is_eq r)) h in
      let rest = none-tie x ys (less-all x y ys h k) in
      omega (arith, counted, here, there, rest)

  module _ (tie : (x y : A) → R x y ≡ Equal → x ≡ y) where
    -- two lists in order with the same items are one
    pub one_up : (xs ys : List A) → Up R xs → Up R ys → ((f : A → ℕ) → total f xs ≡ total f ys) → xs ≡ ys
    one_up [] [] h k same = refl
    one_up [] (y ∷ ys) h k same = let e = same (λ z. 1) in absurd (omega (arith, e))
    one_up (x ∷ xs) [] h k same = let e = same (λ z. 1) in absurd (omega (arith, e))
    one_up (x ∷ xs) (y ∷ ys) h k same = go (three_ways (R x y)) (one_up xs ys h.1 k.1)
      where
        go : (R x y ≡ Less) ⊎ ((R x y ≡ Equal) ⊎ (R x y ≡ Greater)) → (((f : A → ℕ) → total f xs ≡ total f ys) → xs ≡ ys) → x ∷ xs ≡ y ∷ ys
        go (inl e) more = absurd (less-first x y xs ys e k.0 same)
        go (inr (inl e)) more =
            let first = tie x y e in
            ap (λ z. z ∷ xs) first ∙ ap (λ zs. y ∷ zs) (more (λ f. let whole = same f in let one = ap f first in omega (arith, whole, one)))
        go (inr (inr e)) more = absurd (less-first y x ys xs (o.antisymm y x ∙ ap ordering_reverse e) h.0 (λ f. sym (same f)))

    -- what a sort leaves is the list in order
    pub sorted_is : (xs ys : List A) → IsPermutation xs ys → IsSorted R ys → ys ≡ sorted R xs
    sorted_is xs ys moved up =
        one_up ys (sorted R xs) (up-from_sorted ys up) (sorted-up xs) (λ f.
        sym (sum_by-total f ys) ∙ sum_by-IsPermutation f xs ys moved ∙ sum_by-total f xs ∙ sym (sorted-total R f xs))
