-- A list in order has the items of the list, whatever the order.
use Rattle.std.proofs.Common.{◌≡◌, ℕ, suc, ◌+◌, Bool, true, false, cond, ◌&&◌, List, [], ◌∷◌, length, refl, sym, ap, ◌∙◌, arith, Ordering, Less, Equal, Greater}
use Rattle.std.specs.List.{list_any, list_all}
use Rattle.std.specs.Ordering.{is_gt, match_ordering}
use Rattle.mig_meaning.specs.Lists.{total, bit, Each}
use Rattle.mig_algebra.specs.Sorted.{put_in, sorted, put_once, sorted_once}
use Rattle.mig_algebra.proofs.Some.{any_by_totals}

and-swap : (a b c : Bool) → (a && (b && c)) ≡ (b && (a && c))
and-swap true true c = refl
and-swap true false c = refl
and-swap false true c = refl
and-swap false false c = refl

module _ {A : Type 0} (order : A → A → Ordering) where
  -- an item more
  pub each-put_in : (P : A → Type 0) (x : A) (ys : List A) → P x → Each P ys → Each P (put_in order x ys)
  each-put_in P x [] p h = (p, tt)
  each-put_in P x (y ∷ ys) p h = go (is_gt (order x y)) (each-put_in P x ys p h.1)
    where
      go : (b : Bool) → Each P (put_in order x ys) → Each P (cond b (y ∷ put_in order x ys) (x ∷ (y ∷ ys)))
      go true k = (h.0, k)
      go false k = (p, h)

  -- what holds of each item
  pub each-sorted : (P : A → Type 0) (xs : List A) → Each P xs → Each P (sorted order xs)
  each-sorted P [] h = tt
  each-sorted P (x ∷ xs) h = each-put_in P x (sorted order xs) h.0 (each-sorted P xs h.1)

  total-put_in : (f : A → ℕ) (x : A) (ys : List A) → total f (put_in order x ys) ≡ f x + total f ys
  total-put_in f x [] = refl
  total-put_in f x (y ∷ ys) = go (is_gt (order x y)) (total-put_in f x ys)
    where
      go : (b : Bool) → total f (put_in order x ys) ≡ f x + total f ys → total f (cond b (y ∷ put_in order x ys) (x ∷ (y ∷ ys))) ≡ f x + (f y + total f ys)
      go true k = omega (arith, k)
      go false k = refl

  -- the sum over the items
  pub total-sorted : (f : A → ℕ) (xs : List A) → total f (sorted order xs) ≡ total f xs
  total-sorted f [] = refl
  total-sorted f (x ∷ xs) = total-put_in f x (sorted order xs) ∙ ap (λ n. f x + n) (total-sorted f xs)

  -- whether some item passes
  pub any-sorted : (t : A → Bool) (xs : List A) → list_any t (sorted order xs) ≡ list_any t xs
  any-sorted t xs = any_by_totals t (sorted order xs) t xs (total-sorted (λ x. bit (t x)) xs)

  -- whether all items pass
  pub passes-sorted : (t : A → Bool) (xs : List A) → list_all t (sorted order xs) ≡ list_all t xs
  passes-sorted t [] = refl
  passes-sorted t (x ∷ xs) = put (sorted order xs) ∙ ap (λ b. t x && b) (passes-sorted t xs)
    where
      put : (ys : List A) → list_all t (put_in order x ys) ≡ (t x && list_all t ys)
      put [] = refl
      put (y ∷ ys) = go (is_gt (order x y)) (put ys)
        where
          go : (b : Bool) → list_all t (put_in order x ys) ≡ (t x && list_all t ys) → list_all t (cond b (y ∷ put_in order x ys) (x ∷ (y ∷ ys))) ≡ (t x && (t y && list_all t ys))
          go true k = ap (λ c. t y && c) k ∙ and-swap (t y) (t x) (list_all t ys)
          go false k = refl

  -- the number of items
  pub length-sorted : (xs : List A) → length (sorted order xs) ≡ length xs
  length-sorted xs = count (sorted order xs) ∙ total-sorted (λ x. 1) xs ∙ sym (count xs)
    where
      count : (ys : List A) → length ys ≡ total (λ x. 1) ys
      count [] = refl
      count (y ∷ ys) = let k : suc (total (λ x. 1) ys) ≡ 1 + total (λ x. 1) ys = omega arith in ap suc (count ys) ∙ k

  -- ---- equal items once

  each-put_once : (P : A → Type 0) (x : A) (ys : List A) → P x → Each P ys → Each P (put_once order x ys)
  each-put_once P x [] p h = (p, tt)
  each-put_once P x (y ∷ ys) p h = go (order x y) (each-put_once P x ys p h.1)
    where
      go : (o : Ordering) → Each P (put_once order x ys) → Each P (match_ordering o (x ∷ (y ∷ ys)) (y ∷ ys) (y ∷ put_once order x ys))
      go Less k = (p, h)
      go Equal k = h
      go Greater k = (h.0, k)

  -- what holds of each item
  pub each-sorted_once : (P : A → Type 0) (xs : List A) → Each P xs → Each P (sorted_once order xs)
  each-sorted_once P [] h = tt
  each-sorted_once P (x ∷ xs) h = each-put_once P x (sorted_once order xs) h.0 (each-sorted_once P xs h.1)

  -- a test does not tell items apart that the order does not
  abbrev pub Blind : (A → Bool) → Type 0
  Blind t = (x y : A) → order x y ≡ Equal → t x ≡ t y

  passes-put_once : (t : A → Bool) → Blind t → (x : A) (ys : List A) → list_all t (put_once order x ys) ≡ (t x && list_all t ys)
  passes-put_once t blind x [] = refl
  passes-put_once t blind x (y ∷ ys) = go (order x y) (blind x y) (passes-put_once t blind x ys)
    where
      twice : (a c : Bool) → (a && c) ≡ (a && (a && c))
      twice true c = refl
      twice false c = refl

      go : (o : Ordering) → (o ≡ Equal → t x ≡ t y) → list_all t (put_once order x ys) ≡ (t x && list_all t ys) → list_all t (match_ordering o (x ∷ (y ∷ ys)) (y ∷ ys) (y ∷ put_once order x ys)) ≡ (t x && (t y && list_all t ys))
      go Less b k = refl
      go Equal b k = twice (t y) (list_all t ys) ∙ ap (λ a. a && (t y && list_all t ys)) (sym (b refl))
      go Greater b k = ap (λ a. t y && a) k ∙ and-swap (t y) (t x) (list_all t ys)

  -- whether all items pass, by a test that sees no more than the order
  pub passes-sorted_once : (t : A → Bool) → Blind t → (xs : List A) → list_all t (sorted_once order xs) ≡ list_all t xs
  passes-sorted_once t blind [] = refl
  passes-sorted_once t blind (x ∷ xs) = passes-put_once t blind x (sorted_once order xs) ∙ ap (λ a. t x && a) (passes-sorted_once t blind xs)
