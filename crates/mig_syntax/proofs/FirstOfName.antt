-- The number of the first item of a name, where no two items have one name.
use Rattle.std.proofs.Common.{◌≡◌, ℕ, ◌<◌, ◌≤◌, zero, suc, min, Bool, true, false, cond, ◌||◌, List, [], ◌∷◌, length, take, get_or, Option, Some, None, find, refl, sym, ap, ◌∙◌, subst, arith, lt-ltb, eq-eqb, nat_lt, slice_get}
use Rattle.std.specs.List.{list_any, position_or_len}
use Rattle.std.specs.Option.{option_map_or}
use Rattle.std.specs.Str.{bytes_eq}
use Rattle.std.proofs.lemmas.List.Folds.{find_at}
use Rattle.std.proofs.lemmas.Option.{slice_get-get_or}
use Rattle.mig_base.specs.Lists.{again}
use Rattle.mig_syntax.specs.Naming.{number_at, number_of}

pub same_bytes : (w : List ℕ) → bytes_eq w w ≡ true
same_bytes [] = refl
same_bytes (b ∷ bs) = rw (eq-eqb b b refl) (same_bytes bs)

pub or_first : (x y : Bool) → (x || y) ≡ false → x ≡ false
or_first true y e = absurd cc
or_first false y e = refl

pub or_second : (x y : Bool) → (x || y) ≡ false → y ≡ false
or_second true y e = absurd cc
or_second false y e = e

module _ {A : Type 0} (test : A → Bool) where
  first_is : (xs : List A) (k : ℕ) (d : A) → k < length xs → list_any test (take k xs) ≡ false → test (get_or xs k d) ≡ true → position_or_len test xs ≡ k
  first_is [] k d lt none here = absurd (omega arith)
  first_is (x ∷ xs) zero d lt none here = rw here refl
  first_is (x ∷ xs) (suc k) d lt none here =
      let first = or_first (test x) (list_any test (take k xs)) none in
      let more : position_or_len test xs ≡ k = first_is xs k d (omega arith) (or_second (test x) (list_any test (take k xs)) none) here in
      rw first (omega arith)

  number_found : (xs : List A) (k : ℕ) (d : A) → k < length xs → length xs < 4294967296 → list_any test (take k xs) ≡ false → test (get_or xs k d) ≡ true → number_of test xs ≡ k
  number_found xs k d lt few none here =
      ap number_at (at (position_or_len test xs) (first_is xs k d lt none here) lt) ∙ small k (omega arith)
    where
      at : (n : ℕ) → n ≡ k → k < length xs → cond (nat_lt n (length xs)) (Some n) None ≡ Some k
      at n e l = subst (λ (m : ℕ). cond (nat_lt m (length xs)) (Some m) None ≡ Some k) (sym e) (rw (lt-ltb k (length xs) l) refl)

      small : (k : ℕ) → k ≤ 4294967295 → min k 4294967295 ≡ k
      small k le = omega arith

  item_found : (xs : List A) (k : ℕ) (d : A) → k < length xs → list_any test (take k xs) ≡ false → test (get_or xs k d) ≡ true → find test xs ≡ Some (get_or xs k d)
  item_found xs k d lt none here = find_at test xs ∙ ap (slice_get xs) (first_is xs k d lt none here) ∙ slice_get-get_or xs k d lt

-- items that have names
module _ {A : Type 0} (name : A → List ℕ) where
  earlier : (xs : List A) (k : ℕ) (d : A) → k < length xs → again (λ (a b : A). bytes_eq (name a) (name b)) xs k ≡ false → list_any (λ (y : A). bytes_eq (name y) (name (get_or xs k d))) (take k xs) ≡ false
  earlier xs k d lt once = sym (ap (λ (o : Option A). option_map_or (λ (x : A). list_any (λ (y : A). bytes_eq (name y) (name x)) (take k xs)) o false) (slice_get-get_or xs k d lt)) ∙ once

  pub number_back : (xs : List A) (k : ℕ) (d : A) → k < length xs → length xs < 4294967296 → again (λ (a b : A). bytes_eq (name a) (name b)) xs k ≡ false → number_of (λ (y : A). bytes_eq (name y) (name (get_or xs k d))) xs ≡ k
  number_back xs k d lt few once = number_found (λ (y : A). bytes_eq (name y) (name (get_or xs k d))) xs k d lt few (earlier xs k d lt once) (same_bytes (name (get_or xs k d)))

  pub item_back : (xs : List A) (k : ℕ) (d : A) → k < length xs → again (λ (a b : A). bytes_eq (name a) (name b)) xs k ≡ false → find (λ (y : A). bytes_eq (name y) (name (get_or xs k d))) xs ≡ Some (get_or xs k d)
  item_back xs k d lt once = item_found (λ (y : A). bytes_eq (name y) (name (get_or xs k d))) xs k d lt (earlier xs k d lt once) (same_bytes (name (get_or xs k d)))
