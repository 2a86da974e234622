-- What holds of each item of joined and mapped lists.
use Rattle.std.proofs.Common.{◌≡◌, ℕ, ◌+◌, List, [], ◌∷◌, ◌++◌, map, length, refl, ap₂, ◌∙◌, sym, arith}
use Rattle.std.specs.List.{AllByRecursion, flat_map, sum_by}
use Rattle.std.proofs.lemmas.List.Sums.{sum_by-cons}
use Rattle.std.proofs.Common.{length-append}

module _ {A : Type 0} (P : A → Type 0) where
  pub all_front : (xs ys : List A) → AllByRecursion P (xs ++ ys) → AllByRecursion P xs
  all_front [] ys h = tt
  all_front (x ∷ xs) ys h = (h.0, all_front xs ys h.1)

  pub all_back : (xs ys : List A) → AllByRecursion P (xs ++ ys) → AllByRecursion P ys
  all_back [] ys h = h
  all_back (x ∷ xs) ys h = all_back xs ys h.1

  pub all_joined : (xs ys : List A) → AllByRecursion P xs → AllByRecursion P ys → AllByRecursion P (xs ++ ys)
  all_joined [] ys f g = g
  all_joined (x ∷ xs) ys f g = (f.0, all_joined xs ys f.1 g)

module _ {A B : Type 0} (P : A → Type 0) (Q : B → Type 0) where
  pub all_mapped : (f : A → B) → ((x : A) → P x → Q (f x)) → (xs : List A) → AllByRecursion P xs → AllByRecursion Q (map f xs)
  all_mapped f one [] h = tt
  all_mapped f one (x ∷ xs) h = (one x h.0, all_mapped f one xs h.1)

  pub all_flat : (f : A → List B) → ((x : A) → P x → AllByRecursion Q (f x)) → (xs : List A) → AllByRecursion P xs → AllByRecursion Q (flat_map f xs)
  all_flat f one [] h = tt
  all_flat f one (x ∷ xs) h = all_joined Q (f x) (flat_map f xs) (one x h.0) (all_flat f one xs h.1)

pub length_mapped : {A B : Type 0} (f : A → B) (xs : List A) → length (map f xs) ≡ length xs
length_mapped f [] = refl
length_mapped f (x ∷ xs) = let e = length_mapped f xs in cc

pub length_cases : {A B : Type 0} (f : A → B) (cs : List (List A)) → length (flat_map (λ (c : List B). c) (map (λ (c : List A). map f c) cs)) ≡ sum_by (λ (c : List A). length c) cs
length_cases f [] = refl
length_cases {A} {B} f (c ∷ cs) =
    length-append (map f c) (flat_map (λ (d : List B). d) (map (λ (d : List A). map f d) cs))
    ∙ ap₂ (λ (m n : ℕ). m + n) (length_mapped f c) (length_cases f cs)
    ∙ sym (sum_by-cons (λ (d : List A). length d) c cs)

pub length_counted : {A : Type 0} (xs : List A) → sum_by (λ (x : A). 1) xs ≡ length xs
length_counted [] = refl
length_counted {A} (x ∷ xs) =
    let e = length_counted xs in
    let k = sum_by-cons (λ (y : A). 1) x xs in
    omega arith
