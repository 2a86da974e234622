-- What stands in lists that are made of others.
use Rattle.std.proofs.Common.{◌≡◌, ◌⊎◌, Bool, true, cond, List, [], ◌∷◌, ◌++◌, map, refl, ap, sym, ◌∙◌, subst, inl, inr}
use Rattle.std.specs.Prelude.{filter}
use Rattle.std.specs.List.{flat_map}
use Rattle.std.proofs.lemmas.Bool.{cases_Bool, false≢true}
use Rattle.mig_listing.specs.Listing.{IsIn}

-- an item of xs ++ ys is one of xs or one of ys
pub in_append : {A : Type 0} (xs ys : List A) (z : A) → IsIn z (xs ++ ys) → IsIn z xs ⊎ IsIn z ys
in_append [] ys z i = inr i
in_append (x ∷ xs) ys z i = elim i [
  | inl e ↦ inl (inl e)
  | inr j ↦ elim (in_append xs ys z j) [ inl k ↦ inl (inr k) | inr k ↦ inr k ]
]

-- what stands in the first of two lists stands in both together
pub in_append_left : {A : Type 0} (xs ys : List A) (z : A) → IsIn z xs → IsIn z (xs ++ ys)
in_append_left [] ys z i = absurd i
in_append_left (x ∷ xs) ys z i = elim i [ inl e ↦ inl e | inr j ↦ inr (in_append_left xs ys z j) ]

-- and so does what stands in the second
pub in_append_right : {A : Type 0} (xs ys : List A) (z : A) → IsIn z ys → IsIn z (xs ++ ys)
in_append_right [] ys z i = i
in_append_right (x ∷ xs) ys z i = inr (in_append_right xs ys z i)

-- an item of a flat_map is one of the list that f gives for some item of xs
pub in_flat_map : {A B : Type 0} (f : A → List B) (xs : List A) (y : B) → IsIn y (flat_map f xs) → (x : A) × IsIn x xs × IsIn y (f x)
in_flat_map f [] y i = absurd i
in_flat_map f (x ∷ xs) y i = elim (in_append (f x) (flat_map f xs) y i) [
  | inl j ↦ (x, inl refl, j)
  | inr j ↦ let rest = in_flat_map f xs y j in (rest.0, inr rest.1, rest.2)
]

-- what stands in an item's list stands in all lists together
pub from_flat_map : {A B : Type 0} (f : A → List B) (xs : List A) (x : A) (y : B) → IsIn x xs → IsIn y (f x) → IsIn y (flat_map f xs)
from_flat_map f [] x y i j = absurd i
from_flat_map f (a ∷ xs) x y i j = elim i [
  | inl e ↦ in_append_left (f a) (flat_map f xs) y (subst (λ b. IsIn y (f b)) e j)
  | inr k ↦ in_append_right (f a) (flat_map f xs) y (from_flat_map f xs x y k j)
]

-- an item of a map is what f gives for some item of xs
pub in_map : {A B : Type 0} (f : A → B) (xs : List A) (y : B) → IsIn y (map f xs) → (x : A) × IsIn x xs × (y ≡ f x)
in_map f [] y i = absurd i
in_map f (x ∷ xs) y i = elim i [
  | inl e ↦ (x, inl refl, e)
  | inr j ↦ let rest = in_map f xs y j in (rest.0, inr rest.1, rest.2)
]

-- an item's value stands in the list of values
pub from_map : {A B : Type 0} (f : A → B) (xs : List A) (x : A) → IsIn x xs → IsIn (f x) (map f xs)
from_map f [] x i = absurd i
from_map f (a ∷ xs) x i = elim i [ inl e ↦ inl (ap f e) | inr j ↦ inr (from_map f xs x j) ]

-- an item of a filter is one of xs, and passes the test
pub in_filter : {A : Type 0} (p : A → Bool) (xs : List A) (y : A) → IsIn y (filter p xs) → IsIn y xs × (p y ≡ true)
in_filter p [] y i = absurd i
in_filter p (x ∷ xs) y i = elim (cases_Bool (p x)) [
  | inl t ↦ elim (subst (λ b. IsIn y (cond b (x ∷ filter p xs) (filter p xs))) t i) [
    | inl e ↦ (inl e, ap p e ∙ t)
    | inr j ↦ let rest = in_filter p xs y j in (inr rest.0, rest.1)
  ]
  | inr f ↦ let rest = in_filter p xs y (subst (λ b. IsIn y (cond b (x ∷ filter p xs) (filter p xs))) f i) in (inr rest.0, rest.1)
]

-- an item that passes the test is left
pub from_filter : {A : Type 0} (p : A → Bool) (xs : List A) (y : A) → IsIn y xs → p y ≡ true → IsIn y (filter p xs)
from_filter p [] y i t = absurd i
from_filter p (x ∷ xs) y i t = elim (cases_Bool (p x)) [
  | inl here ↦ rw here (elim i [ inl e ↦ inl e | inr j ↦ inr (from_filter p xs y j t) ])
  | inr not_here ↦ rw not_here (elim i [ inl e ↦ absurd (false≢true (sym not_here ∙ (ap p (sym e) ∙ t))) | inr j ↦ from_filter p xs y j t ])
]
