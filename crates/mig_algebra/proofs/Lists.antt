-- What holds of each element of a list, at parts of it and beside other such facts.
use Rattle.std.proofs.Common.{◌≡◌, Bool, true, false, cond, ◌&&◌, List, [], ◌∷◌, ◌++◌, refl, ap₂, inl, inr, ◌⊎◌}
use Rattle.std.specs.Prelude.{filter}
use Rattle.std.specs.List.{list_all}
use Rattle.std.proofs.lemmas.Bool.{cases_Bool, and_parts}
use Rattle.mig_meaning.specs.Lists.{Each}

-- the element between two parts
pub each-middle : {X : Type 0} (P : X → Type 0) (xs : List X) (y : X) (ys : List X) → Each P (xs ++ (y ∷ ys)) → P y
each-middle P [] y ys h = h.0
each-middle P (x ∷ xs) y ys h = each-middle P xs y ys h.1

-- all but that element
pub each-drop_middle : {X : Type 0} (P : X → Type 0) (xs : List X) (y : X) (ys : List X) → Each P (xs ++ (y ∷ ys)) → Each P (xs ++ ys)
each-drop_middle P [] y ys h = h.1
each-drop_middle P (x ∷ xs) y ys h = (h.0, each-drop_middle P xs y ys h.1)

-- the first part
pub each-left : {X : Type 0} (P : X → Type 0) (xs ys : List X) → Each P (xs ++ ys) → Each P xs
each-left P [] ys h = tt
each-left P (x ∷ xs) ys h = (h.0, each-left P xs ys h.1)

-- the second part
pub each-right : {X : Type 0} (P : X → Type 0) (xs ys : List X) → Each P (xs ++ ys) → Each P ys
each-right P [] ys h = h
each-right P (x ∷ xs) ys h = each-right P xs ys h.1

-- what follows of two facts
pub each-both : {X : Type 0} (P Q R : X → Type 0) → ((x : X) → P x → Q x → R x) → (xs : List X) → Each P xs → Each Q xs → Each R xs
each-both P Q R h [] a b = tt
each-both P Q R h (x ∷ xs) a b = (h x a.0 b.0, each-both P Q R h xs a.1 b.1)

-- a filtered list's elements pass its test
pub each-passes : {X : Type 0} (t : X → Bool) (P : X → Type 0) (xs : List X) → Each P xs → Each (λ x. (t x ≡ true) × P x) (filter t xs)
each-passes t P [] h = tt
each-passes t P (x ∷ xs) h = go (cases_Bool (t x)) (each-passes t P xs h.1)
  where
    go : (t x ≡ true) ⊎ (t x ≡ false) → Each (λ x. (t x ≡ true) × P x) (filter t xs) → Each (λ x. (t x ≡ true) × P x) (cond (t x) (x ∷ filter t xs) (filter t xs))
    go (inl e) k = rw e ((e, h.0), k)
    go (inr e) k = rw e k

-- a test of all elements, as a fact of each
pub each-all : {X : Type 0} (t : X → Bool) (xs : List X) → list_all t xs ≡ true → Each (λ x. t x ≡ true) xs
each-all t [] h = tt
each-all t (x ∷ xs) h = let k = and_parts (t x) (list_all t xs) h in (k.0, each-all t xs k.1)

-- and back
pub all-each : {X : Type 0} (t : X → Bool) (xs : List X) → Each (λ x. t x ≡ true) xs → list_all t xs ≡ true
all-each t [] h = refl
all-each t (x ∷ xs) h = ap₂ (λ a b. a && b) h.0 (all-each t xs h.1)
