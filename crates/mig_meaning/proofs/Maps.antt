-- Maps, filters and choices.
use Rattle.std.proofs.Common.{◌≡◌, ℕ, zero, suc, ◌+◌, Bool, true, false, cond, ◌||◌, List, [], ◌∷◌, ◌++◌, map, take, drop, refl, sym, ap, ap₂, ◌∙◌}
use Rattle.std.specs.Prelude.{filter, flat_map}
use Rattle.std.specs.List.{list_any}
use Rattle.std.proofs.lemmas.List.{map-append}
use Rattle.mig_base.specs.Lists.{numbered}
use Rattle.mig_meaning.specs.Lists.{product}

pub map-lift : {X Y Z W : Type 0} (f : Y → W) (h : X → Y) (g : Z → W) (k : X → Z) → ((x : X) → f (h x) ≡ g (k x)) → (xs : List X) → map f (map h xs) ≡ map g (map k xs)
map-lift f h g k e [] = refl
map-lift f h g k e (x ∷ xs) = ap₂ (λ y ys. y ∷ ys) (e x) (map-lift f h g k e xs)

-- the same with one map on the left
pub map-split : {X Z W : Type 0} (f : X → W) (g : Z → W) (k : X → Z) → ((x : X) → f x ≡ g (k x)) → (xs : List X) → map f xs ≡ map g (map k xs)
map-split f g k e [] = refl
map-split f g k e (x ∷ xs) = ap₂ (λ y ys. y ∷ ys) (e x) (map-split f g k e xs)

pub map-same : {X Y : Type 0} (f g : X → Y) → ((x : X) → f x ≡ g x) → (xs : List X) → map f xs ≡ map g xs
map-same f g e [] = refl
map-same f g e (x ∷ xs) = ap₂ (λ y ys. y ∷ ys) (e x) (map-same f g e xs)

pub filter-map : {X Y : Type 0} (p : Y → Bool) (h : X → Y) (q : X → Bool) → ((x : X) → p (h x) ≡ q x) → (xs : List X) → filter p (map h xs) ≡ map h (filter q xs)
filter-map p h q e [] = refl
filter-map p h q e (x ∷ xs) = ap₂ (λ b ys. cond b (h x ∷ ys) ys) (e x) (filter-map p h q e xs) ∙ go (q x)
  where
    go : (b : Bool) → cond b (h x ∷ map h (filter q xs)) (map h (filter q xs)) ≡ map h (cond b (x ∷ filter q xs) (filter q xs))
    go true = refl
    go false = refl

pub any-map : {X Y : Type 0} (p : Y → Bool) (h : X → Y) (q : X → Bool) → ((x : X) → p (h x) ≡ q x) → (xs : List X) → list_any p (map h xs) ≡ list_any q xs
any-map p h q e [] = refl
any-map p h q e (x ∷ xs) = ap₂ (λ b c. b || c) (e x) (any-map p h q e xs)

pub flat_map-lift : {X Y A B : Type 0} (h : X → Y) (g : A → B) (f : Y → List B) (k : X → List A) → ((x : X) → f (h x) ≡ map g (k x)) → (xs : List X) → flat_map f (map h xs) ≡ map g (flat_map k xs)
flat_map-lift h g f k e [] = refl
flat_map-lift h g f k e (x ∷ xs) = ap₂ (λ a b. a ++ b) (e x) (flat_map-lift h g f k e xs) ∙ sym (map-append g (k x) (flat_map k xs))

pub product-map : {X Y : Type 0} (h : X → Y) (xss : List (List X)) → product (map (map h) xss) ≡ map (map h) (product xss)
product-map h [] = refl
product-map h (xs ∷ more) =
    flat_map-lift h (map h) (λ y. map (λ c. y ∷ c) (product (map (map h) more))) (λ x. map (λ c. x ∷ c) (product more)) (λ x.
    ap (map (λ c. h x ∷ c)) (product-map h more) ∙ map-lift (λ c. h x ∷ c) (map h) (map h) (λ c. x ∷ c) (λ c. refl) (product more)) xs

pub numbered-lift : {X Y Z W : Type 0} (F : ℕ → Y → W) (h : X → Y) (g : Z → W) (G : ℕ → X → Z) → ((n : ℕ) (x : X) → F n (h x) ≡ g (G n x)) → (n : ℕ) (xs : List X) → numbered F n (map h xs) ≡ map g (numbered G n xs)
numbered-lift F h g G e n [] = refl
numbered-lift F h g G e n (x ∷ xs) = ap₂ (λ y ys. y ∷ ys) (e n x) (numbered-lift F h g G e (n + 1) xs)

pub numbered-split : {X Z W : Type 0} (F : ℕ → X → W) (g : Z → W) (G : ℕ → X → Z) → ((n : ℕ) (x : X) → F n x ≡ g (G n x)) → (n : ℕ) (xs : List X) → numbered F n xs ≡ map g (numbered G n xs)
numbered-split F g G e n [] = refl
numbered-split F g G e n (x ∷ xs) = ap₂ (λ y ys. y ∷ ys) (e n x) (numbered-split F g G e (n + 1) xs)

pub take-map : {X Y : Type 0} (h : X → Y) (n : ℕ) (xs : List X) → take n (map h xs) ≡ map h (take n xs)
take-map h zero xs = refl
take-map h (suc n) [] = refl
take-map h (suc n) (x ∷ xs) = ap (λ ys. h x ∷ ys) (take-map h n xs)

pub drop-map : {X Y : Type 0} (h : X → Y) (n : ℕ) (xs : List X) → drop n (map h xs) ≡ map h (drop n xs)
drop-map h zero xs = refl
drop-map h (suc n) [] = refl
drop-map h (suc n) (x ∷ xs) = drop-map h n xs

-- a choice by a test commutes with a function
pub cond-lift : {X Y : Type 0} (h : X → Y) (b : Bool) (x y : X) → cond b (h x) (h y) ≡ h (cond b x y)
cond-lift h true x y = refl
cond-lift h false x y = refl
