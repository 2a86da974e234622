-- Members of products, and tests that no member passes.
use Rattle.std.proofs.Common.{◌≡◌, Bool, true, false, cond, ◌||◌, List, [], ◌∷◌, ◌++◌, map, refl, sym, ap, ◌∙◌, inl, inr, ◌⊎◌, subst}
use Rattle.std.specs.Prelude.{filter, flat_map}
use Rattle.std.specs.List.{list_any}
use Rattle.std.proofs.lemmas.Bool.{cases_Bool}
use Rattle.mig_meaning.specs.Lists.{product, In}
use Rattle.mig_meaning.proofs.Renamings.{in-map, map-in}

-- ---- lists end to end

in-left : {X : Type 0} (x : X) (xs ys : List X) → In x xs → In x (xs ++ ys)
in-left x [] ys h = absurd h
in-left x (z ∷ xs) ys (inl e) = inl e
in-left x (z ∷ xs) ys (inr h) = inr (in-left x xs ys h)

in-right : {X : Type 0} (x : X) (xs ys : List X) → In x ys → In x (xs ++ ys)
in-right x [] ys h = h
in-right x (z ∷ xs) ys h = inr (in-right x xs ys h)

in-either : {X : Type 0} (x : X) (xs ys : List X) → In x (xs ++ ys) → In x xs ⊎ In x ys
in-either x [] ys h = inr h
in-either x (z ∷ xs) ys (inl e) = inl (inl e)
in-either x (z ∷ xs) ys (inr h) = go (in-either x xs ys h)
  where
    go : In x xs ⊎ In x ys → In x (z ∷ xs) ⊎ In x ys
    go (inl a) = inl (inr a)
    go (inr b) = inr b

-- what an element's list has is in the lists end to end
pub in-flat_map : {X Y : Type 0} (f : X → List Y) (x : X) (y : Y) (xs : List X) → In x xs → In y (f x) → In y (flat_map f xs)
in-flat_map f x y [] h k = absurd h
in-flat_map f x y (z ∷ xs) (inl e) k = in-left y (f z) (flat_map f xs) (subst (λ u. In y (f u)) e k)
in-flat_map f x y (z ∷ xs) (inr h) k = in-right y (f z) (flat_map f xs) (in-flat_map f x y xs h k)

-- and what is in them is in some element's list
pub flat_map-in : {X Y : Type 0} (f : X → List Y) (y : Y) (xs : List X) → In y (flat_map f xs) → (x : X) × In x xs × In y (f x)
flat_map-in f y [] h = absurd h
flat_map-in f y (z ∷ xs) h = go (flat_map-in f y xs) (in-either y (f z) (flat_map f xs) h)
  where
    go : (In y (flat_map f xs) → (x : _) × In x xs × In y (f x)) → In y (f z) ⊎ In y (flat_map f xs) → (x : _) × In x (z ∷ xs) × In y (f x)
    go ih (inl k) = (z, inl refl, k)
    go ih (inr k) = let m = ih k in (m.0, inr m.1, m.2)

-- ---- choices

-- a choice has a member of the first list, and then a choice of the others
pub in-product : {X : Type 0} (x : X) (c : List X) (xs : List X) (more : List (List X)) → In x xs → In c (product more) → In (x ∷ c) (product (xs ∷ more))
in-product x c xs more h k = in-flat_map (λ y. map (λ d. y ∷ d) (product more)) x (x ∷ c) xs h (map-in (λ d. x ∷ d) c (product more) k)

-- and back
pub product-in : {X : Type 0} (e : List X) (xs : List X) (more : List (List X)) → In e (product (xs ∷ more)) → (x : X) × (c : List X) × (e ≡ x ∷ c) × In x xs × In c (product more)
product-in e xs more h =
    let k = flat_map-in (λ y. map (λ d. y ∷ d) (product more)) e xs h in
    let m = in-map (λ d. k.0 ∷ d) e (product more) k.2 in
    (k.0, m.0, m.1, k.1, m.2)

-- the choice from no lists
pub product-none : {X : Type 0} (e : List X) → In e (product []) → e ≡ []
product-none e (inl h) = h
product-none e (inr h) = absurd h

-- the choices of one list
pub in-one : {X : Type 0} (x : X) (xs : List X) → In x xs → In (x ∷ []) (product (xs ∷ []))
in-one x xs h = in-product x [] xs [] h (inl refl)

pub one-in : {X : Type 0} (e : List X) (xs : List X) → In e (product (xs ∷ [])) → (x : X) × (e ≡ x ∷ []) × In x xs
one-in e xs h = let k = product-in e xs [] h in (k.0, k.2 ∙ ap (λ c. k.0 ∷ c) (product-none k.1 k.4), k.3)

-- the choices of two lists
pub in-two : {X : Type 0} (x y : X) (xs ys : List X) → In x xs → In y ys → In (x ∷ (y ∷ [])) (product (xs ∷ (ys ∷ [])))
in-two x y xs ys h k = in-product x (y ∷ []) xs (ys ∷ []) h (in-one y ys k)

pub two-in : {X : Type 0} (e : List X) (xs ys : List X) → In e (product (xs ∷ (ys ∷ []))) → (x y : X) × (e ≡ x ∷ (y ∷ [])) × In x xs × In y ys
two-in e xs ys h =
    let k = product-in e xs (ys ∷ []) h in
    let m = one-in k.1 ys k.4 in
    (k.0, m.0, k.2 ∙ ap (λ c. k.0 ∷ c) m.1, k.3, m.2)

-- ---- tests

-- where some element passes there is one that does
pub any-in : {X : Type 0} (p : X → Bool) (xs : List X) → list_any p xs ≡ true → (x : X) × In x xs × (p x ≡ true)
any-in p [] h = cc
any-in p (x ∷ xs) h = go (any-in p xs) (cases_Bool (p x))
  where
    go : (list_any p xs ≡ true → (y : _) × In y xs × (p y ≡ true)) → (p x ≡ true) ⊎ (p x ≡ false) → (y : _) × In y (x ∷ xs) × (p y ≡ true)
    go ih (inl t) = (x, inl refl, t)
    go ih (inr n) = let k = ih (ap (λ b. b || list_any p xs) (sym n) ∙ h) in (k.0, inr k.1, k.2)

-- and back
pub in-any : {X : Type 0} (p : X → Bool) (x : X) (xs : List X) → In x xs → p x ≡ true → list_any p xs ≡ true
in-any p x [] h t = absurd h
in-any p x (y ∷ ys) (inl e) t = ap (λ b. b || list_any p ys) (ap p (sym e) ∙ t)
in-any p x (y ∷ ys) (inr h) t = ap (λ b. p y || b) (in-any p x ys h t) ∙ or_true (p y)
  where
    or_true : (a : Bool) → (a || true) ≡ true
    or_true true = refl
    or_true false = refl

-- what an empty filter tells of each member
pub none-passes : {X : Type 0} (p : X → Bool) (x : X) (xs : List X) → filter p xs ≡ [] → In x xs → p x ≡ false
none-passes p x [] e k = absurd k
none-passes p x (y ∷ ys) e k = go (cases_Bool (p y)) (none-passes p x ys) k
  where
    first : p y ≡ true → ⊥
    first t = let l : y ∷ filter p ys ≡ [] = ap (λ b. cond b (y ∷ filter p ys) (filter p ys)) (sym t) ∙ e in cc

    rest : p y ≡ false → filter p ys ≡ []
    rest n = ap (λ b. cond b (y ∷ filter p ys) (filter p ys)) (sym n) ∙ e

    go : (p y ≡ true) ⊎ (p y ≡ false) → (filter p ys ≡ [] → In x ys → p x ≡ false) → In x (y ∷ ys) → p x ≡ false
    go (inl t) ih m = absurd (first t)
    go (inr n) ih (inl q) = ap p q ∙ n
    go (inr n) ih (inr m) = ih (rest n) m

-- and back
pub passes-none : {X : Type 0} (p : X → Bool) (xs : List X) → ((x : X) → In x xs → p x ≡ false) → filter p xs ≡ []
passes-none p [] h = refl
passes-none p (x ∷ xs) h = ap (λ b. cond b (x ∷ filter p xs) (filter p xs)) (h x (inl refl)) ∙ passes-none p xs (λ y k. h y (inr k))
