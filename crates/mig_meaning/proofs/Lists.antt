-- What holds of each item of a list, its members, and equal items kept once.
use Rattle.std.proofs.Common.{◌≡◌, zero, suc, ◌⊎◌, inl, inr, Bool, true, false, cond, List, [], ◌∷◌, ◌++◌, map, refl, sym, ap, ◌∙◌, arith}
use Rattle.std.specs.Prelude.{filter, ◌||◌}
use Rattle.std.specs.List.{All, AllByRecursion, list_any, list_all, flat_map, dedup, dedup_from}
use Rattle.std.proofs.lemmas.Bool.{cases_Bool, and_from, and_parts, or_parts}
use Rattle.mig_meaning.specs.Lists.{Each, In}

-- ---- what holds of each item
pub each-none : {X : Type 0} (p : X → Bool) (xs : List X) → list_any p xs ≡ false → Each (λ x. p x ≡ false) xs
each-none p [] h = tt
each-none p (x ∷ xs) h = let k = or_parts (p x) (list_any p xs) h in (k.0, each-none p xs k.1)

pub each-true : {X : Type 0} (p : X → Bool) (xs : List X) → list_all p xs ≡ true → Each (λ x. p x ≡ true) xs
each-true p [] h = tt
each-true p (x ∷ xs) h = let k = and_parts (p x) (list_all p xs) h in (k.0, each-true p xs k.1)

pub all-true : {X : Type 0} (p : X → Bool) (xs : List X) → Each (λ x. p x ≡ true) xs → list_all p xs ≡ true
all-true p [] a = refl
all-true p (x ∷ xs) a = and_from (p x) (list_all p xs) a.0 (all-true p xs a.1)

pub each-front : {X : Type 0} (P : X → Type 0) (xs ys : List X) → Each P (xs ++ ys) → Each P xs
each-front P [] ys a = tt
each-front P (x ∷ xs) ys a = (a.0, each-front P xs ys a.1)

pub each-back : {X : Type 0} (P : X → Type 0) (xs ys : List X) → Each P (xs ++ ys) → Each P ys
each-back P [] ys a = a
each-back P (x ∷ xs) ys a = each-back P xs ys a.1

pub each-unmapped : {X Y : Type 0} (P : Y → Type 0) (f : X → Y) (xs : List X) → Each P (map f xs) → Each (λ x. P (f x)) xs
each-unmapped P f [] a = tt
each-unmapped P f (x ∷ xs) a = (a.0, each-unmapped P f xs a.1)

pub each-flat : {X Y : Type 0} (P : Y → Type 0) (f : X → List Y) (xs : List X) → Each P (flat_map f xs) → Each (λ x. Each P (f x)) xs
each-flat P f [] a = tt
each-flat P f (x ∷ xs) a = (each-front P (f x) (flat_map f xs) a, each-flat P f xs (each-back P (f x) (flat_map f xs) a))

pub each-both : {X : Type 0} (P Q : X → Type 0) (xs : List X) → Each P xs → Each Q xs → Each (λ x. P x × Q x) xs
each-both P Q [] a b = tt
each-both P Q (x ∷ xs) a b = ((a.0, b.0), each-both P Q xs a.1 b.1)

pub by-recursion : {X : Type 0} (P : X → Type 0) (xs : List X) → AllByRecursion P xs → Each P xs
by-recursion P [] a = tt
by-recursion P (x ∷ xs) a = (a.0, by-recursion P xs a.1)

pub each-last : {X : Type 0} (P : X → Type 0) (xs : List X) (y : X) → Each P (xs ++ y ∷ []) → P y
each-last P [] y a = a.0
each-last P (x ∷ xs) y a = each-last P xs y a.1

pub each-all : {X : Type 0} (P : X → Type 0) (xs : List X) → Each P xs → All P xs
each-all P [] a k d h = absurd (omega (arith, h))
each-all P (x ∷ xs) a zero d h = a.0
each-all P (x ∷ xs) a (suc k) d h = each-all P xs a.1 k d (omega (arith, h))

pub all-each : {X : Type 0} (P : X → Type 0) (xs : List X) → All P xs → Each P xs
all-each P [] a = tt
all-each P (x ∷ xs) a = (a zero x (omega arith), all-each P xs (λ k d h. a (suc k) d (omega (arith, h))))

pub each-by : {X : Type 0} (P : X → Type 0) (xs : List X) → ((x : X) → In x xs → P x) → Each P xs
each-by P [] h = tt
each-by P (x ∷ xs) h = (h x (inl refl), each-by P xs (λ y k. h y (inr k)))

-- ---- members
pub in-passing : {X : Type 0} (test : X → Bool) (x : X) (xs : List X) → In x xs → test x ≡ true → In x (filter test xs)
in-passing test x [] h t = absurd h
in-passing test x (y ∷ ys) (inl e) t = rw (ap test (sym e) ∙ t) (inl e)
in-passing test x (y ∷ ys) (inr h) t = go (test y) (in-passing test x ys h t)
  where
    go : (b : Bool) → In x (filter test ys) → In x (cond b (y ∷ filter test ys) (filter test ys))
    go true k = inr k
    go false k = k

pub from-passing : {X : Type 0} (test : X → Bool) (x : X) (xs : List X) → In x (filter test xs) → In x xs × (test x ≡ true)
from-passing test x [] h = absurd h
from-passing test x (y ∷ ys) h = go (test y) refl (λ k. from-passing test x ys k) h
  where
    go : (b : Bool) → test y ≡ b → (In x (filter test ys) → In x ys × (test x ≡ true)) → In x (cond b (y ∷ filter test ys) (filter test ys)) → In x (y ∷ ys) × (test x ≡ true)
    go true e ih (inl q) = (inl q, ap test q ∙ e)
    go true e ih (inr k) = let r = ih k in (inr r.0, r.1)
    go false e ih k = let r = ih k in (inr r.0, r.1)

pub in-filter : {X : Type 0} (k : X → Bool) (x : X) (xs : List X) → In x (filter k xs) → In x xs
in-filter k x [] h = h
in-filter k x (y ∷ ys) h = go (k y) (in-filter k x ys) h
  where
    go : (b : Bool) → (In x (filter k ys) → In x ys) → In x (cond b (y ∷ filter k ys) (filter k ys)) → In x (y ∷ ys)
    go true ih (inl e) = inl e
    go true ih (inr m) = inr (ih m)
    go false ih m = inr (ih m)

pub in-front : {X : Type 0} (x : X) (xs ys : List X) → In x xs → In x (xs ++ ys)
in-front x [] ys h = absurd h
in-front x (y ∷ xs) ys (inl e) = inl e
in-front x (y ∷ xs) ys (inr h) = inr (in-front x xs ys h)

pub in-behind : {X : Type 0} (x : X) (xs ys : List X) → In x ys → In x (xs ++ ys)
in-behind x [] ys h = h
in-behind x (y ∷ xs) ys h = inr (in-behind x xs ys h)

pub in-either : {X : Type 0} (x : X) (xs ys : List X) → In x (xs ++ ys) → In x xs ⊎ In x ys
in-either x [] ys h = inr h
in-either x (y ∷ xs) ys (inl e) = inl (inl e)
in-either x (y ∷ xs) ys (inr h) = go (in-either x xs ys h)
  where
    go : In x xs ⊎ In x ys → In x (y ∷ xs) ⊎ In x ys
    go (inl k) = inl (inr k)
    go (inr k) = inr k

-- ---- equal ones once
again : (a b c : Bool) → a ≡ b → (b || c) ≡ (b || (a || c))
again true true c e = refl
again false false c e = refl
again true false c e = cc
again false true c e = cc

any-from : {X : Type 0} (E : X → X → Bool) (p : X → Bool) → ((x k : X) → E x k ≡ true → p x ≡ p k) → (k : X) (xs : List X) → list_any p (dedup_from E k xs) ≡ (p k || list_any p xs)
any-from E p same k [] = refl
any-from E p same k (x ∷ xs) = go (cases_Bool (E x k)) (any-from E p same k xs) (any-from E p same x xs)
  where
    go : (E x k ≡ true) ⊎ (E x k ≡ false) → list_any p (dedup_from E k xs) ≡ (p k || list_any p xs) → list_any p (dedup_from E x xs) ≡ (p x || list_any p xs) → list_any p (cond (E x k) (dedup_from E k xs) (k ∷ dedup_from E x xs)) ≡ (p k || (p x || list_any p xs))
    go (inl e) a b = rw e (a ∙ again (p x) (p k) (list_any p xs) (same x k e))
    go (inr n) a b = rw n (ap (λ y. p k || y) b)

-- what passes a test that cannot tell equal ones apart
pub any-dedup : {X : Type 0} (E : X → X → Bool) (p : X → Bool) → ((x k : X) → E x k ≡ true → p x ≡ p k) → (xs : List X) → list_any p (dedup E xs) ≡ list_any p xs
any-dedup E p same [] = refl
any-dedup E p same (x ∷ xs) = any-from E p same x xs

each-from : {X : Type 0} (E : X → X → Bool) (P : X → Type 0) (k : X) (xs : List X) → P k → Each P xs → Each P (dedup_from E k xs)
each-from E P k [] h a = (h, tt)
each-from E P k (x ∷ xs) h a = go (E x k) (each-from E P k xs h a.1) (each-from E P x xs a.0 a.1)
  where
    go : (b : Bool) → Each P (dedup_from E k xs) → Each P (dedup_from E x xs) → Each P (cond b (dedup_from E k xs) (k ∷ dedup_from E x xs))
    go true c d = c
    go false c d = (h, d)

pub each-dedup : {X : Type 0} (E : X → X → Bool) (P : X → Type 0) (xs : List X) → Each P xs → Each P (dedup E xs)
each-dedup E P [] a = tt
each-dedup E P (x ∷ xs) a = each-from E P x xs a.0 a.1
