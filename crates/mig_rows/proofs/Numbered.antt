-- Items of lists by their numbers, where one goes from the middle.
use Rattle.std.proofs.Common.{◌≡◌, ◌≢◌, ℕ, zero, suc, ◌<◌, List, [], ◌∷◌, ◌++◌, length, Some, refl, sym, ap, ◌∙◌, arith, inl, inr}
use Rattle.std.specs.Prelude.{◌==◌, slice_get}
use Rattle.std.proofs.lemmas.Bool.Decides.{nat_tests}
use Rattle.mig_meaning.specs.Lists.{In}
use Rattle.mig_algebra.specs.Rename.{below}

-- ---- members

pub in-front : {X : Type 0} (x : X) (xs ys : List X) → In x xs → In x (xs ++ ys)
in-front x [] ys h = absurd h
in-front x (z ∷ xs) ys (inl e) = inl e
in-front x (z ∷ xs) ys (inr h) = inr (in-front x xs ys h)

pub in-behind : {X : Type 0} (x : X) (xs ys : List X) → In x ys → In x (xs ++ ys)
in-behind x [] ys h = h
in-behind x (z ∷ xs) ys h = inr (in-behind x xs ys h)

-- ---- variables by the new numbers

first-below : (a b : ℕ) → a ≡ 0 → below a (suc b) ≡ b
first-below a b z = grind (arith, nat_tests)

zero-below : (a b : ℕ) → a ≡ suc b → below a zero ≡ 0
zero-below a b z = grind (arith, nat_tests)

next-below : (a b c : ℕ) → a ≡ suc b → suc c ≢ a → below a (suc c) ≡ suc (below b c)
next-below a b c z n = grind (arith, nat_tests)

-- another item than the one of number v
pub get-other : {X : Type 0} (xs : List X) (u : X) (ys : List X) (v i : ℕ) → length xs ≡ v → i ≢ v → slice_get (xs ++ (u ∷ ys)) i ≡ slice_get (xs ++ ys) (below v i)
get-other [] u ys v zero h ne = absurd (ne h)
get-other [] u ys v (suc j) h ne = ap (slice_get ys) (sym (first-below v j (sym h)))
get-other (x ∷ xs) u ys v zero h ne = ap (slice_get (x ∷ (xs ++ ys))) (sym (zero-below v (length xs) (sym h)))
get-other (x ∷ xs) u ys v (suc j) h ne =
    get-other xs u ys (length xs) j refl (λ q. ne (ap suc q ∙ h)) ∙ ap (slice_get (x ∷ (xs ++ ys))) (sym (next-below v (length xs) j (sym h) ne))

-- an item of the first list
pub get-front : {X : Type 0} (xs ys : List X) (v : ℕ) → v < length xs → slice_get (xs ++ ys) v ≡ slice_get xs v
get-front [] ys v h = absurd (omega (arith, h))
get-front (x ∷ xs) ys zero h = refl
get-front (x ∷ xs) ys (suc v) h = get-front xs ys v (omega (arith, h))

-- the item in the middle
pub get-middle : {X : Type 0} (xs : List X) (u : X) (ys : List X) (v : ℕ) → length xs ≡ v → slice_get (xs ++ (u ∷ ys)) v ≡ Some u
get-middle [] u ys v h = ap (slice_get (u ∷ ys)) (sym h)
get-middle (x ∷ xs) u ys v h = ap (slice_get (x ∷ (xs ++ (u ∷ ys)))) (sym h) ∙ get-middle xs u ys (length xs) refl

-- two numbers other than the one that goes stay two
pub below-same : (v a b : ℕ) → a ≢ v → b ≢ v → (a == b) ≡ (below v a == below v b)
below-same v a b h i = grind (arith, nat_tests)
