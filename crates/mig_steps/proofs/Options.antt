-- What follows where an option is there.
use Rattle.std.proofs.Common.{◌≡◌, ℕ, zero, suc, ◌<◌, Bool, true, false, cond, List, [], ◌∷◌, Option, Some, None, refl, sym, ap, ◌∙◌, subst, arith, length}
use Rattle.std.specs.Prelude.{slice_get}
use Rattle.std.specs.Option.{option_map, option_and_then}
use Rattle.std.specs.List.{list_all}
use Rattle.std.proofs.lemmas.Bool.{and_parts}
use Rattle.std.proofs.lemmas.Option.{same_Some}
use Rattle.mig_meaning.specs.Lists.{Each}

pub and-then : {A B : Type 0} (f : A → Option B) (o : Option A) (y : B) → option_and_then f o ≡ Some y → (x : A) × (o ≡ Some x) × (f x ≡ Some y)
and-then f None y h = cc
and-then f (Some x) y h = (x, refl, h)

pub map-some : {A B : Type 0} (f : A → B) (o : Option A) (y : B) → option_map f o ≡ Some y → (x : A) × (o ≡ Some x) × (f x ≡ y)
map-some f None y h = cc
map-some f (Some x) y h = (x, refl, same_Some (f x) y h)

pub map-none : {A B : Type 0} (f : A → B) (o : Option A) → option_map f o ≡ None → o ≡ None
map-none f None h = refl
map-none f (Some x) h = cc

pub cond-then : {A : Type 0} (b : Bool) (o : Option A) (y : A) → cond b o None ≡ Some y → (b ≡ true) × (o ≡ Some y)
cond-then true o y h = (refl, h)
cond-then false o y h = cc

pub get-within : {A : Type 0} (xs : List A) (i : ℕ) (x : A) → slice_get xs i ≡ Some x → i < length xs
get-within [] i x h = cc
get-within (y ∷ ys) zero x h = omega arith
get-within (y ∷ ys) (suc i) x h = omega (arith, get-within ys i x h)

-- ---- items

-- an item passes what all pass
pub all-get : {X : Type 0} (t : X → Bool) (xs : List X) (i : ℕ) (x : X) → list_all t xs ≡ true → slice_get xs i ≡ Some x → t x ≡ true
all-get t [] i x a h = cc
all-get t (y ∷ ys) zero x a h = let e : y ≡ x = cc in ap t (sym e) ∙ (and_parts (t y) (list_all t ys) a).0
all-get t (y ∷ ys) (suc i) x a h = all-get t ys i x (and_parts (t y) (list_all t ys) a).1 h

-- what holds of each holds of an item
pub each-get : {X : Type 0} (P : X → Type 0) (xs : List X) (i : ℕ) (x : X) → Each P xs → slice_get xs i ≡ Some x → P x
each-get P [] i x a h = cc
each-get P (y ∷ ys) zero x a h = let e : y ≡ x = cc in subst P e a.0
each-get P (y ∷ ys) (suc i) x a h = each-get P ys i x a.1 h
