-- Items by their numbers: what all, some or none of them have.
use Rattle.std.proofs.Common.{◌≡◌, ℕ, ◌+◌, ◌<◌, ◌≤◌, zero, suc, Bool, true, false, ◌&&◌, List, [], ◌∷◌, refl, sym, ap, ◌∙◌, ⊎_elim, subst}
use Rattle.std.specs.Prelude.{Option, Some, None}
use Rattle.std.specs.List.{list_any, slice_get, AllByRecursion}
use Rattle.std.specs.Option.{option_map_or, is_some, unwrap_or}
use Rattle.std.proofs.lemmas.Bool.{or_parts, or_from, false≢true}
use Rattle.mig_typing.specs.Broken.{item_has}

-- the first of two of which the second holds
pub left_of : (b : Bool) → (b && true) ≡ false → b ≡ false
left_of true e = e
left_of false e = refl

-- an item that is there has a fault where the test says so
pub item_at : {A : Type 0} (t : A → Bool) (xs : List A) (k : ℕ) (x : A) → slice_get xs k ≡ Some x → item_has t xs k ≡ t x
item_at t xs k x e = ap (λ o. option_map_or t o false) e

-- where no number has a fault, no item has
pub none_any : {A : Type 0} (t : A → Bool) (xs : List A) → ((k : ℕ) → item_has t xs k ≡ false) → list_any t xs ≡ false
none_any t [] none = refl
none_any t (x ∷ xs) none = or_from (t x) (list_any t xs) (none zero) (none_any t xs (λ k. none (suc k)))

-- where no item has a fault, no number has
pub any_none : {A : Type 0} (t : A → Bool) (xs : List A) → list_any t xs ≡ false → (k : ℕ) → item_has t xs k ≡ false
any_none t [] none k = refl
any_none t (x ∷ xs) none zero = (or_parts (t x) (list_any t xs) none).0
any_none t (x ∷ xs) none (suc k) = any_none t xs (or_parts (t x) (list_any t xs) none).1 k

-- what holds of the item of each number holds of all
pub each_item : {A : Type 0} (P : A → Type 0) (xs : List A) → ((k : ℕ) (x : A) → slice_get xs k ≡ Some x → P x) → AllByRecursion P xs
each_item P [] each = tt
each_item P (x ∷ xs) each = (each zero x refl, each_item P xs (λ k y e. each (suc k) y e))

-- a test that nothing passes of which P holds
pub items_clear : {A : Type 0} (P : A → Type 0) (t : A → Bool) (xs : List A) → ((x : A) → P x → t x ≡ false) → AllByRecursion P xs → (k : ℕ) → item_has t xs k ≡ false
items_clear P t [] tells all k = refl
items_clear P t (x ∷ xs) tells all zero = tells x all.0
items_clear P t (x ∷ xs) tells all (suc k) = items_clear P t xs tells all.1 k
