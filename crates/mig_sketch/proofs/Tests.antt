-- Tests of the items of lists, and what they say of each.
use Rattle.std.proofs.Common.{◌≡◌, ℕ, ◌+◌, ◌<◌, ◌≤◌, suc, zero, Bool, true, false, not, List, [], ◌∷◌, ◌++◌, length, get_or, refl, sym, ap, ◌∙◌, subst, inl, inr, arith}
use Rattle.std.specs.Prelude.{◌||◌, Some, slice_get}
use Rattle.std.specs.List.{list_any, flat_map, range_with_len, AllByRecursion}
use Rattle.std.proofs.lemmas.Bool.{both_ways}
use Rattle.std.proofs.lemmas.Grind.{flat_map-append}
use Rattle.std.proofs.lemmas.Option.{same_Some, none-some}
use Rattle.mig_listing.specs.Listing.{IsIn, Rises}
use Rattle.mig_listing.specs.Orders.{Less}
use Rattle.mig_schema.specs.Joins.{is_among}
use Rattle.mig_schema.specs.Typed.{stands_twice}
use Rattle.mig_trees.proofs.Reach.{among_to}
use Rattle.mig_trees.proofs.Within.{any_from}

-- ---- tests

-- what is not true is false
pub falsely : (b : Bool) → (b ≡ true → ⊥) → b ≡ false
falsely true h = absurd (h refl)
falsely false h = refl

pub not_true : (b : Bool) → b ≡ true → not b ≡ false
not_true b e = ap not e

pub true_again : (b : Bool) → not b ≡ false → b ≡ true
true_again true e = refl
true_again false e = sym e

pub or_left_false : (a b : Bool) → (a || b) ≡ false → a ≡ false
or_left_false true b e = e
or_left_false false b e = refl

pub or_right_false : (a b : Bool) → (a || b) ≡ false → b ≡ false
or_right_false true b e = absurd (both_ways true e refl)
or_right_false false b e = e

pub or_false : (a b : Bool) → a ≡ false → b ≡ false → (a || b) ≡ false
or_false a b e f = rw (e, f) refl

-- no item passes where each fails, and back
pub none_from : {A : Type 0} (p : A → Bool) (xs : List A) → ((x : A) → IsIn x xs → p x ≡ false) → list_any p xs ≡ false
none_from p [] h = refl
none_from p (x ∷ xs) h = or_false (p x) (list_any p xs) (h x (inl refl)) (none_from p xs (λ y i. h y (inr i)))

pub none_to : {A : Type 0} (p : A → Bool) (xs : List A) (x : A) → list_any p xs ≡ false → IsIn x xs → p x ≡ false
none_to p xs x e i = falsely (p x) (λ t. both_ways (list_any p xs) e (any_from p xs x i t))

-- ---- items

-- what holds of each item, by recursion, and back
pub each_from : {A : Type 0} (P : A → Type 0) (xs : List A) → ((x : A) → IsIn x xs → P x) → AllByRecursion P xs
each_from P [] h = tt
each_from P (x ∷ xs) h = (h x (inl refl), each_from P xs (λ y i. h y (inr i)))

pub each_to : {A : Type 0} (P : A → Type 0) (xs : List A) (x : A) → AllByRecursion P xs → IsIn x xs → P x
each_to P [] x a i = absurd i
each_to P (y ∷ ys) x a i = elim i [ inl e ↦ subst P (sym e) a.0 | inr j ↦ each_to P ys x a.1 j ]

-- an item that is there stands in the list
pub slice_in : {A : Type 0} (xs : List A) (k : ℕ) (x : A) → slice_get xs k ≡ Some x → IsIn x xs
slice_in [] k x e = absurd (none-some x e)
slice_in (y ∷ ys) zero x e = inl (sym (same_Some y x e))
slice_in (y ∷ ys) (suc k) x e = inr (slice_in ys k x e)

pub read_in : {A : Type 0} (xs : List A) (k : ℕ) (d : A) → k < length xs → IsIn (get_or xs k d) xs
read_in [] k d lt = absurd (omega (arith, lt))
read_in (x ∷ xs) zero d lt = inl refl
read_in (x ∷ xs) (suc k) d lt = inr (read_in xs k d (omega (arith, lt)))

-- a list of lists as one list, and what f gives for it
pub flat_map-flat_map : {A B C : Type 0} (f : B → List C) (g : A → List B) (xs : List A) → flat_map f (flat_map g xs) ≡ flat_map (λ x. flat_map f (g x)) xs
flat_map-flat_map f g [] = refl
flat_map-flat_map f g (x ∷ xs) = flat_map-append f (g x) (flat_map g xs) ∙ ap (λ ys. flat_map f (g x) ++ ys) (flat_map-flat_map f g xs)

-- ---- numbers

-- the numbers of a range
pub in_range : (a n x : ℕ) → IsIn x (range_with_len a n) → (a ≤ x) × (x < a + n)
in_range a zero x i = absurd i
in_range a (suc n) x i = elim i [
  | inl e ↦ (omega (arith, e), omega (arith, e))
  | inr j ↦ let rest = in_range (a + 1) n x j in (omega (arith, rest.0), omega (arith, rest.1))
]

-- they rise
pub range_rises : (a n : ℕ) → Rises Less (range_with_len a n)
range_rises a zero = tt
range_rises a (suc n) = ((λ y i. let h = in_range (a + 1) n y i in omega (arith, h.0)), range_rises (a + 1) n)

-- no number stands twice in a rising list
pub rising_once : (ts : List ℕ) → Rises Less ts → stands_twice ts ≡ false
rising_once [] r = refl
rising_once (t ∷ ts) r = or_false (is_among t ts) (stands_twice ts)
    (falsely (is_among t ts) (λ e. let lt = r.0 t (among_to t ts e) in omega (arith, lt)))
    (rising_once ts r.1)
