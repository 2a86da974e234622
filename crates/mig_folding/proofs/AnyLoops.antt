-- A search through a list for an item that passes a test.
use Rattle.std.proofs.Common.{◌≡◌, ℕ, ◌+◌, ◌<◌, Bool, true, false, List, ◌∷◌, map, drop, get_or, length, sym, ap, ◌∙◌, add-one, drop-cons}
use Rattle.std.specs.Prelude.{◌||◌}
use Rattle.std.specs.List.{list_any}

-- what is left of a list begins with its item
rest-is : {X : Type 0} (xs : List X) (i : ℕ) (x : X) → i < length xs → x ≡ get_or xs i x → drop i xs ≡ x ∷ drop (i + 1) xs
rest-is xs i x l is = (rw add-one (drop-cons xs i x l)) ∙ ap (λ y. y ∷ drop (i + 1) xs) (sym is)

-- an item that passes, written otherwise by g, settles the search
pub any-here : {X Y : Type 0} (f : Y → Bool) (g : X → Y) (xs : List X) (i : ℕ) (x : X) → i < length xs → x ≡ get_or xs i x → f (g x) ≡ true → list_any f (map g xs) ≡ list_any f (map g (drop i xs)) → true ≡ list_any f (map g xs)
any-here f g xs i x l is h inv = sym (inv ∙ ap (λ ys. list_any f (map g ys)) (rest-is xs i x l is) ∙ ap (λ b. b || list_any f (map g (drop (i + 1) xs))) h)

-- one that doesn't leaves it to the items behind
pub any-on : {X Y : Type 0} (f : Y → Bool) (g : X → Y) (xs : List X) (i : ℕ) (x : X) → i < length xs → x ≡ get_or xs i x → f (g x) ≡ false → list_any f (map g xs) ≡ list_any f (map g (drop i xs)) → list_any f (map g xs) ≡ list_any f (map g (drop (i + 1) xs))
any-on f g xs i x l is h inv = inv ∙ ap (λ ys. list_any f (map g ys)) (rest-is xs i x l is) ∙ ap (λ b. b || list_any f (map g (drop (i + 1) xs))) h

-- the same of items as they stand
pub own-here : {X : Type 0} (f : X → Bool) (xs : List X) (i : ℕ) (x : X) → i < length xs → x ≡ get_or xs i x → f x ≡ true → list_any f xs ≡ list_any f (drop i xs) → true ≡ list_any f xs
own-here f xs i x l is h inv = sym (inv ∙ ap (list_any f) (rest-is xs i x l is) ∙ ap (λ b. b || list_any f (drop (i + 1) xs)) h)

pub own-on : {X : Type 0} (f : X → Bool) (xs : List X) (i : ℕ) (x : X) → i < length xs → x ≡ get_or xs i x → f x ≡ false → list_any f xs ≡ list_any f (drop i xs) → list_any f xs ≡ list_any f (drop (i + 1) xs)
own-on f xs i x l is h inv = inv ∙ ap (list_any f) (rest-is xs i x l is) ∙ ap (λ b. b || list_any f (drop (i + 1) xs)) h
