-- A list without one of its items, mapped or too short for it.
use Rattle.std.proofs.Common.{◌≡◌, ℕ, ◌+◌, ◌≤◌, List, ◌++◌, map, take, drop, length, sym, ap₂, ◌∙◌, arith}
use Rattle.std.proofs.lemmas.List.{take_all, drop_all, append-nil, map-append, take-map, drop-map}
use Rattle.mig_steps.specs.Variables.{leaving_out}

-- the items f makes of a list, without one
pub leaving_map : {X Y : Type 0} (f : X → Y) (i : ℕ) (xs : List X) → leaving_out i (map f xs) ≡ map f (leaving_out i xs)
leaving_map f i xs = ap₂ (λ ys zs. ys ++ zs) (take-map f i xs) (drop-map f (i + 1) xs) ∙ sym (map-append f (take i xs) (drop (i + 1) xs))

-- none of that number
pub leaving_none : {X : Type 0} (i : ℕ) (xs : List X) → length xs ≤ i → leaving_out i xs ≡ xs
leaving_none i xs l = ap₂ (λ ys zs. ys ++ zs) (take_all i xs l) (drop_all (i + 1) xs (omega (arith, l))) ∙ append-nil xs
