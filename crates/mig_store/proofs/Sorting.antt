-- Lists that are sorted by what a function makes of their items.
use Rattle.std.proofs.Common.{◌∙◌, ◌+◌, ◌<◌, List, [], ◌∷◌, length, map, get_or, ap, subst, arith}
use Rattle.std.specs.List.Sorted.{IsSorted, IsSortedBy}
use Rattle.std.specs.Ordering.{is_lt}
use Rattle.std.specs.declared.cmp.Ordering.{Ordering}
use Rattle.std.proofs.lemmas.List.{get_or-map, length-map}

-- what it makes of them is sorted
pub sorted-map : {X Y : Type 0} (f : X → Y) (R : Y → Y → Ordering) (xs : List X) → IsSortedBy (λ a b. is_lt (R (f a) (f b))) xs → IsSorted R (map f xs)
sorted-map f R [] h k d low high = absurd (omega (arith, high))
sorted-map f R (x ∷ xs) h k d low high =
    let n : k + 1 < length (x ∷ xs) = subst (λ m. k + 1 < m) (length-map (x ∷ xs) f) high in
    let m : k < length (x ∷ xs) = omega (arith, n) in
    ap (λ a. is_lt (R a (get_or (map f (x ∷ xs)) k d))) (get_or-map f (x ∷ xs) (k + 1) x d n)
    ∙ ap (λ b. is_lt (R (f (get_or (x ∷ xs) (k + 1) x)) b)) (get_or-map f (x ∷ xs) k x d m)
    ∙ h k x low n
