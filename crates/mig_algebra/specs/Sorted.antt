-- Lists in order.
use Rattle.std.specs.Prelude.{cond, List, [], ◌∷◌}
use Rattle.std.specs.declared.cmp.Ordering.{Ordering}
use Rattle.std.specs.Ordering.{is_gt, match_ordering}

-- an item put before the first that it does not stand behind
abbrev pub put_in : {A : Type 0} → (A → A → Ordering) → A → List A → List A
put_in order x [] = x ∷ []
put_in order x (y ∷ ys) = cond (is_gt (order x y)) (y ∷ put_in order x ys) (x ∷ (y ∷ ys))

-- the items in order, all kept
abbrev pub sorted : {A : Type 0} → (A → A → Ordering) → List A → List A
sorted order [] = []
sorted order (x ∷ xs) = put_in order x (sorted order xs)

-- an item put into a list in order, unless it stands there
abbrev pub put_once : {A : Type 0} → (A → A → Ordering) → A → List A → List A
put_once order x [] = x ∷ []
put_once order x (y ∷ ys) = match_ordering (order x y) (x ∷ (y ∷ ys)) (y ∷ ys) (y ∷ put_once order x ys)

-- the items in order, equal ones kept once
abbrev pub sorted_once : {A : Type 0} → (A → A → Ordering) → List A → List A
sorted_once order [] = []
sorted_once order (x ∷ xs) = put_once order x (sorted_once order xs)
