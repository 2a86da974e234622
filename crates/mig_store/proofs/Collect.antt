-- Items put in front of what a list of results gives.
use Rattle.std.proofs.Common.{◌≡◌, List, [], ◌∷◌, ◌++◌, refl, ap}
use Rattle.std.specs.Prelude.{Result, Ok, Err}
use Rattle.std.proofs.lemmas.List.{append-nil, append_assoc}
use Rattle.mig_store.specs.Reading.{with_first}

-- items in front of others, where those are all sound
abbrev pub with_front : {X E : Type 0} → List X → Result (List X) E → Result (List X) E
with_front xs (Ok ys) = Ok (xs ++ ys)
with_front xs (Err e) = Err e

-- none in front
pub front-none : {X E : Type 0} (r : Result (List X) E) → with_front [] r ≡ r
front-none (Ok ys) = refl
front-none (Err e) = refl

-- one more in front
pub front-more : {X E : Type 0} (xs : List X) (x : X) (r : Result (List X) E) → with_front (xs ++ x ∷ []) r ≡ with_front xs (with_first x r)
front-more xs x (Ok ys) = ap Ok (append_assoc xs (x ∷ []) ys)
front-more xs x (Err e) = refl

-- nothing behind
pub front-all : {X E : Type 0} (xs : List X) (r : Result (List X) E) → r ≡ Ok [] → with_front xs r ≡ Ok xs
front-all xs r e = rw (e, append-nil xs) refl
