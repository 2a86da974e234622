-- Tokens and bytes passed one after the other.
use Rattle.std.proofs.Common.{◌≡◌, ℕ, zero, suc, ◌-◌, ◌+◌, ◌<◌, ◌≤◌, List, [], ◌∷◌, length, drop, get_or, ap, refl, arith, add-one, drop-cons}
use Rattle.mig_tokens.specs.Bytes.{after_gap}
use Rattle.mig_tokens.specs.Place.{Place, after_first, behind_tokens, next_place, place_from}

pub one_token_more : (n i : ℕ) (rest : List ℕ) → i < n → behind_tokens (n - i) rest ≡ behind_tokens (n - (i + 1)) (after_gap (after_first rest))
unfolding behind_tokens
one_token_more n i rest lt = let k : n - i ≡ suc (n - (i + 1)) = omega arith in rw (k, behind_tokens) refl

pub no_token_more : (n i : ℕ) (rest : List ℕ) → n ≤ i → behind_tokens (n - i) rest ≡ rest
unfolding behind_tokens
no_token_more n i rest le = let k : n - i ≡ zero = omega arith in rw (k, behind_tokens) refl

pub one_byte_more : (front : List ℕ) (i : ℕ) (at : Place) → i < length front → place_from at (drop i front) ≡ place_from (next_place at (get_or front i 0)) (drop (i + 1) front)
unfolding place_from
one_byte_more front i at lt = ap (place_from at) (cut front i lt)
  where
    cut : (front : List ℕ) (i : ℕ) → i < length front → drop i front ≡ get_or front i 0 ∷ drop (i + 1) front
    cut front i lt = rw (add-one, drop-cons front i 0) refl

pub no_byte_more : (front : List ℕ) (i : ℕ) (at : Place) → length front ≤ i → place_from at (drop i front) ≡ at
unfolding place_from
no_byte_more [] zero at le = refl
no_byte_more [] (suc i) at le = refl
no_byte_more (b ∷ front) zero at le = absurd (omega arith)
no_byte_more (b ∷ front) (suc i) at le = no_byte_more front i at (omega arith)
