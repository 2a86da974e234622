-- All choices of n of a pool, by size and place.
use Rattle.std.proofs.Common.{◌≡◌, ℕ, ◌<◌, true, List, [], ◌∷◌, ◌++◌, length, refl, ap, sym, subst, inl, inr, arith, suc, zero, length-append}
use Rattle.std.specs.Prelude.{filter}
use Rattle.std.specs.List.{flat_map}
use Rattle.std.proofs.lemmas.Bool.{cases_eq, lt-ltb, ltb-true, and_from, and_parts}
use Rattle.mig_listing.specs.Choices.{IsChoice, numbers, is_above, longer, choices}
use Rattle.mig_listing.specs.Listing.{IsIn, Rises, IsListOf}
use Rattle.mig_listing.specs.Orders.{Less, Lex}
use Rattle.mig_listing.proofs.Listings.{listed_as, listed_one, listed_flat_map, listed_map, listed_filter}
use Rattle.mig_listing.proofs.Members.{in_append, in_append_left, in_append_right}
use Rattle.mig_listing.proofs.Orders.{Lex-append, Lex-same_front}
use Rattle.mig_listing.proofs.Rising.{rises_append, rises_left, rises_across}

-- the one choice of none
pub choices-zero : (pool : List ℕ) → choices 0 pool ≡ [] ∷ []
unfolding choices
choices-zero pool = refl

-- the choices of one more are the longer ones of those of n
pub choices-suc : (n : ℕ) (pool : List ℕ) → choices (suc n) pool ≡ flat_map (longer pool) (choices n pool)
unfolding choices
choices-suc n pool = refl

-- the numbers below n are all numbers below n, rising
pub numbers_below : (n x : ℕ) → IsIn x (numbers n) → x < n
numbers_below zero x i = absurd i
numbers_below (suc n) x i = elim (in_append (numbers n) (n ∷ []) x i) [
  | inl j ↦ let h = numbers_below n x j in omega arith
  | inr j ↦ elim j [ inl e ↦ omega arith | inr k ↦ absurd k ]
]

-- each number below n is one of them
pub in_numbers : (n x : ℕ) → x < n → IsIn x (numbers n)
in_numbers zero x h = absurd (omega arith)
in_numbers (suc n) x h = elim (cases_eq x n) [
  | inl e ↦ in_append_right (numbers n) (n ∷ []) x (inl e)
  | inr ne ↦ in_append_left (numbers n) (n ∷ []) x (in_numbers n x (omega arith))
]

-- they rise
pub numbers_rise : (n : ℕ) → Rises Less (numbers n)
numbers_rise zero = tt
numbers_rise (suc n) = rises_append {R = Less} (numbers n) (n ∷ []) (numbers_rise n) ((λ y i. absurd i), tt) (λ x y i j. let h = numbers_below n x i in elim j [ inl e ↦ omega arith | inr k ↦ absurd k ])

-- so they are the list of the numbers below n
pub listed_numbers : (n : ℕ) → IsListOf (λ x. x < n) Less (numbers n)
listed_numbers n = record { rises = numbers_rise n; holds = λ x i. numbers_below n x i; has = λ x h. in_numbers n x h }

-- is_above is right, both ways
pub above_to : (c : List ℕ) (x y : ℕ) → is_above c x ≡ true → IsIn y c → y < x
above_to [] x y h i = absurd i
above_to (z ∷ c) x y h i = let parts = and_parts _ _ h in elim i [
  | inl e ↦ let lt = ltb-true z x parts.0 in omega (arith, lt, e)
  | inr j ↦ above_to c x y parts.1 j
]

-- what is above each of a choice is above it
pub above_from : (c : List ℕ) (x : ℕ) → ((y : ℕ) → IsIn y c → y < x) → is_above c x ≡ true
above_from [] x h = refl
above_from (z ∷ c) x h = and_from _ _ (lt-ltb z x (h z (inl refl))) (above_from c x (λ y i. h y (inr i)))

-- a list of no length is empty
pub is_nil : (c : List ℕ) → length c ≡ 0 → c ≡ []
is_nil [] e = refl
is_nil (x ∷ c) e = absurd (omega (arith, e))

-- a list of n + 1 is one of n and a last item
pub split_last : (n : ℕ) (y : List ℕ) → length y ≡ suc n → (c : List ℕ) × (x : ℕ) × (y ≡ c ++ x ∷ []) × (length c ≡ n)
split_last n [] e = absurd (omega (arith, e))
split_last zero (a ∷ ys) e = ([], a, ap (λ t. a ∷ t) (is_nil ys (omega (arith, e))), refl)
split_last (suc n) (a ∷ ys) e =
    let rest = split_last n ys (omega (arith, e)) in
    (a ∷ rest.0, rest.1, ap (λ t. a ∷ t) rest.2, omega (arith, rest.3))

-- a choice of n, and one of the pool above it, are a choice of n + 1
pub choice_more : (n : ℕ) (pool c : List ℕ) (x : ℕ) → IsChoice n pool c → IsIn x pool → is_above c x ≡ true → IsChoice (suc n) pool (c ++ x ∷ [])
choice_more n pool c x k i above = record {
  rising = rises_append {R = Less} c (x ∷ []) k.rising ((λ y j. absurd j), tt) (λ a b p q. elim q [ inl e ↦ subst (λ z. a < z) (sym e) (above_to c x a above p) | inr r ↦ absurd r ]);
  sized = omega (arith, length-append c (x ∷ []), k.sized);
  from = λ y j. elim (in_append c (x ∷ []) y j) [ inl p ↦ k.from y p | inr q ↦ elim q [ inl e ↦ subst (λ z. IsIn z pool) (sym e) i | inr r ↦ absurd r ] ];
}

-- and each choice of n + 1 is that
pub choice_last : (n : ℕ) (pool c : List ℕ) (x : ℕ) → length c ≡ n → IsChoice (suc n) pool (c ++ x ∷ []) → IsChoice n pool c × IsIn x pool × (is_above c x ≡ true)
choice_last n pool c x size k = (
  record { rising = rises_left Less c (x ∷ []) k.rising; sized = size; from = λ y i. k.from y (in_append_left c (x ∷ []) y i) },
  k.from x (in_append_right c (x ∷ []) x (inl refl)),
  above_from c x (λ y i. rises_across Less c (x ∷ []) y x k.rising i (inl refl)),
)

-- a rising list is the list of its items
pub listed_self : (pool : List ℕ) → Rises Less pool → IsListOf (λ x. IsIn x pool) Less pool
listed_self pool r = record { rises = r; holds = λ x i. i; has = λ x i. i }

-- y is the choice with one more of the pool
abbrev pub IsLonger : List ℕ → List ℕ → List ℕ → Type 0
IsLonger pool c y = (x : ℕ) × (IsIn x pool × (is_above c x ≡ true)) × (y ≡ c ++ x ∷ [])

-- the choices with one more of the pool are listed in order
pub listed_longer : (pool c : List ℕ) → Rises Less pool → IsListOf (IsLonger pool c) (Lex Less) (longer pool c)
listed_longer pool c r = listed_map {P = λ x. IsIn x pool × (is_above c x ≡ true)} {R = Less} {S = Lex Less} (λ x. c ++ x ∷ []) (filter (is_above c) pool) (listed_filter {P = λ x. IsIn x pool} {R = Less} (is_above c) pool (listed_self pool r)) (λ a b s. Lex-same_front Less c (a ∷ []) (b ∷ []) (inl s))

-- a choice with one more of the pool is a choice of one more
pub choice_to : (n : ℕ) (pool y : List ℕ) → (c : List ℕ) × IsChoice n pool c × IsLonger pool c y → IsChoice (suc n) pool y
choice_to n pool y h = subst (IsChoice (suc n) pool) (sym h.2.2) (choice_more n pool h.0 h.2.0 h.1 h.2.1.0 h.2.1.1)

-- and each choice of one more is such
pub choice_back : (n : ℕ) (pool y : List ℕ) → IsChoice (suc n) pool y → (c : List ℕ) × IsChoice n pool c × IsLonger pool c y
choice_back n pool y k =
    let split = split_last n y k.sized in
    let last = choice_last n pool split.0 split.1 split.3 (subst (IsChoice (suc n) pool) split.2 k) in
    (split.0, last.0, (split.1, (last.1, last.2), split.2))

-- the choices of n of a rising pool, in order
pub choices_listed : (n : ℕ) (pool : List ℕ) → Rises Less pool → IsListOf (IsChoice n pool) (Lex Less) (choices n pool)
choices_listed zero pool r = rw choices-zero (listed_as {P = λ c. c ≡ []} {Q = IsChoice 0 pool} ([] ∷ []) (listed_one [])
    (λ c e. subst (IsChoice 0 pool) (sym e) (record { rising = tt; sized = refl; from = λ x i. absurd i }))
    (λ c k. is_nil c k.sized))
choices_listed (suc n) pool r = rw choices-suc (listed_as {P = λ y. (c : List ℕ) × IsChoice n pool c × IsLonger pool c y} {Q = IsChoice (suc n) pool} (flat_map (longer pool) (choices n pool))
    (listed_flat_map {P = IsChoice n pool} {R = Lex Less} {Q = IsLonger pool} {S = Lex Less} (longer pool) (choices n pool) (choices_listed n pool r) (λ c k. listed_longer pool c r)
    (λ a b u v p q s l m. subst (λ z. Lex Less z v) (sym l.2) (subst (λ z. Lex Less (a ++ l.0 ∷ []) z) (sym m.2) (Lex-append Less a b (l.0 ∷ []) (m.0 ∷ []) s))))
    (choice_to n pool)
    (choice_back n pool))
