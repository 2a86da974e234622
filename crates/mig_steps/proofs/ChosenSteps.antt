-- Chosen lists built number by number.
use Rattle.std.proofs.Common.{◌≡◌, ◌⊎◌, ℕ, suc, ◌+◌, ◌-◌, ◌<◌, ◌≤◌, Bool, true, false, List, [], ◌∷◌, ◌++◌, map, drop, get_or, length, refl, sym, ap, ◌∙◌, inl, inr, arith, add-one, drop-cons, append_assoc}
use Rattle.std.proofs.lemmas.Bool.{cases_Bool}
use Rattle.std.proofs.lemmas.List.{append-nil, drop_all}
use Rattle.mig_listing.specs.Choices.{numbers}
use Rattle.mig_listing.specs.Chosen.{chosen}
use Rattle.mig_steps.specs.Choosing.{chosen_from}

-- the lists that begin with the first of these numbers come first
pub chosen-step : (goes_on : List ℕ → Bool) (n count : ℕ) (before xs : List ℕ) (i : ℕ) (done new : List (List ℕ)) (x : ℕ) → i < length xs → x ≡ get_or xs i 0 → chosen_from goes_on n count before xs ≡ done ++ chosen_from goes_on n count before (drop i xs) → new ≡ done ++ chosen_from goes_on n count before (x ∷ []) → chosen_from goes_on n count before xs ≡ new ++ chosen_from goes_on n count before (drop (i + 1) xs)
chosen-step goes_on n count before xs i done new x l is inv made =
    let cut : drop i xs ≡ x ∷ drop (i + 1) xs = (rw add-one (drop-cons xs i 0 l)) ∙ ap (λ (y : ℕ). y ∷ drop (i + 1) xs) (sym is) in
    inv ∙ ap (λ (r : List ℕ). done ++ chosen_from goes_on n count before r) cut
    ∙ ap (λ (r : List (List ℕ)). done ++ r) (parts (drop (i + 1) xs) (cases_Bool (goes_on (before ++ x ∷ []))))
    ∙ sym (append_assoc done (chosen_from goes_on n count before (x ∷ [])) (chosen_from goes_on n count before (drop (i + 1) xs)))
    ∙ ap (λ (d : List (List ℕ)). d ++ chosen_from goes_on n count before (drop (i + 1) xs)) (sym made)
  where
    parts : (rest : List ℕ) → (goes_on (before ++ x ∷ []) ≡ true) ⊎ (goes_on (before ++ x ∷ []) ≡ false) → chosen_from goes_on n count before (x ∷ rest) ≡ chosen_from goes_on n count before (x ∷ []) ++ chosen_from goes_on n count before rest
    parts rest (inl t) = rw t (ap (λ (r : List (List ℕ)). r ++ chosen_from goes_on n count before rest) (sym (append-nil (map (λ ys. x ∷ ys) (chosen goes_on n count (before ++ x ∷ []))))))
    parts rest (inr f) = rw f refl

-- what is pushed for a number that may follow
pub chosen-pushed : (goes_on : List ℕ → Bool) (n count : ℕ) (before : List ℕ) (x : ℕ) (front : List ℕ) (all rest new : List (List ℕ)) → front ≡ before ++ x ∷ [] → goes_on front ≡ true → rest ≡ chosen goes_on n count front → new ≡ all ++ map (λ ys. x ∷ ys) rest → new ≡ all ++ chosen_from goes_on n count before (x ∷ [])
chosen-pushed goes_on n count before x front all rest new e t r made =
    let here : goes_on (before ++ x ∷ []) ≡ true = ap goes_on (sym e) ∙ t in
    made ∙ ap (λ (q : List (List ℕ)). all ++ q) (ap (map (λ ys. x ∷ ys)) (r ∙ ap (chosen goes_on n count) e) ∙ (rw here (sym (append-nil (map (λ ys. x ∷ ys) (chosen goes_on n count (before ++ x ∷ [])))))))

pub chosen-none : (goes_on : List ℕ → Bool) (n count : ℕ) (before : List ℕ) (x : ℕ) (front : List ℕ) (all : List (List ℕ)) → front ≡ before ++ x ∷ [] → goes_on front ≡ false → all ≡ all ++ chosen_from goes_on n count before (x ∷ [])
chosen-none goes_on n count before x front all e f =
    let here : goes_on (before ++ x ∷ []) ≡ false = ap goes_on (sym e) ∙ f in
    rw here (sym (append-nil all))

pub chosen-whole : (goes_on : List ℕ → Bool) (n count m : ℕ) (before : List ℕ) → count ≡ suc m → chosen goes_on n count before ≡ chosen_from goes_on n m before (numbers n)
chosen-whole goes_on n count m before e = ap (λ (k : ℕ). chosen goes_on n k before) e

pub chosen-ends : (goes_on : List ℕ → Bool) (n count : ℕ) (before xs : List ℕ) (i : ℕ) (all : List (List ℕ)) → 0 < count → xs ≡ numbers n → length xs ≤ i → chosen_from goes_on n (count - 1) before xs ≡ all ++ chosen_from goes_on n (count - 1) before (drop i xs) → all ≡ chosen goes_on n count before
chosen-ends goes_on n count before xs i all some is past inv =
    let e : count ≡ suc (count - 1) = omega arith in
    sym (append-nil all)
    ∙ ap (λ (r : List ℕ). all ++ chosen_from goes_on n (count - 1) before r) (sym (drop_all i xs past))
    ∙ sym inv
    ∙ ap (chosen_from goes_on n (count - 1) before) is
    ∙ sym (chosen-whole goes_on n count (count - 1) before e)
