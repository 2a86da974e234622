-- Sums over products of lists, and what a choice out of each list is.
use Rattle.std.proofs.Common.{◌≡◌, ℕ, suc, Bool, true, false, ◌||◌, List, [], ◌∷◌, ◌++◌, map, refl, sym, ap, ◌∙◌, arith, length}
use Rattle.std.specs.List.{list_any}
use Rattle.mig_meaning.specs.Lists.{total, product, Each}
use Rattle.mig_meaning.proofs.Bags.{total-map}
use Rattle.mig_meaning.proofs.Within.{each-of, each-weaker, each-map, each-flat_map}
use Rattle.mig_algebra.proofs.Sums.{total-same, total-swap, total-flat_map}
use Rattle.std.proofs.lemmas.List.Folds.{list_any-append}

-- the first list's element first
pub total-product : {X : Type 0} (f : List X → ℕ) (xs : List X) (more : List (List X)) → total f (product (xs ∷ more)) ≡ total (λ x. total (λ c. f (x ∷ c)) (product more)) xs
total-product f xs more =
    total-flat_map f (λ x. map (λ c. x ∷ c) (product more)) xs
    ∙ total-same (λ x. total f (map (λ c. x ∷ c) (product more))) (λ x. total (λ c. f (x ∷ c)) (product more)) (λ x. total-map f (λ c. x ∷ c) (product more)) xs

-- the choices of some lists, then those of more
pub total-product_append : {X : Type 0} (f : List X → ℕ) (xss yss : List (List X)) → total f (product (xss ++ yss)) ≡ total (λ c. total (λ d. f (c ++ d)) (product yss)) (product xss)
total-product_append f [] yss = omega arith
total-product_append f (xs ∷ xss) yss =
    total-product f xs (xss ++ yss)
    ∙ total-same (λ x. total (λ c. f (x ∷ c)) (product (xss ++ yss))) (λ x. total (λ c. total (λ d. f (x ∷ (c ++ d))) (product yss)) (product xss)) (λ x. total-product_append (λ c. f (x ∷ c)) xss yss) xs
    ∙ sym (total-product (λ c. total (λ d. f (c ++ d)) (product yss)) xs xss)

-- the element of a list in the middle first
pub total-product_pull : {X : Type 0} (f : List X → ℕ) (xss : List (List X)) (ys : List X) (zss : List (List X)) → total f (product (xss ++ (ys ∷ zss))) ≡ total (λ y. total (λ c. total (λ d. f (c ++ (y ∷ d))) (product zss)) (product xss)) ys
total-product_pull f xss ys zss =
    total-product_append f xss (ys ∷ zss)
    ∙ total-same _ (λ c. total (λ y. total (λ d. f (c ++ (y ∷ d))) (product zss)) ys) (λ c. total-product (λ d. f (c ++ d)) ys zss) (product xss)
    ∙ total-swap (λ c y. total (λ d. f (c ++ (y ∷ d))) (product zss)) (product xss) ys

-- a choice has one element for each list
pub product_lengths : {X : Type 0} (xss : List (List X)) → Each (λ c. length c ≡ length xss) (product xss)
product_lengths [] = (refl, tt)
product_lengths {X} (xs ∷ xss) =
    each-flat_map (λ c. length c ≡ length (xs ∷ xss)) (λ (x : X). Unit {0}) (λ x. map (λ c. x ∷ c) (product xss)) (λ x _.
    each-map (λ c. length c ≡ length (xs ∷ xss)) (λ c. length c ≡ length xss) (λ c. x ∷ c) (λ c e. ap suc e) (product xss) (product_lengths xss))
    xs (each-of (λ (x : X). Unit {0}) (λ x. tt) xs)

-- ---- members

-- x is an element of the list, which stands before and behind it
abbrev pub Among : {X : Type 0} → X → List X → Type 0
Among x xs = (us : List _) × (vs : List _) × (xs ≡ us ++ (x ∷ vs))

-- one element of each list
abbrev pub Picks : {X : Type 0} → List (List X) → List X → Type 0
Picks [] [] = Unit {0}
Picks [] (c ∷ cs) = ⊥
Picks (xs ∷ xss) [] = ⊥
Picks (xs ∷ xss) (c ∷ cs) = Among c xs × Picks xss cs

-- each element is among the list
pub among_each : {X : Type 0} (xs : List X) → Each (λ x. Among x xs) xs
among_each [] = tt
among_each (x ∷ xs) = (([], xs, refl), each-weaker _ (λ y. Among y (x ∷ xs)) (λ y m. (x ∷ m.0, m.1, ap (λ l. x ∷ l) m.2)) xs (among_each xs))

-- each choice picks
pub product_picks : {X : Type 0} (xss : List (List X)) → Each (Picks xss) (product xss)
product_picks [] = (tt, tt)
product_picks (xs ∷ xss) =
    each-flat_map (Picks (xs ∷ xss)) (λ x. Among x xs) (λ x. map (λ c. x ∷ c) (product xss)) (λ x m.
    each-map (Picks (xs ∷ xss)) (Picks xss) (λ c. x ∷ c) (λ c p. (m, p)) (product xss) (product_picks xss)) xs (among_each xs)

-- what picks has one element for each list
pub picks-length : {X : Type 0} (xss : List (List X)) (c : List X) → Picks xss c → length c ≡ length xss
picks-length [] [] p = refl
picks-length [] (x ∷ c) p = absurd p
picks-length (xs ∷ xss) [] p = absurd p
picks-length (xs ∷ xss) (x ∷ c) p = ap suc (picks-length xss c p.1)

-- a member that passes
pub among_any : {X : Type 0} (f : X → Bool) (x : X) (xs : List X) → Among x xs → f x ≡ true → list_any f xs ≡ true
among_any f x xs m t =
    ap (list_any f) m.2 ∙ list_any-append f m.0 (x ∷ m.1) ∙ ap (λ b. list_any f m.0 || (b || list_any f m.1)) t ∙ go (list_any f m.0)
  where
    go : (b : Bool) → (b || (true || list_any f m.1)) ≡ true
    go true = refl
    go false = refl
