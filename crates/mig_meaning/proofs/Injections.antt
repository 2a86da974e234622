-- A renaming that gives different keys to the different keys of a list agrees there with one that does so everywhere.
use Rattle.std.proofs.Common.{◌≡◌, ℕ, zero, suc, ◌+◌, ◌≤◌, Bool, true, false, cond, ◌||◌, List, [], ◌∷◌, map, take, length, refl, sym, ap, ap₂, ◌∙◌, arith, inl, inr, ◌⊎◌}
use Rattle.std.specs.Prelude.{◌==◌}
use Rattle.std.proofs.lemmas.Bool.{cases_Bool, or_cases, eqb-true, eq-eqb, both_ways}
use Rattle.mig_meaning.specs.Lists.{total, has, AllDifferent}
use Rattle.mig_meaning.specs.Renaming.{renaming}
use Rattle.mig_meaning.specs.Law.{InjectiveOn}
use Rattle.mig_meaning.proofs.Renamed.{Injective}
use Rattle.mig_meaning.proofs.Supply.{or_false, has-take}

-- f on the keys of the list, and numbers that f does not reach there elsewhere
abbrev pub widened : List ℕ → (ℕ → ℕ) → ℕ → ℕ
widened ks f k = cond (has ks k) (f k) (1 + (k + total f ks))

pub widened-in : (ks : List ℕ) (f : ℕ → ℕ) (k : ℕ) → has ks k ≡ true → widened ks f k ≡ f k
widened-in ks f k h = ap (λ b. cond b (f k) (1 + (k + total f ks))) h

widened-out : (ks : List ℕ) (f : ℕ → ℕ) (k : ℕ) → has ks k ≡ false → widened ks f k ≡ 1 + (k + total f ks)
widened-out ks f k h = ap (λ b. cond b (f k) (1 + (k + total f ks))) h

below-total : (f : ℕ → ℕ) (ks : List ℕ) (k : ℕ) → has ks k ≡ true → f k ≤ total f ks
below-total f [] k h = cc
below-total f (l ∷ ks) k h = go (below-total f ks k) (or_cases (l == k) (has ks k) h)
  where
    go : (has ks k ≡ true → f k ≤ total f ks) → ((l == k) ≡ true) ⊎ (has ks k ≡ true) → f k ≤ f l + total f ks
    go ih (inl e) = omega (arith, ap f (eqb-true l k e))
    go ih (inr e) = omega (arith, ih e)

pub widened-injective : (ks : List ℕ) (f : ℕ → ℕ) → InjectiveOn ks f → Injective (widened ks f)
widened-injective ks f inj a b e = go (cases_Bool (has ks a)) (cases_Bool (has ks b))
  where
    go : (has ks a ≡ true) ⊎ (has ks a ≡ false) → (has ks b ≡ true) ⊎ (has ks b ≡ false) → a ≡ b
    go (inl p) (inl q) = inj a b p q (sym (widened-in ks f a p) ∙ e ∙ widened-in ks f b q)
    go (inl p) (inr q) = absurd (omega (arith, e, widened-in ks f a p, widened-out ks f b q, below-total f ks a p))
    go (inr p) (inl q) = absurd (omega (arith, e, widened-out ks f a p, widened-in ks f b q, below-total f ks b q))
    go (inr p) (inr q) = omega (arith, e, widened-out ks f a p, widened-out ks f b q)

has-map : (f : ℕ → ℕ) (ks : List ℕ) (k : ℕ) → has ks k ≡ true → has (map f ks) (f k) ≡ true
has-map f [] k h = cc
has-map f (l ∷ ks) k h = go (has-map f ks k) (or_cases (l == k) (has ks k) h)
  where
    or_right : (b c : Bool) → c ≡ true → (b || c) ≡ true
    or_right true c e = refl
    or_right false c e = e

    go : (has ks k ≡ true → has (map f ks) (f k) ≡ true) → ((l == k) ≡ true) ⊎ (has ks k ≡ true) → (f l == f k || has (map f ks) (f k)) ≡ true
    go ih (inl e) = ap (λ b. b || has (map f ks) (f k)) (eq-eqb (f l) (f k) (ap f (eqb-true l k e)))
    go ih (inr e) = or_right (f l == f k) (has (map f ks) (f k)) (ih e)

pub injective-on : (f : ℕ → ℕ) (ks : List ℕ) → AllDifferent (map f ks) → InjectiveOn ks f
injective-on f [] d a b p q e = cc
injective-on f (l ∷ ks) d a b p q e = go (injective-on f ks d.1 a b) (or_cases (l == a) (has ks a) p) (or_cases (l == b) (has ks b) q)
  where
    -- the first key is none of the others, also renamed
    apart : (c : ℕ) → has ks c ≡ true → f l ≡ f c → ⊥
    apart c h k = both_ways (has (map f ks) (f l)) d.0 (ap (has (map f ks)) k ∙ has-map f ks c h)

    go : (has ks a ≡ true → has ks b ≡ true → f a ≡ f b → a ≡ b) → ((l == a) ≡ true) ⊎ (has ks a ≡ true) → ((l == b) ≡ true) ⊎ (has ks b ≡ true) → a ≡ b
    go ih (inl s) (inl t) = sym (eqb-true l a s) ∙ eqb-true l b t
    go ih (inl s) (inr t) = absurd (apart b t (ap f (eqb-true l a s) ∙ e))
    go ih (inr s) (inl t) = absurd (apart a s (ap f (eqb-true l b t) ∙ sym e))
    go ih (inr s) (inr t) = ih s t e

-- the renaming leads the first n keys of one supply to those of the other
pub renaming-takes : (ks ls : List ℕ) (n : ℕ) → AllDifferent ks → n ≤ length ks → n ≤ length ls → map (renaming ks ls) (take n ks) ≡ take n ls
renaming-takes ks ls zero d h k = refl
renaming-takes [] ls (suc n) d h k = absurd (omega arith)
renaming-takes (x ∷ ks) [] (suc n) d h k = absurd (omega arith)
renaming-takes (x ∷ ks) (l ∷ ls) (suc n) d h k =
    ap₂ (λ y ys. y ∷ ys) (ap (λ b. cond b l (renaming ks ls x)) (eq-eqb x x refl))
    (others (take n ks) (has-take n ks x d.0) ∙ renaming-takes ks ls n d.1 (omega (arith, h)) (omega (arith, k)))
  where
    others : (us : List ℕ) → has us x ≡ false → map (renaming (x ∷ ks) (l ∷ ls)) us ≡ map (renaming ks ls) us
    others [] e = refl
    others (u ∷ us) e =
        let p = or_false (u == x) (has us x) e in
        ap₂ (λ y ys. y ∷ ys) (ap (λ b. cond b l (renaming ks ls u)) p.0) (others us p.1)
