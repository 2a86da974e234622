-- What is found in a rising list is what the least key gives.
use Rattle.std.proofs.Common.{◌≡◌, ℕ, zero, suc, ◌<◌, List, [], ◌∷◌, ◌++◌, Option, Some, None, refl, sym, ap, ◌∙◌, subst, inl, inr, arith}
use Rattle.std.proofs.lemmas.Bool.{cases_eq}
use Rattle.mig_listing.specs.Listing.{IsIn, Rises}
use Rattle.mig_listing.specs.Orders.{IsOrder, BeforePair}
use Rattle.mig_listing.specs.Choices.{numbers}
use Rattle.mig_listing.specs.Finding.{or_else, first_some, IsLeast, Finds, Offers}

-- what is nothing, since it is no thing
pub none-by : {V : Type 0} (x : Option V) → ((v : V) → x ≡ Some v → ⊥) → x ≡ None
none-by None h = refl
none-by (Some v) h = absurd (h v refl)

-- where a list gives nothing, none of it does
none-in : {K V : Type 0} (f : K → Option V) (ks : List K) (k : K) → first_some f ks ≡ None → IsIn k ks → f k ≡ None
none-in f [] k h i = absurd i
none-in {V = V} f (j ∷ ks) k h i = go (f j) refl (none-in f ks k)
  where
    go : (x : Option V) → f j ≡ x → (first_some f ks ≡ None → IsIn k ks → f k ≡ None) → f k ≡ None
    go (Some w) e ih = let bad : Some w ≡ None = sym (ap (λ x. or_else x (first_some f ks)) e) ∙ h in cc
    go None e ih = elim i [ inl same ↦ ap f same ∙ e | inr later ↦ ih (sym (ap (λ x. or_else x (first_some f ks)) e) ∙ h) later ]

abbrev FoundIn : {K V : Type 0} → (K → K → Type 0) → (K → Option V) → List K → V → Type 0
FoundIn {K} R f ks v = (k : K) × IsIn k ks × (f k ≡ Some v) × ((j : K) → IsIn j ks → R j k → f j ≡ None)

-- what a list gives, one of it gives, and none before that one gives anything
found-in : {K V : Type 0} {R : K → K → Type 0} (o : IsOrder R) (f : K → Option V) (ks : List K) (v : V) → Rises R ks → first_some f ks ≡ Some v → FoundIn R f ks v
found-in o f [] v r h = cc
found-in {V = V} {R = R} o f (k ∷ ks) v r h = go (f k) refl (found-in o f ks v r.1)
  where
    go : (x : Option V) → f k ≡ x → (first_some f ks ≡ Some v → FoundIn R f ks v) → FoundIn R f (k ∷ ks) v
    go (Some w) e ih = (
      k,
      inl refl,
      e ∙ (sym (ap (λ x. or_else x (first_some f ks)) e) ∙ h),
      λ j i b. elim i [
        | inl same ↦ absurd (o.never k (subst (λ z. R z k) same b))
        | inr later ↦ absurd (o.never k (o.on k j k (r.0 j later) b))
      ],
    )
    go None e ih =
        let rest = ih (sym (ap (λ x. or_else x (first_some f ks)) e) ∙ h) in
        (rest.0, inr rest.1, rest.2, λ j i b. elim i [ inl same ↦ ap f same ∙ e | inr later ↦ rest.3 j later b ])

pub finds-offered : {K V : Type 0} {R : K → K → Type 0} (gives : K → Option V) (ks : List K) → IsOrder R → Offers R gives ks → Finds R gives (first_some gives ks)
finds-offered {V = V} {R = R} gives ks o l = go (first_some gives ks) refl
  where
    go : (x : Option V) → first_some gives ks ≡ x → Finds R gives x
    go None e = λ k. none-by (gives k) (λ v g. let n : gives k ≡ None = none-in gives ks k e (l.has k v g) in cc)
    go (Some v) e =
        let f = found-in o gives ks v l.rises e in
        record { key = f.0; gives_it = f.2; least = λ k b. none-by (gives k) (λ w g. let n : gives k ≡ None = f.3 k (l.has k w g) b in cc) }

-- by one key after another
pub finds-both : {K J V : Type 0} (R : K → K → Type 0) (S : J → J → Type 0) (g : K → J → Option V) (o : K → Option V) (r : Option V) → Finds R o r → ((k : K) → Finds S (g k) (o k)) → Finds (BeforePair R S) (λ (p : K × J). g p.0 p.1) r
finds-both R S g o None h all = λ p. (subst (Finds S (g p.0)) (h p.0) (all p.0)) p.1
finds-both R S g o (Some v) h all =
    let inner : IsLeast S (g h.key) v = subst (Finds S (g h.key)) h.gives_it (all h.key) in
    record {
      key = (h.key, inner.key);
      gives_it = inner.gives_it;
      least = λ p b. elim b [
        | inl r ↦ (subst (Finds S (g p.0)) (h.least p.0 r) (all p.0)) p.1
        | inr s ↦ ap (λ k. g k p.1) s.0 ∙ inner.least p.1 s.1
      ];
    }

-- by keys that are other values
pub finds-as : {K L V : Type 0} (R : K → K → Type 0) (S : L → L → Type 0) (gives : K → Option V) (gives' : L → Option V) (to : K → L) (from : L → K) (r : Option V) → ((l : L) → gives' l ≡ gives (from l)) → ((k : K) → gives' (to k) ≡ gives k) → ((l : L) (k : K) → S l (to k) → R (from l) k) → Finds R gives r → Finds S gives' r
finds-as R S gives gives' to from None at back less h = λ l. at l ∙ h (from l)
finds-as R S gives gives' to from (Some v) at back less h = record {
  key = to h.key;
  gives_it = back h.key ∙ h.gives_it;
  least = λ l b. at l ∙ h.least (from l) (less l h.key b);
}

-- ---- loops

-- what two lists give, one after the other
pub first-append : {K V : Type 0} (f : K → Option V) (xs ys : List K) → first_some f (xs ++ ys) ≡ or_else (first_some f xs) (first_some f ys)
first-append f [] ys = refl
first-append {V = V} f (x ∷ xs) ys = go (f x) (first-append f xs ys)
  where
    go : (o : Option V) → first_some f (xs ++ ys) ≡ or_else (first_some f xs) (first_some f ys) → or_else o (first_some f (xs ++ ys)) ≡ or_else (or_else o (first_some f xs)) (first_some f ys)
    go (Some v) ih = refl
    go None ih = ih

-- one more number that gives nothing
pub first-more : {V : Type 0} (f : ℕ → Option V) (i : ℕ) → first_some f (numbers i) ≡ None → f i ≡ None → first_some f (numbers (suc i)) ≡ None
first-more f i h n = first-append f (numbers i) (i ∷ []) ∙ ap (λ o. or_else o (or_else (f i) None)) h ∙ ap (λ o. or_else o None) n

-- the first number that gives something
pub first-at : {V : Type 0} (f : ℕ → Option V) (i n : ℕ) (v : V) → first_some f (numbers i) ≡ None → f i ≡ Some v → i < n → first_some f (numbers n) ≡ Some v
first-at f i zero v h g l = absurd (omega arith)
first-at f i (suc n) v h g l = elim (cases_eq i n) [
  | inl e ↦ first-append f (numbers n) (n ∷ []) ∙ ap (λ o. or_else o (or_else (f n) None)) (ap (λ k. first_some f (numbers k)) (sym e) ∙ h) ∙ ap (λ o. or_else o None) (ap f (sym e) ∙ g)
  | inr ne ↦ first-append f (numbers n) (n ∷ []) ∙ ap (λ o. or_else o (or_else (f n) None)) (first-at f i n v h g (omega arith))
]

-- the least of a rising list of keys, of each of which the least further key is known
pub finds-nested : {K J V : Type 0} (R : K → K → Type 0) (S : J → J → Type 0) (g : K → J → Option V) (inner : K → Option V) (ks : List K) → IsOrder R → Rises R ks → ((k : K) (j : J) (v : V) → g k j ≡ Some v → IsIn k ks) → ((k : K) → Finds S (g k) (inner k)) → Finds (BeforePair R S) (λ (p : K × J). g p.0 p.1) (first_some inner ks)
finds-nested {V = V} R S g inner ks o rises has all =
    finds-both R S g inner (first_some inner ks)
    (finds-offered inner ks o (record { rises = rises; has = λ k v e. let i : IsLeast S (g k) v = subst (Finds S (g k)) e (all k) in has k i.key v i.gives_it }))
    all
