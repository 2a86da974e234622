-- Orders made of orders are orders, and of two different ones one stands first where the parts say so.
use Rattle.std.proofs.Common.{◌≡◌, ℕ, ◌⊎◌, Bool, true, false, List, [], ◌∷◌, ◌++◌, length, refl, ap, sym, ◌∙◌, subst, inl, inr, arith}
use Rattle.std.proofs.lemmas.Bool.{false≢true}
use Rattle.mig_listing.specs.Orders.{IsOrder, IsTotalOn, Less, TrueFirst, Lex, FrontFirst, Before, FirstBy}

-- numbers by size
pub less_order : IsOrder Less
less_order = record { never = λ x h. omega arith; on = λ x y z h k. omega arith }

-- no list stands before itself
pub Lex-never : {A : Type 0} {R : A → A → Type 0} → IsOrder R → (xs : List A) → Lex R xs xs → ⊥
Lex-never o [] h = h
Lex-never o (x ∷ xs) h = elim h [ inl r ↦ o.never x r | inr t ↦ Lex-never o xs t.1 ]

-- a list that stands before another stands before all that this one stands before
pub Lex-on : {A : Type 0} {R : A → A → Type 0} → IsOrder R → (xs ys zs : List A) → Lex R xs ys → Lex R ys zs → Lex R xs zs
Lex-on o [] ys zs h k = absurd h
Lex-on o (x ∷ xs) [] zs h k = absurd h
Lex-on o (x ∷ xs) (y ∷ ys) [] h k = absurd k
Lex-on {R = R} o (x ∷ xs) (y ∷ ys) (z ∷ zs) h k = elim h [
  | inl r ↦ elim k [
    | inl s ↦ inl (o.on x y z r s)
    | inr t ↦ inl (subst (R x) t.0 r)
  ]
  | inr s ↦ elim k [
    | inl r ↦ inl (subst (λ a. R a z) (sym s.0) r)
    | inr t ↦ inr (s.0 ∙ t.0, Lex-on o xs ys zs s.1 t.1)
  ]
]

-- lists by the first place where they differ
pub Lex-order : {A : Type 0} {R : A → A → Type 0} → IsOrder R → IsOrder (Lex R)
Lex-order o = record { never = Lex-never o; on = Lex-on o }

-- what follows after a difference does not count
pub Lex-append : {A : Type 0} (R : A → A → Type 0) (xs ys us vs : List A) → Lex R xs ys → Lex R (xs ++ us) (ys ++ vs)
Lex-append R [] ys us vs h = absurd h
Lex-append R (x ∷ xs) [] us vs h = absurd h
Lex-append R (x ∷ xs) (y ∷ ys) us vs h = elim h [ inl r ↦ inl r | inr t ↦ inr (t.0, Lex-append R xs ys us vs t.1) ]

-- a front that both have does not count
pub Lex-same_front : {A : Type 0} (R : A → A → Type 0) (xs us vs : List A) → Lex R us vs → Lex R (xs ++ us) (xs ++ vs)
Lex-same_front R [] us vs h = h
Lex-same_front R (x ∷ xs) us vs h = inr (refl, Lex-same_front R xs us vs h)

-- by a key, then otherwise
pub FirstBy-order : {A K : Type 0} (key : A → K) {R : K → K → Type 0} {S : A → A → Type 0} → IsOrder R → IsOrder S → IsOrder (FirstBy key R S)
FirstBy-order key {R = R} {S = S} o p = record {
  never = λ x h. elim h [ inl r ↦ o.never (key x) r | inr t ↦ p.never x t.1 ];
  on = λ x y z h k. elim h [
    | inl r ↦ elim k [ inl s ↦ inl (o.on (key x) (key y) (key z) r s) | inr t ↦ inl (subst (R (key x)) t.0 r) ]
    | inr s ↦ elim k [ inl r ↦ inl (subst (λ a. R a (key z)) (sym s.0) r) | inr t ↦ inr (s.0 ∙ t.0, p.on x y z s.1 t.1) ]
  ];
}

pub FirstBy-total : {A K : Type 0} (key : A → K) (P : A → Type 0) {R : K → K → Type 0} {S : A → A → Type 0} → ((a b : K) → (a ≡ b) ⊎ (R a b ⊎ R b a)) → IsTotalOn P S → IsTotalOn P (FirstBy key R S)
FirstBy-total key P t u = λ x y p q. elim (t (key x) (key y)) [
  | inl e ↦ elim (u x y p q) [
    | inl same ↦ inl same
    | inr order ↦ elim order [ inl s ↦ inr (inl (inr (e, s))) | inr s ↦ inr (inr (inr (sym e, s))) ]
  ]
  | inr order ↦ elim order [ inl r ↦ inr (inl (inl r)) | inr r ↦ inr (inr (inl r)) ]
]

-- true before false
pub true_first_order : IsOrder TrueFirst
true_first_order = record { never = λ x h. false≢true (sym h.1 ∙ h.0); on = λ x y z h k. (h.0, k.1) }

-- of two different truth values one stands first
pub true_first_total : (a b : Bool) → (a ≡ b) ⊎ (TrueFirst a b ⊎ TrueFirst b a)
true_first_total true true = inl refl
true_first_total true false = inr (inl (refl, refl))
true_first_total false true = inr (inr (refl, refl))
true_first_total false false = inl refl

-- lists of one length
pub Lex-cases : {A : Type 0} {R : A → A → Type 0} → ((a b : A) → (a ≡ b) ⊎ (R a b ⊎ R b a)) → (xs ys : List A) → length xs ≡ length ys → (xs ≡ ys) ⊎ (Lex R xs ys ⊎ Lex R ys xs)
Lex-cases t [] [] e = inl refl
Lex-cases t [] (y ∷ ys) e = absurd (omega arith)
Lex-cases t (x ∷ xs) [] e = absurd (omega arith)
Lex-cases {A} {R} t (x ∷ xs) (y ∷ ys) e = elim (t x y) [
  | inl same ↦ elim (Lex-cases t xs ys (omega (arith, e))) [
    | inl rest ↦ inl (ap (λ h. h ∷ xs) same ∙ ap (λ l. y ∷ l) rest)
    | inr order ↦ elim order [ inl r ↦ inr (inl (inr (same, r))) | inr r ↦ inr (inr (inr (sym same, r))) ]
  ]
  | inr order ↦ elim order [ inl r ↦ inr (inl (inl r)) | inr r ↦ inr (inr (inl r)) ]
]

-- of two different lists of one length one stands first
pub Lex-total : {A : Type 0} (n : ℕ) {P : List A → Type 0} {R : A → A → Type 0} → ((xs : List A) → P xs → length xs ≡ n) → ((a b : A) → (a ≡ b) ⊎ (R a b ⊎ R b a)) → IsTotalOn P (Lex R)
Lex-total n sized t = λ x y p q. Lex-cases t x y (sized x p ∙ sym (sized y q))

-- ---- lists, a front first

pub FrontFirst-never : {A : Type 0} {R : A → A → Type 0} → IsOrder R → (xs : List A) → FrontFirst R xs xs → ⊥
FrontFirst-never o [] h = h
FrontFirst-never o (x ∷ xs) h = elim h [ inl r ↦ o.never x r | inr t ↦ FrontFirst-never o xs t.1 ]

pub FrontFirst-on : {A : Type 0} {R : A → A → Type 0} → IsOrder R → (xs ys zs : List A) → FrontFirst R xs ys → FrontFirst R ys zs → FrontFirst R xs zs
FrontFirst-on o xs [] zs h k = absurd h
FrontFirst-on o xs (y ∷ ys) [] h k = absurd k
FrontFirst-on o [] (y ∷ ys) (z ∷ zs) h k = tt
FrontFirst-on {R = R} o (x ∷ xs) (y ∷ ys) (z ∷ zs) h k = elim h [
  | inl r ↦ elim k [ inl s ↦ inl (o.on x y z r s) | inr t ↦ inl (subst (R x) t.0 r) ]
  | inr s ↦ elim k [ inl r ↦ inl (subst (λ a. R a z) (sym s.0) r) | inr t ↦ inr (s.0 ∙ t.0, FrontFirst-on o xs ys zs s.1 t.1) ]
]

pub FrontFirst-order : {A : Type 0} {R : A → A → Type 0} → IsOrder R → IsOrder (FrontFirst R)
FrontFirst-order o = record { never = FrontFirst-never o; on = FrontFirst-on o }

-- of two different lists one stands before the other
pub FrontFirst-total : {A : Type 0} {R : A → A → Type 0} → ((a b : A) → (a ≡ b) ⊎ (R a b ⊎ R b a)) → (xs ys : List A) → (xs ≡ ys) ⊎ (FrontFirst R xs ys ⊎ FrontFirst R ys xs)
FrontFirst-total t [] [] = inl refl
FrontFirst-total t [] (y ∷ ys) = inr (inl tt)
FrontFirst-total t (x ∷ xs) [] = inr (inr tt)
FrontFirst-total {A} {R} t (x ∷ xs) (y ∷ ys) = elim (t x y) [
  | inl same ↦ elim (FrontFirst-total t xs ys) [
    | inl rest ↦ inl (ap (λ h. h ∷ xs) same ∙ ap (λ l. y ∷ l) rest)
    | inr order ↦ elim order [ inl r ↦ inr (inl (inr (same, r))) | inr r ↦ inr (inr (inr (sym same, r))) ]
  ]
  | inr order ↦ elim order [ inl r ↦ inr (inl (inl r)) | inr r ↦ inr (inr (inl r)) ]
]

pub before_order : IsOrder Before
before_order = FrontFirst-order less_order

-- of two numbers that differ one is the smaller
pub less_total : (a b : ℕ) → (a ≡ b) ⊎ (Less a b ⊎ Less b a)
less_total a b = grind arith
