-- Orders, and how they are made of others.
use Rattle.std.specs.Prelude.{◌≡◌, ◌⊎◌, ℕ, ◌<◌, Bool, true, false, List, [], ◌∷◌}

-- nothing stands before itself, and what stands before y stands before all that y stands before
pub record IsOrder {A : Type 0} (R : A → A → Type 0) : Type 0 where
  pub never : (x : A) → R x x → ⊥
  pub on : (x y z : A) → R x y → R y z → R x z

-- of two different ones that P holds of, one stands before the other
abbrev pub IsTotalOn : {A : Type 0} → (A → Type 0) → (A → A → Type 0) → Type 0
IsTotalOn {A} P R = (x y : A) → P x → P y → (x ≡ y) ⊎ (R x y ⊎ R y x)

-- the smaller number first
abbrev pub Less : ℕ → ℕ → Type 0
Less a b = a < b

-- true first
abbrev pub TrueFirst : Bool → Bool → Type 0
TrueFirst a b = (a ≡ true) × (b ≡ false)

-- of two lists, that one whose item stands before the other's where they first differ; a list and its front are in no order
abbrev pub Lex : {A : Type 0} → (A → A → Type 0) → List A → List A → Type 0
Lex R [] ys = ⊥
Lex R (x ∷ xs) [] = ⊥
Lex R (x ∷ xs) (y ∷ ys) = R x y ⊎ ((x ≡ y) × Lex R xs ys)

-- by a key, and where the keys are equal by S
abbrev pub FirstBy : {A K : Type 0} → (A → K) → (K → K → Type 0) → (A → A → Type 0) → A → A → Type 0
FirstBy key R S a b = R (key a) (key b) ⊎ ((key a ≡ key b) × S a b)

-- of two lists, that one which is the other's front, or whose item stands before the other's where they first differ
abbrev pub FrontFirst : {A : Type 0} → (A → A → Type 0) → List A → List A → Type 0
FrontFirst R xs [] = ⊥
FrontFirst R [] (y ∷ ys) = Unit {0}
FrontFirst R (x ∷ xs) (y ∷ ys) = R x y ⊎ ((x ≡ y) × FrontFirst R xs ys)

-- lists of numbers, a front first
abbrev pub Before : (xs ys : List ℕ) → Type 0
Before xs ys = FrontFirst Less xs ys

-- by the first parts, then by the second
abbrev pub BeforePair : {A B : Type 0} → (A → A → Type 0) → (B → B → Type 0) → (A × B) → (A × B) → Type 0
BeforePair R S p q = R p.0 q.0 ⊎ ((p.0 ≡ q.0) × S p.1 q.1)
