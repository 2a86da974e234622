-- Lists made of rising lists, and when they rise.
use Rattle.std.proofs.Common.{◌≡◌, ◌⊎◌, Bool, List, [], ◌∷◌, ◌++◌, map, refl, sym, ◌∙◌, subst, inl, inr}
use Rattle.std.specs.Prelude.{filter}
use Rattle.std.specs.List.{flat_map}
use Rattle.std.proofs.lemmas.Bool.{cases_Bool}
use Rattle.mig_listing.specs.Listing.{IsIn, Rises}
use Rattle.mig_listing.proofs.Members.{in_append, in_append_left, in_append_right, in_flat_map, in_map, in_filter}

-- two rising lists one after the other, where all of the first stand before all of the second
pub rises_append : {A : Type 0} {R : A → A → Type 0} (xs ys : List A) → Rises R xs → Rises R ys → ((x y : A) → IsIn x xs → IsIn y ys → R x y) → Rises R (xs ++ ys)
rises_append [] ys rx ry h = ry
rises_append (x ∷ xs) ys rx ry h = (
  (λ z i. elim (in_append xs ys z i) [ inl j ↦ rx.0 z j | inr j ↦ h x z (inl refl) j ]),
  rises_append xs ys rx.1 ry (λ a b i j. h a b (inr i) j),
)

-- the front of a rising list rises
pub rises_left : {A : Type 0} (R : A → A → Type 0) (xs ys : List A) → Rises R (xs ++ ys) → Rises R xs
rises_left R [] ys r = tt
rises_left R (x ∷ xs) ys r = ((λ z i. r.0 z (in_append_left xs ys z i)), rises_left R xs ys r.1)

-- what stands in the front of a rising list stands before what follows the front
pub rises_across : {A : Type 0} (R : A → A → Type 0) (xs ys : List A) (x y : A) → Rises R (xs ++ ys) → IsIn x xs → IsIn y ys → R x y
rises_across R [] ys x y r i j = absurd i
rises_across R (a ∷ xs) ys x y r i j = elim i [
  | inl e ↦ subst (λ b. R b y) (sym e) (r.0 y (in_append_right xs ys y j))
  | inr k ↦ rises_across R xs ys x y r.1 k j
]

-- rising lists of which the earlier stand before the later
pub rises_flat_map : {A B : Type 0} {R : A → A → Type 0} {S : B → B → Type 0} (f : A → List B) (xs : List A) → Rises R xs → ((x : A) → IsIn x xs → Rises S (f x)) → ((a b : A) (u v : B) → IsIn a xs → IsIn b xs → R a b → IsIn u (f a) → IsIn v (f b) → S u v) → Rises S (flat_map f xs)
rises_flat_map f [] rx each across = tt
rises_flat_map f (x ∷ xs) rx each across =
    rises_append (f x) (flat_map f xs) (each x (inl refl)) (rises_flat_map f xs rx.1 (λ a i. each a (inr i)) (λ a b u v i j. across a b u v (inr i) (inr j)))
    (λ u v i j. let there = in_flat_map f xs v j in across x there.0 u v (inl refl) (inr there.1) (rx.0 there.0 there.1) i there.2)

-- f keeps the order
pub rises_map : {A B : Type 0} (R : A → A → Type 0) (S : B → B → Type 0) (f : A → B) (xs : List A) → Rises R xs → ((a b : A) → R a b → S (f a) (f b)) → Rises S (map f xs)
rises_map R S f [] r h = tt
rises_map R S f (x ∷ xs) r h = (
  (λ y i. let there = in_map f xs y i in subst (S (f x)) (sym there.2) (h x there.0 (r.0 there.0 there.1))),
  rises_map R S f xs r.1 h,
)

-- what is left of a rising list rises
pub rises_filter : {A : Type 0} (R : A → A → Type 0) (p : A → Bool) (xs : List A) → Rises R xs → Rises R (filter p xs)
rises_filter R p [] r = tt
rises_filter R p (x ∷ xs) r = elim (cases_Bool (p x)) [
  | inl t ↦ rw t ((λ y i. r.0 y (in_filter p xs y i).0), rises_filter R p xs r.1)
  | inr f ↦ rw f (rises_filter R p xs r.1)
]

-- of two different items of a rising list one stands before the other
pub rises_total : {A : Type 0} (R : A → A → Type 0) (xs : List A) (a b : A) → Rises R xs → IsIn a xs → IsIn b xs → (a ≡ b) ⊎ (R a b ⊎ R b a)
rises_total R [] a b r i j = absurd i
rises_total R (x ∷ xs) a b r i j = elim i [
  | inl e ↦ elim j [
    | inl d ↦ inl (e ∙ sym d)
    | inr k ↦ inr (inl (subst (λ c. R c b) (sym e) (r.0 b k)))
  ]
  | inr h ↦ elim j [
    | inl d ↦ inr (inr (subst (λ c. R c a) (sym d) (r.0 a h)))
    | inr k ↦ rises_total R xs a b r.1 h k
  ]
]
