-- There is one list of all that P holds of, in an order.
use Rattle.std.proofs.Common.{◌≡◌, List, [], ◌∷◌, refl, ap, sym, ◌∙◌, subst, inl, inr}
use Rattle.mig_listing.specs.Listing.{IsIn, Rises, IsListOf}
use Rattle.mig_listing.specs.Orders.{IsOrder}

-- two rising lists with the same items begin with the same
pub same_head : {A : Type 0} {R : A → A → Type 0} (o : IsOrder R) (x y : A) (xs ys : List A) → Rises R (x ∷ xs) → Rises R (y ∷ ys) → IsIn x (y ∷ ys) → IsIn y (x ∷ xs) → x ≡ y
same_head o x y xs ys rx ry there here = elim there [
  | inl e ↦ e
  | inr i ↦ elim here [
    | inl e ↦ sym e
    | inr j ↦ absurd (o.never x (o.on x y x (rx.0 y j) (ry.0 x i)))
  ]
]

-- what stands in a list after its head is in its tail
pub in_tail : {A : Type 0} {R : A → A → Type 0} (o : IsOrder R) (x y z : A) (ys : List A) → x ≡ y → R x z → IsIn z (y ∷ ys) → IsIn z ys
in_tail {R = R} o x y z ys e r i = elim i [
  | inl same ↦ absurd (o.never x (subst (R x) (same ∙ sym e) r))
  | inr j ↦ j
]

-- two rising lists with the same items are one
pub one_list : {A : Type 0} {R : A → A → Type 0} (o : IsOrder R) (xs ys : List A) → Rises R xs → Rises R ys → ((x : A) → IsIn x xs → IsIn x ys) → ((x : A) → IsIn x ys → IsIn x xs) → xs ≡ ys
one_list o [] [] rx ry to back = refl
one_list o [] (y ∷ ys) rx ry to back = absurd (back y (inl refl))
one_list o (x ∷ xs) [] rx ry to back = absurd (to x (inl refl))
one_list {A} {R} o (x ∷ xs) (y ∷ ys) rx ry to back =
    let same : x ≡ y = same_head o x y xs ys rx ry (to x (inl refl)) (back y (inl refl)) in
    let rest : xs ≡ ys = one_list o xs ys rx.1 ry.1 (λ z i. in_tail o x y z ys same (rx.0 z i) (to z (inr i))) (λ z i. in_tail o y x z xs (sym same) (ry.0 z i) (back z (inr i))) in
    ap (λ h. h ∷ xs) same ∙ ap (λ t. y ∷ t) rest

-- two lists of all that P holds of are one
pub one_listing : {A : Type 0} {P : A → Type 0} {R : A → A → Type 0} (o : IsOrder R) (xs ys : List A) → IsListOf P R xs → IsListOf P R ys → xs ≡ ys
one_listing o xs ys lx ly = one_list o xs ys lx.rises ly.rises (λ x i. ly.has x (lx.holds x i)) (λ x i. lx.has x (ly.holds x i))
