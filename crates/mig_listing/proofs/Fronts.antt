-- The list of all that P holds of grows by its next item, from nothing to the whole.
use Rattle.std.proofs.Common.{◌≡◌, ◌⊎◌, List, [], ◌∷◌, ◌++◌, refl, ap, sym, ◌∙◌, subst, inl, inr}
use Rattle.mig_listing.specs.Fronts.{IsFront, IsNext}
use Rattle.mig_listing.specs.Listing.{IsIn, Rises, IsListOf}
use Rattle.mig_listing.specs.Orders.{IsOrder, IsTotalOn}
use Rattle.mig_listing.proofs.Members.{in_append, in_append_left, in_append_right}
use Rattle.mig_listing.proofs.Rising.{rises_append, rises_total}
use Rattle.mig_listing.proofs.Unique.{in_tail}

-- nothing is a front
pub front_none : {A : Type 0} {P : A → Type 0} {R : A → A → Type 0} → IsFront P R []
front_none = record { rises = tt; holds = λ x i. absurd i; first = λ o p. inr (λ x i. absurd i) }

-- a front with the next item behind it is a front
pub front_more : {A : Type 0} {P : A → Type 0} {R : A → A → Type 0} → IsOrder R → IsTotalOn P R → (xs : List A) (m : A) → IsFront P R xs → IsNext P R xs m → IsFront P R (xs ++ m ∷ [])
front_more {P = P} {R = R} o total xs m f n = record {
  rises = rises_append xs (m ∷ []) f.rises ((λ y i. absurd i), tt) (λ x y i j. elim (f.first m n.holds) [
    | inl there ↦ absurd (n.new there)
    | inr before ↦ elim j [ inl e ↦ subst (R x) (sym e) (before x i) | inr k ↦ absurd k ]
  ]);
  holds = λ x i. elim (in_append xs (m ∷ []) x i) [
    | inl j ↦ f.holds x j
    | inr j ↦ elim j [ inl e ↦ subst P (sym e) n.holds | inr k ↦ absurd k ]
  ];
  first = λ a p. elim (f.first a p) [
    | inl i ↦ inl (in_append_left xs (m ∷ []) a i)
    | inr before ↦ elim (total a m p n.holds) [
      | inl e ↦ inl (in_append_right xs (m ∷ []) a (inl e))
      | inr order ↦ elim order [
        | inl earlier ↦ absurd (n.least a p (λ i. o.never a (before a i)) earlier)
        | inr later ↦ inr (λ x i. elim (in_append xs (m ∷ []) x i) [
          | inl j ↦ before x j
          | inr j ↦ elim j [ inl e ↦ subst (λ b. R b a) (sym e) later | inr k ↦ absurd k ]
        ])
      ]
    ]
  ];
}

-- a front that leaves nothing out is the whole list
pub front_whole : {A : Type 0} {P : A → Type 0} {R : A → A → Type 0} (xs : List A) → IsFront P R xs → ((o : A) → P o → (IsIn o xs → ⊥) → ⊥) → IsOrder R → IsListOf P R xs
front_whole xs f none o = record {
  rises = f.rises;
  holds = f.holds;
  has = λ a p. elim (f.first a p) [ inl i ↦ i | inr before ↦ absurd (none a p (λ i. o.never a (before a i))) ];
}

-- the whole begins with a rising list of its items which all others follow
pub front_begins : {A : Type 0} {R : A → A → Type 0} → IsOrder R → (xs all : List A) → Rises R xs → Rises R all → ((x : A) → IsIn x xs → IsIn x all) → ((a : A) → IsIn a all → IsIn a xs ⊎ ((x : A) → IsIn x xs → R x a)) → (rest : List A) × (all ≡ xs ++ rest)
front_begins o [] all rx ra to back = (all, refl)
front_begins o (x ∷ xs) [] rx ra to back = absurd (to x (inl refl))
front_begins {A} {R} o (x ∷ xs) (a ∷ all) rx ra to back =
    let same : x ≡ a = elim (to x (inl refl)) [
      | inl e ↦ e
      | inr i ↦ elim (back a (inl refl)) [
        | inl j ↦ elim j [ inl e ↦ sym e | inr k ↦ absurd (o.never x (o.on x a x (rx.0 a k) (ra.0 x i))) ]
        | inr before ↦ absurd (o.never x (o.on x a x (before x (inl refl)) (ra.0 x i)))
      ]
    ] in
    let more = front_begins o xs all rx.1 ra.1 (λ z i. in_tail o x a z all same (rx.0 z i) (to z (inr i))) (λ z i. elim (back z (inr i)) [
      | inl j ↦ inl (in_tail o a x z xs (sym same) (ra.0 z i) j)
      | inr before ↦ inr (λ y k. before y (inr k))
    ]) in
    (more.0, ap (λ h. h ∷ all) (sym same) ∙ ap (λ t. x ∷ t) more.1)

-- the whole begins with each front
pub front_is_first : {A : Type 0} {P : A → Type 0} {R : A → A → Type 0} → IsOrder R → (xs all : List A) → IsFront P R xs → IsListOf P R all → (rest : List A) × (all ≡ xs ++ rest)
front_is_first o xs all f l = front_begins o xs all f.rises l.rises (λ x i. l.has x (f.holds x i)) (λ a i. f.first a (l.holds a i))

-- the whole begins with a front and the next item behind it
pub next_is_next : {A : Type 0} {P : A → Type 0} {R : A → A → Type 0} → IsOrder R → (xs all : List A) (m : A) → IsFront P R xs → IsNext P R xs m → IsListOf P R all → (rest : List A) × (all ≡ (xs ++ m ∷ []) ++ rest)
next_is_next {R = R} o xs all m f n l = front_is_first o (xs ++ m ∷ []) all (front_more o (λ a b p q. rises_total R all a b l.rises (l.has a p) (l.has b q)) xs m f n) l
