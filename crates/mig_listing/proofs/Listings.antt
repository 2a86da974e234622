-- How the list of all that P holds of is made from lists of its parts.
use Rattle.std.proofs.Common.{◌≡◌, ◌⊎◌, Bool, true, List, [], ◌∷◌, ◌++◌, map, sym, subst, inl, inr}
use Rattle.std.specs.Prelude.{filter}
use Rattle.std.specs.List.{flat_map}
use Rattle.mig_listing.specs.Listing.{IsIn, IsListOf}
use Rattle.mig_listing.proofs.Members.{in_append, in_append_left, in_append_right, in_flat_map, from_flat_map, in_map, from_map, in_filter, from_filter}
use Rattle.mig_listing.proofs.Rising.{rises_append, rises_flat_map, rises_map, rises_filter}

-- the same things, said otherwise
pub listed_as : {A : Type 0} {P Q : A → Type 0} {R : A → A → Type 0} (xs : List A) → IsListOf P R xs → ((x : A) → P x → Q x) → ((x : A) → Q x → P x) → IsListOf Q R xs
listed_as xs l to back = record { rises = l.rises; holds = λ x i. to x (l.holds x i); has = λ x q. l.has x (back x q) }

-- nothing
pub listed_none : {A : Type 0} {R : A → A → Type 0} → IsListOf (λ (x : A). ⊥) R []
listed_none = record { rises = tt; holds = λ x i. i; has = λ x h. h }

-- one thing
pub listed_one : {A : Type 0} {R : A → A → Type 0} (a : A) → IsListOf (λ x. x ≡ a) R (a ∷ [])
listed_one a = record { rises = ((λ y i. absurd i), tt); holds = λ x i. elim i [ inl e ↦ e | inr j ↦ absurd j ]; has = λ x e. inl e }

-- what P or Q holds of, all of P before all of Q
pub listed_append : {A : Type 0} {P Q : A → Type 0} {R : A → A → Type 0} (xs ys : List A) → IsListOf P R xs → IsListOf Q R ys → ((x y : A) → P x → Q y → R x y) → IsListOf (λ x. P x ⊎ Q x) R (xs ++ ys)
listed_append xs ys lx ly across = record {
  rises = rises_append xs ys lx.rises ly.rises (λ x y i j. across x y (lx.holds x i) (ly.holds y j));
  holds = λ x i. elim (in_append xs ys x i) [ inl j ↦ inl (lx.holds x j) | inr j ↦ inr (ly.holds x j) ];
  has = λ x h. elim h [ inl p ↦ in_append_left xs ys x (lx.has x p) | inr q ↦ in_append_right xs ys x (ly.has x q) ];
}

-- what Q holds of for some x that P holds of, where all for an earlier x stand before all for a later one
pub listed_flat_map : {A B : Type 0} {P : A → Type 0} {R : A → A → Type 0} {Q : A → B → Type 0} {S : B → B → Type 0} (f : A → List B) (xs : List A) → IsListOf P R xs → ((x : A) → P x → IsListOf (Q x) S (f x)) → ((a b : A) (u v : B) → P a → P b → R a b → Q a u → Q b v → S u v) → IsListOf (λ y. (x : A) × P x × Q x y) S (flat_map f xs)
listed_flat_map f xs l each across = record {
  rises = rises_flat_map f xs l.rises (λ x i. (each x (l.holds x i)).rises) (λ a b u v i j r p q. across a b u v (l.holds a i) (l.holds b j) r ((each a (l.holds a i)).holds u p) ((each b (l.holds b j)).holds v q));
  holds = λ y i. let there = in_flat_map f xs y i in (there.0, l.holds there.0 there.1, (each there.0 (l.holds there.0 there.1)).holds y there.2);
  has = λ y h. from_flat_map f xs h.0 y (l.has h.0 h.1) ((each h.0 h.1).has y h.2);
}

-- what f gives, where f keeps the order
pub listed_map : {A B : Type 0} {P : A → Type 0} {R : A → A → Type 0} {S : B → B → Type 0} (f : A → B) (xs : List A) → IsListOf P R xs → ((a b : A) → R a b → S (f a) (f b)) → IsListOf (λ y. (x : A) × P x × (y ≡ f x)) S (map f xs)
listed_map {R = R} {S = S} f xs l h = record {
  rises = rises_map R S f xs l.rises h;
  holds = λ y i. let there = in_map f xs y i in (there.0, l.holds there.0 there.1, there.2);
  has = λ y p. subst (λ z. IsIn z (map f xs)) (sym p.2) (from_map f xs p.0 (l.has p.0 p.1));
}

-- what P holds of and what passes a test
pub listed_filter : {A : Type 0} {P : A → Type 0} {R : A → A → Type 0} (p : A → Bool) (xs : List A) → IsListOf P R xs → IsListOf (λ x. P x × (p x ≡ true)) R (filter p xs)
listed_filter {R = R} p xs l = record {
  rises = rises_filter R p xs l.rises;
  holds = λ x i. let there = in_filter p xs x i in (l.holds x there.0, there.1);
  has = λ x h. from_filter p xs x (l.has x h.0) h.1;
}
