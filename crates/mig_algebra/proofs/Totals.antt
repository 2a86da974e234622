-- Orders by a code: what is spelled as a list of integers stands as these lists do.
use Rattle.std.proofs.Common.{◌≡◌, ℕ, ℤ, List, [], ◌∷◌, pos, refl, sym, ap, ◌∙◌, arith}
use Rattle.std.proofs.lemmas.Bool.Decides.{nat_tests}
use Rattle.std.specs.Cmp.{IsTotalOrder}
use Rattle.std.specs.Cmp.Lexicographic.{slice_cmp}
use Rattle.std.specs.declared.cmp.Ordering.{Ordering}
use Rattle.std.specs.declared.cmp.Ordering.TheVariants.{Less, Equal, Greater}
use Rattle.std.specs.Ordering.{nat_cmp, int_cmp, ordering_then, ordering_reverse, on}
use Rattle.std.proofs.lemmas.Cmp.{int_cmp_total, on_total, lists_total}

-- an order that is another one at each two items
pub total-same : {A : Type 0} (R S : A → A → Ordering) → ((x y : A) → R x y ≡ S x y) → IsTotalOrder S → IsTotalOrder R
total-same R S h t = record {
  antisymm = λ x y. h x y ∙ t.antisymm x y ∙ ap ordering_reverse (sym (h y x));
  trans = λ x y z p q. h x z ∙ t.trans x y z (sym (h x y) ∙ p) (sym (h y z) ∙ q);
  congr = λ x y z p. h x z ∙ t.congr x y z (sym (h x y) ∙ p) ∙ sym (h y z);
}

-- first of three
pub then-assoc : (a b c : Ordering) → ordering_then (ordering_then a b) c ≡ ordering_then a (ordering_then b c)
then-assoc Less b c = refl
then-assoc Equal b c = refl
then-assoc Greater b c = refl

-- nothing comes behind
pub then-equal : (a : Ordering) → ordering_then a Equal ≡ a
then-equal Less = refl
then-equal Equal = refl
then-equal Greater = refl

-- the order of lists of integers
abbrev pub code_order : List ℤ → List ℤ → Ordering
code_order = slice_cmp int_cmp

-- the order of natural numbers is that of the integers
pub int_cmp-pos : (m n : ℕ) → int_cmp (pos m) (pos n) ≡ nat_cmp m n
int_cmp-pos m n = grind (arith, nat_tests)

-- a code of A in front of a list, by which an order goes
pub record Spells {A : Type 0} (R : A → A → Ordering) (code : A → List ℤ → List ℤ) : Type 0 where
  pub by : (x y : A) (u v : List ℤ) → code_order (code x u) (code y v) ≡ ordering_then (R x y) (code_order u v)

-- an order that has a code is total
pub total-spelled : {A : Type 0} (R : A → A → Ordering) (code : A → List ℤ → List ℤ) → Spells R code → IsTotalOrder R
total-spelled R code s =
    total-same R (on (λ x. code x []) code_order) (λ x y. sym (s.by x y [] [] ∙ then-equal (R x y))) (on_total (λ x. code x []) (lists_total int_cmp_total))

-- a list of items: each behind a 1, and a 0 at the end
abbrev pub list_code : {A : Type 0} → (A → List ℤ → List ℤ) → List A → List ℤ → List ℤ
list_code code [] u = pos 0 ∷ u
list_code code (x ∷ xs) u = pos 1 ∷ code x (list_code code xs u)

-- the order of lists has a code where that of the items has one
pub list-spelled : {A : Type 0} (R : A → A → Ordering) (code : A → List ℤ → List ℤ) → Spells R code → (xs ys : List A) (u v : List ℤ) → code_order (list_code code xs u) (list_code code ys v) ≡ ordering_then (slice_cmp R xs ys) (code_order u v)
list-spelled R code s [] [] u v = refl
list-spelled R code s [] (y ∷ ys) u v = refl
list-spelled R code s (x ∷ xs) [] u v = refl
list-spelled R code s (x ∷ xs) (y ∷ ys) u v =
    s.by x y (list_code code xs u) (list_code code ys v)
    ∙ ap (ordering_then (R x y)) (list-spelled R code s xs ys u v)
    ∙ sym (then-assoc (R x y) (slice_cmp R xs ys) (code_order u v))

-- a natural number as a code
abbrev pub nat_code : ℕ → List ℤ → List ℤ
nat_code n u = pos n ∷ u

-- it is one
pub nat-spelled : (m n : ℕ) (u v : List ℤ) → code_order (nat_code m u) (nat_code n v) ≡ ordering_then (nat_cmp m n) (code_order u v)
nat-spelled m n u v = ap (λ o. ordering_then o (code_order u v)) (int_cmp-pos m n)
