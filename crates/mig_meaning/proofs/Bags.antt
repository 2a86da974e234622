-- Equal bags have equal sums, and stay equal under a map.
use Rattle.std.proofs.Common.{◌≡◌, ℕ, ◌+◌, ◌<◌, Bool, true, false, cond, List, [], ◌∷◌, ◌++◌, map, refl, sym, ap, ap₂, subst, ◌∙◌, arith, inl, inr, ◌⊎◌}
use Rattle.std.specs.Prelude.{◌==◌, ◌↔◌, IsTrue, count_by}
use Rattle.std.specs.List.{list_all}
use Rattle.std.proofs.lemmas.List.Recursion.{is_count_by}
use Rattle.std.proofs.lemmas.Bool.{cases_Bool, and_parts, and_from, eqb-true, eq-eqb}
use Rattle.std.proofs.lemmas.Bool.Decides.{Decides-int_eq}
use Rattle.std.proofs.lemmas.Slice.Eq.{bytes_eq-Decides}
use Rattle.mig_schema.specs.declared.values.Value.{Value}
use Rattle.mig_schema.specs.declared.values.Value.TheVariants as value
use Rattle.mig_meaning.specs.declared.states.Row.{Row}
use Rattle.mig_meaning.specs.Lists.{total, bit}
use Rattle.mig_meaning.specs.Values.{value_eq}
use Rattle.mig_meaning.specs.Bags.{row_eq, times, SameBag}
use Rattle.mig_meaning.specs.Told.{rows_told}

pub value_eq-true : (a b : Value) → value_eq a b ≡ true → a ≡ b
value_eq-true (value.Int i) (value.Int j) h = ap value.Int ((Decides-int_eq i j).0 h)
value_eq-true (value.Text s) (value.Text t) h = ap value.Text ((bytes_eq-Decides s t).0 h)
value_eq-true (value.Key k) (value.Key l) h = ap value.Key (eqb-true k l h)
value_eq-true _ _ h = cc

pub value_eq-refl : (a : Value) → value_eq a a ≡ true
value_eq-refl (value.Int i) = (Decides-int_eq i i).1 refl
value_eq-refl (value.Text s) = (bytes_eq-Decides s s).1 refl
value_eq-refl (value.Key k) = eq-eqb k k refl

pub row_eq-true : (a b : List Value) → row_eq a b ≡ true → a ≡ b
row_eq-true [] [] h = refl
row_eq-true (x ∷ xs) (y ∷ ys) h = let k = and_parts (value_eq x y) (row_eq xs ys) h in ap₂ (λ a b. a ∷ b) (value_eq-true x y k.0) (row_eq-true xs ys k.1)
row_eq-true _ _ h = cc

pub row_eq-refl : (a : List Value) → row_eq a a ≡ true
row_eq-refl [] = refl
row_eq-refl (x ∷ xs) = and_from (value_eq x x) (row_eq xs xs) (value_eq-refl x) (row_eq-refl xs)

pub total-append : {X : Type 0} (f : X → ℕ) (xs ys : List X) → total f (xs ++ ys) ≡ total f xs + total f ys
total-append f [] ys = omega arith
total-append f (x ∷ xs) ys = omega (arith, total-append f xs ys)

pub total-map : {X Y : Type 0} (f : Y → ℕ) (h : X → Y) (xs : List X) → total f (map h xs) ≡ total (λ x. f (h x)) xs
total-map f h [] = refl
total-map f h (x ∷ xs) = ap (λ n. f (h x) + n) (total-map f h xs)

found : (r : List Value) (ys : List (List Value)) → 0 < times r ys → (us : List (List Value)) × (vs : List (List Value)) × (ys ≡ us ++ (r ∷ vs))
found r [] h = absurd (omega arith)
found r (y ∷ ys) h = go (found r ys) (cases_Bool (row_eq r y))
  where
    go : (0 < times r ys → (us : List (List Value)) × (vs : List (List Value)) × (ys ≡ us ++ (r ∷ vs))) → (row_eq r y ≡ true) ⊎ (row_eq r y ≡ false) → (us : List (List Value)) × (vs : List (List Value)) × (y ∷ ys ≡ us ++ (r ∷ vs))
    go ih (inl t) = ([], ys, ap (λ z. z ∷ ys) (sym (row_eq-true r y t)))
    go ih (inr n) = let k = ih (omega (arith, ap bit n)) in (y ∷ k.0, k.1, ap (λ l. y ∷ l) k.2)

-- equal bags have equal sums of any weights
pub same-total : (w : List Value → ℕ) (xs ys : List (List Value)) → SameBag xs ys → total w xs ≡ total w ys
same-total w [] [] s = refl
same-total w [] (y ∷ ys) s = absurd (omega (arith, s.by y, ap bit (row_eq-refl y)))
same-total w (x ∷ xs) ys s =
    let some : 0 < times x ys = omega (arith, s.by x, ap bit (row_eq-refl x)) in
    let k = found x ys some in
    let rest : (r : List Value) → times r xs ≡ times r (k.0 ++ k.1) = λ r.
    let moved = ap (times r) k.2 ∙ total-append (λ q. bit (row_eq r q)) k.0 (x ∷ k.1) in
    omega (arith, s.by r, moved, total-append (λ q. bit (row_eq r q)) k.0 k.1) in
    let ih = same-total w xs (k.0 ++ k.1) (record { by = rest }) in
    omega (arith, ih, ap (total w) k.2, total-append w k.0 (x ∷ k.1), total-append w k.0 k.1)

pub same-map : (h : List Value → List Value) (xs ys : List (List Value)) → SameBag xs ys → SameBag (map h xs) (map h ys)
same-map h xs ys s = record {
  by = λ r. total-map (λ q. bit (row_eq r q)) h xs ∙ same-total (λ q. bit (row_eq r (h q))) xs ys s ∙ sym (total-map (λ q. bit (row_eq r q)) h ys);
}

-- ---- the tests of the code

as-test : (b e : Bool) (P : Type 0) → (IsTrue b ↔ P) → (e ≡ true → P) → (P → e ≡ true) → b ≡ e
as-test true true P h f g = refl
as-test true false P h f g = sym (g (h.0 refl))
as-test false true P h f g = h.1 (f refl)
as-test false false P h f g = refl

pub value-test : (b : Bool) (x y : Value) → (IsTrue b ↔ (x ≡ y)) → b ≡ value_eq x y
value-test b x y h = as-test b (value_eq x y) (x ≡ y) h (value_eq-true x y) (λ e. ap (value_eq x) (sym e) ∙ value_eq-refl x)

pub row-test : (b : Bool) (x y : Row) → (IsTrue b ↔ (x ≡ y)) → b ≡ row_eq x.values y.values
row-test b x y h = as-test b (row_eq x.values y.values) (x ≡ y) h (λ e. ap (λ vs. record { values = vs }) (row_eq-true x.values y.values e)) (λ e. ap (λ (r : Row). row_eq x.values r.values) (sym e) ∙ row_eq-refl x.values)

-- how often a row stands in an answer, as a count
pub times-count : (r : Row) (rows : List Row) → count_by (λ (q : Row). row_eq r.values q.values) rows ≡ times r.values (rows_told rows)
times-count r rows = sym (is_count_by (λ (qs : List Row). times r.values (rows_told qs)) (λ (q : Row). row_eq r.values q.values) refl (λ q qs. step (row_eq r.values q.values) (times r.values (rows_told qs))) rows)
  where
    step : (b : Bool) (n : ℕ) → bit b + n ≡ cond b (1 + n) n
    step true n = refl
    step false n = omega arith

-- a row that stands in neither of two lists, or equally often in both
module _ (ls rs : List (List Value)) where
  apart : (r : List Value) (cs : List Row) → list_all (λ (c : Row). times c.values ls == times c.values rs) cs ≡ true → (times r (rows_told cs) ≡ 0) ⊎ (times r ls ≡ times r rs)
  apart r [] h = inl refl
  apart r (c ∷ cs) h =
      let k = and_parts (times c.values ls == times c.values rs) (list_all (λ (c : Row). times c.values ls == times c.values rs) cs) h in
      go (cases_Bool (row_eq r c.values)) (eqb-true (times c.values ls) (times c.values rs) k.0) (apart r cs k.1)
    where
      go : (row_eq r c.values ≡ true) ⊎ (row_eq r c.values ≡ false) → times c.values ls ≡ times c.values rs → (times r (rows_told cs) ≡ 0) ⊎ (times r ls ≡ times r rs) → (times r (rows_told (c ∷ cs)) ≡ 0) ⊎ (times r ls ≡ times r rs)
      go (inl e) t o = inr (let q = row_eq-true r c.values e in ap (λ x. times x ls) q ∙ t ∙ sym (ap (λ x. times x rs) q))
      go (inr e) t (inl o) = inl (omega (arith, ap bit e, o))
      go (inr e) t (inr o) = inr o

-- equal bags, tested at the rows of both
pub tested-bags : (ls rs : List Row) → list_all (λ (c : Row). times c.values (rows_told ls) == times c.values (rows_told rs)) ls ≡ true → list_all (λ (c : Row). times c.values (rows_told ls) == times c.values (rows_told rs)) rs ≡ true → SameBag (rows_told ls) (rows_told rs)
tested-bags ls rs h k = record { by = λ r. go r (apart (rows_told ls) (rows_told rs) r ls h) (apart (rows_told ls) (rows_told rs) r rs k) }
  where
    go : (r : List Value) → (times r (rows_told ls) ≡ 0) ⊎ (times r (rows_told ls) ≡ times r (rows_told rs)) → (times r (rows_told rs) ≡ 0) ⊎ (times r (rows_told ls) ≡ times r (rows_told rs)) → times r (rows_told ls) ≡ times r (rows_told rs)
    go r (inl a) (inl b) = a ∙ sym b
    go r (inl a) (inr b) = b
    go r (inr a) b = a

pub bags-tested : (ls rs cs : List Row) → SameBag (rows_told ls) (rows_told rs) → list_all (λ (c : Row). times c.values (rows_told ls) == times c.values (rows_told rs)) cs ≡ true
bags-tested ls rs [] s = refl
bags-tested ls rs (c ∷ cs) s = and_from (times c.values (rows_told ls) == times c.values (rows_told rs)) _ (eq-eqb (times c.values (rows_told ls)) (times c.values (rows_told rs)) (s.by c.values)) (bags-tested ls rs cs s)

-- what the two tests say of the bags
pub both-tested : (ls rs l r : List Row) → l ≡ ls → r ≡ rs → (a b : Bool) → a ≡ list_all (λ (c : Row). times c.values (rows_told l) == times c.values (rows_told r)) l → a ≡ true → b ≡ list_all (λ (c : Row). times c.values (rows_told l) == times c.values (rows_told r)) r → IsTrue b ↔ SameBag (rows_told ls) (rows_told rs)
both-tested ls rs l r e f a b ha t hb =
    subst (λ x. IsTrue b ↔ SameBag (rows_told x) (rows_told rs)) e (subst (λ y. IsTrue b ↔ SameBag (rows_told l) (rows_told y)) f
    (λ h. tested-bags l r (sym ha ∙ t) (sym hb ∙ h), λ s. hb ∙ bags-tested l r r s))

pub first-tested : (ls rs l r : List Row) → l ≡ ls → r ≡ rs → (a : Bool) → a ≡ list_all (λ (c : Row). times c.values (rows_told l) == times c.values (rows_told r)) l → a ≡ false → IsTrue a ↔ SameBag (rows_told ls) (rows_told rs)
first-tested ls rs l r e f a ha t =
    subst (λ x. IsTrue a ↔ SameBag (rows_told x) (rows_told rs)) e (subst (λ y. IsTrue a ↔ SameBag (rows_told l) (rows_told y)) f
    (λ h. absurd (differ a h t), λ s. ha ∙ bags-tested l r l s))
  where
    differ : (b : Bool) → b ≡ true → b ≡ false → ⊥
    differ true h t = cc
    differ false h t = cc
