-- A list in order without what ties with the item before it is the list in order in which equal items stand once.
use Rattle.std.proofs.Common.{◌≡◌, Bool, true, false, cond, List, [], ◌∷◌, refl, sym, ap, ◌∙◌, inl, inr, ◌⊎◌}
use Rattle.std.proofs.lemmas.Bool.{cases_Bool}
use Rattle.std.specs.Cmp.{IsTotalOrder}
use Rattle.std.specs.List.{dedup, dedup_from}
use Rattle.std.specs.declared.cmp.Ordering.{Ordering}
use Rattle.std.specs.declared.cmp.Ordering.TheVariants.{Less, Equal, Greater}
use Rattle.std.specs.Ordering.{is_eq, ordering_reverse}
use Rattle.mig_algebra.specs.Sorted.{put_in, sorted, put_once, sorted_once}
use Rattle.mig_algebra.proofs.SortedLaws.{three_ways}

eq-true : (o : Ordering) → is_eq o ≡ true → o ≡ Equal
eq-true Less h = cc
eq-true Equal h = refl
eq-true Greater h = cc

module _ {A : Type 0} (R : A → A → Ordering) (o : IsTotalOrder R) (tie : (x y : A) → R x y ≡ Equal → x ≡ y) where
  -- whether an item ties with the one kept before it
  abbrev pub ties : A → A → Bool
  ties x kept = is_eq (R x kept)

  before-kept : (x z : A) (zs : List A) → R x z ≡ Less → put_once R x (dedup_from ties z zs) ≡ x ∷ dedup_from ties z zs
  before-kept x z [] h = rw h refl
  before-kept x z (w ∷ ws) h = go (ties w z) (before-kept x z ws h)
    where
      go : (b : Bool) → put_once R x (dedup_from ties z ws) ≡ x ∷ dedup_from ties z ws → put_once R x (cond b (dedup_from ties z ws) (z ∷ dedup_from ties w ws)) ≡ x ∷ cond b (dedup_from ties z ws) (z ∷ dedup_from ties w ws)
      go true ih = ih
      go false ih = rw h refl

  at-kept : (x z : A) (zs : List A) → R x z ≡ Equal → put_once R x (dedup_from ties z zs) ≡ dedup_from ties z zs
  at-kept x z [] h = rw h refl
  at-kept x z (w ∷ ws) h = go (ties w z) (at-kept x z ws h)
    where
      go : (b : Bool) → put_once R x (dedup_from ties z ws) ≡ dedup_from ties z ws → put_once R x (cond b (dedup_from ties z ws) (z ∷ dedup_from ties w ws)) ≡ cond b (dedup_from ties z ws) (z ∷ dedup_from ties w ws)
      go true ih = ih
      go false ih = rw h refl

  -- an item put before z, or on it
  fronted : (x z : A) (zs : List A) → (R x z ≡ Less) ⊎ (R x z ≡ Equal) → put_once R x (dedup_from ties z zs) ≡ dedup_from ties x (z ∷ zs)
  fronted x z zs (inl e) =
      let back : R z x ≡ Greater = o.antisymm z x ∙ ap ordering_reverse e in
      before-kept x z zs e ∙ rw back refl
  fronted x z zs (inr e) =
      let back : R z x ≡ Equal = o.antisymm z x ∙ ap ordering_reverse e in
      at-kept x z zs e ∙ ap (λ y. dedup_from ties y zs) (sym (tie x z e)) ∙ rw back refl

  after-kept : (k x : A) (ys : List A) → R x k ≡ Greater → put_once R x (dedup_from ties k ys) ≡ dedup_from ties k (put_in R x ys)
  after-kept k x [] h = rw h refl
  after-kept k x (z ∷ zs) h = go (cases_Bool (is_eq (R z k))) (three_ways (R x z)) (after-kept k x zs h) (after-kept z x zs)
    where
      go : (is_eq (R z k) ≡ true) ⊎ (is_eq (R z k) ≡ false) → (R x z ≡ Less) ⊎ ((R x z ≡ Equal) ⊎ (R x z ≡ Greater)) → put_once R x (dedup_from ties k zs) ≡ dedup_from ties k (put_in R x zs) → (R x z ≡ Greater → put_once R x (dedup_from ties z zs) ≡ dedup_from ties z (put_in R x zs)) → put_once R x (dedup_from ties k (z ∷ zs)) ≡ dedup_from ties k (put_in R x (z ∷ zs))
      go (inl same) way ih ih' =
          let over : R x z ≡ Greater = ap (R x) (tie z k (eq-true (R z k) same)) ∙ h in
          rw over (rw same ih)
      go (inr other) (inl e) ih ih' = rw other (rw e (rw h (ap (λ l. k ∷ l) (fronted x z zs (inl e)))))
      go (inr other) (inr (inl e)) ih ih' = rw other (rw e (rw h (ap (λ l. k ∷ l) (fronted x z zs (inr e)))))
      go (inr other) (inr (inr e)) ih ih' = rw other (rw e (rw other (rw h (ap (λ l. k ∷ l) (ih' e)))))

  put-deduped : (x : A) (ys : List A) → put_once R x (dedup ties ys) ≡ dedup ties (put_in R x ys)
  put-deduped x [] = refl
  put-deduped x (y ∷ ys) = go (three_ways (R x y))
    where
      go : (R x y ≡ Less) ⊎ ((R x y ≡ Equal) ⊎ (R x y ≡ Greater)) → put_once R x (dedup_from ties y ys) ≡ dedup ties (put_in R x (y ∷ ys))
      go (inl e) = fronted x y ys (inl e) ∙ rw e refl
      go (inr (inl e)) = fronted x y ys (inr e) ∙ rw e refl
      go (inr (inr e)) = after-kept y x ys e ∙ rw e refl

  -- the list in order, without what ties with the item before it
  pub deduped_is : (xs : List A) → dedup ties (sorted R xs) ≡ sorted_once R xs
  deduped_is [] = refl
  deduped_is (x ∷ xs) = sym (put-deduped x (sorted R xs)) ∙ ap (put_once R x) (deduped_is xs)
