-- Slots in another order: the same slots, each number once.
use Rattle.std.proofs.Common.{◌≡◌, ◌≢◌, ℕ, suc, Bool, true, false, cond, ◌||◌, List, [], ◌∷◌, ◌++◌, length, refl, sym, ap, ◌∙◌, subst, Ordering}
use Rattle.std.specs.Prelude.{◌==◌}
use Rattle.std.specs.Ordering.{is_gt}
use Rattle.mig_meaning.specs.Lists.{has, Each}
use Rattle.mig_algebra.specs.declared.atoms.Var.{Var}
use Rattle.mig_algebra.specs.Sorted.{put_in, sorted}
use Rattle.mig_algebra.specs.Tidied.{Slot, slots, numbers_of}
use Rattle.mig_algebra.proofs.Lists.{each-middle, each-drop_middle}
use Rattle.mig_algebra.proofs.Slots.{Apart, count-slots}

-- qs has the slots ps, in any order
abbrev pub Reorders : List Slot → List Slot → Type 0
Reorders [] qs = qs ≡ []
Reorders (p ∷ ps) qs = (us : List Slot) × (vs : List Slot) × (qs ≡ us ++ (p ∷ vs)) × Reorders ps (us ++ vs)

-- slots in order are such
pub reorders-sorted : (order : Slot → Slot → Ordering) (ps : List Slot) → Reorders ps (sorted order ps)
reorders-sorted order [] = refl
reorders-sorted order (p ∷ ps) =
    let k = put (sorted order ps) in (k.0, k.1, k.2, subst (Reorders ps) (sym k.3) (reorders-sorted order ps))
  where
    put : (qs : List Slot) → (us : List Slot) × (vs : List Slot) × (put_in order p qs ≡ us ++ (p ∷ vs)) × (us ++ vs ≡ qs)
    put [] = ([], [], refl, refl)
    put (q ∷ qs) = go (is_gt (order p q)) (put qs)
      where
        go : (t : Bool) → (us : List Slot) × (vs : List Slot) × (put_in order p qs ≡ us ++ (p ∷ vs)) × (us ++ vs ≡ qs) → (us : List Slot) × (vs : List Slot) × (cond t (q ∷ put_in order p qs) (p ∷ (q ∷ qs)) ≡ us ++ (p ∷ vs)) × (us ++ vs ≡ q ∷ qs)
        go true k = (q ∷ k.0, k.1, ap (λ l. q ∷ l) k.2, ap (λ l. q ∷ l) k.3)
        go false k = ([], q ∷ qs, refl, refl)

-- ---- each number once

-- a slot's number differs from those before it and behind it
pub apart-both : (us : List Slot) (p : Slot) (vs : List Slot) → Apart (us ++ (p ∷ vs)) → Each (λ (q : Slot). q.number ≢ p.number) (us ++ vs)
apart-both [] p vs h = h.0
apart-both (u ∷ us) p vs h = (λ e. each-middle (λ (q : Slot). q.number ≢ u.number) us p vs h.0 (sym e), apart-both us p vs h.1)

-- a slot goes
pub apart-drop : (us : List Slot) (p : Slot) (vs : List Slot) → Apart (us ++ (p ∷ vs)) → Apart (us ++ vs)
apart-drop [] p vs h = h.1
apart-drop (u ∷ us) p vs h = (each-drop_middle (λ (q : Slot). q.number ≢ u.number) us p vs h.0, apart-drop us p vs h.1)

each-put : {X : Type 0} (P : X → Type 0) (xs : List X) (y : X) (ys : List X) → P y → Each P (xs ++ ys) → Each P (xs ++ (y ∷ ys))
each-put P [] y ys p h = (p, h)
each-put P (x ∷ xs) y ys p h = (h.0, each-put P xs y ys p h.1)

apart-put : (us : List Slot) (p : Slot) (vs : List Slot) → Each (λ (q : Slot). q.number ≢ p.number) (us ++ vs) → Apart (us ++ vs) → Apart (us ++ (p ∷ vs))
apart-put [] p vs d h = (d, h)
apart-put (u ∷ us) p vs d h = (each-put (λ (q : Slot). q.number ≢ u.number) us p vs (λ e. d.0 (sym e)) h.0, apart-put us p vs d.1 h.1)

-- what holds of each slot
pub each-reordered : (P : Slot → Type 0) (ps qs : List Slot) → Reorders ps qs → Each P ps → Each P qs
each-reordered P [] qs r h = subst (Each P) (sym r) tt
each-reordered P (p ∷ ps) qs r h = subst (Each P) (sym r.2) (each-put P r.0 p r.1 h.0 (each-reordered P ps (r.0 ++ r.1) r.3 h.1))

-- each number stands once
pub apart-reordered : (ps qs : List Slot) → Reorders ps qs → Apart ps → Apart qs
apart-reordered [] qs r h = subst Apart (sym r) tt
apart-reordered (p ∷ ps) qs r h =
    subst Apart (sym r.2) (apart-put r.0 p r.1 (each-reordered (λ (q : Slot). q.number ≢ p.number) ps (r.0 ++ r.1) r.3 h.0) (apart-reordered ps (r.0 ++ r.1) r.3 h.1))

-- the numbers are the numbers
pub has-reordered : (ps qs : List Slot) → Reorders ps qs → (v : ℕ) → has (numbers_of qs) v ≡ has (numbers_of ps) v
has-reordered [] qs r v = ap (λ l. has (numbers_of l) v) r
has-reordered (p ∷ ps) qs r v =
    ap (λ l. has (numbers_of l) v) r.2 ∙ middle r.0 r.1 ∙ ap (λ b. (p.number == v) || b) (has-reordered ps (r.0 ++ r.1) r.3 v)
  where
    first : (a b c : Bool) → (a || (b || c)) ≡ (b || (a || c))
    first true true c = refl
    first true false c = refl
    first false b c = refl

    middle : (us vs : List Slot) → has (numbers_of (us ++ (p ∷ vs))) v ≡ ((p.number == v) || has (numbers_of (us ++ vs)) v)
    middle [] vs = refl
    middle (u ∷ us) vs = ap (λ b. (u.number == v) || b) (middle us vs) ∙ first (u.number == v) (p.number == v) (has (numbers_of (us ++ vs)) v)

-- as many numbers
pub count-reordered : (ps qs : List Slot) → Reorders ps qs → length (numbers_of qs) ≡ length (numbers_of ps)
count-reordered [] qs r = ap (λ l. length (numbers_of l)) r
count-reordered (p ∷ ps) qs r = ap (λ l. length (numbers_of l)) r.2 ∙ middle r.0 r.1 ∙ ap suc (count-reordered ps (r.0 ++ r.1) r.3)
  where
    middle : (us vs : List Slot) → length (numbers_of (us ++ (p ∷ vs))) ≡ suc (length (numbers_of (us ++ vs)))
    middle [] vs = refl
    middle (u ∷ us) vs = ap suc (middle us vs)

-- ---- in order

module _ (order : Slot → Slot → Ordering) where
  -- the numbers in order are the numbers
  pub has-sorted : (ps : List Slot) (v : ℕ) → has (numbers_of (sorted order ps)) v ≡ has (numbers_of ps) v
  has-sorted ps v = has-reordered ps (sorted order ps) (reorders-sorted order ps) v

  -- as many numbers in order as variables
  pub count-sorted : (n : ℕ) (vars : List Var) → length (numbers_of (sorted order (slots n vars))) ≡ length vars
  count-sorted n vars = count-reordered (slots n vars) (sorted order (slots n vars)) (reorders-sorted order (slots n vars)) ∙ count-slots n vars
