-- The entries of an index under one number, in order.
use Rattle.std.proofs.Common.{◌≡◌, ◌≢◌, ◌⊎◌, inl, inr, ◌&&◌, ◌||◌, ℕ, zero, suc, Option, Some, None, subst, ◌+◌, ◌<◌, ◌≤◌, Bool, true, false, cond, List, [], ◌∷◌, ◌++◌, get_or, length, refl, sym, ap, ◌∙◌, arith}
use Rattle.std.specs.Prelude.{filter, ◌==◌}
use Rattle.std.specs.BTreeMap.{is_at}
use Rattle.std.specs.BTreeMap.Range.{range_contains}
use Rattle.std.specs.List.{list_any, AllByRecursion}
use Rattle.std.specs.List.Sorted.{IsStrictlySortedBy}
use Rattle.std.specs.declared.ops.Bound.TheVariants.{Included, Excluded}
use Rattle.std.specs.declared.cmp.Ordering.TheVariants.{Less}
use Rattle.std.proofs.lemmas.Grind.{common_steps}
use Rattle.std.proofs.lemmas.Bool.Decides.{nat_tests}
use Rattle.std.proofs.lemmas.Bool.{eq-eqb, ne_eqb}
use Rattle.std.proofs.lemmas.List.Kept.{IsStrictlySortedBy-filter}
use Rattle.mig_meaning.specs.Lists.{Each}
use Rattle.mig_storage.specs.declared.slots.Slot.{Slot}
use Rattle.mig_storage.specs.Slots.{no_slot}
use Rattle.mig_storage.specs.Index.{entry_cmp, is_code, ChangesAt}
use Rattle.mig_storage.proofs.IndexLemmas.{RisesFrom, has_place}

-- whether an entry stands under a number, with a place below n
abbrev pub within : (n code : ℕ) → ℕ × ℕ → Bool
within n code e = range_contains entry_cmp (Included (code, 0)) (Excluded (code, n)) e

pub within-code : (m code : ℕ) (e : ℕ × ℕ) → within m code e ≡ true → e.0 ≡ code
within-code m code e h = grind (arith, common_steps, nat_tests, h)

pub is_within : (m code p : ℕ) → p < m → within m code (code, p) ≡ true
is_within m code p h = grind (arith, common_steps, nat_tests, h)

pub one_entry : (code p : ℕ) (e : ℕ × ℕ) → is_at (entry_cmp (code, p)) e ≡ true → (e.0 ≡ code) × (e.1 ≡ p)
one_entry code p e h = (grind (arith, common_steps, nat_tests, h), grind (arith, common_steps, nat_tests, h))

pub later-place : (a b : ℕ × ℕ) → a.0 ≡ b.0 → entry_cmp a b ≡ Less → a.1 + 1 ≤ b.1
later-place a b e h = grind (arith, common_steps, nat_tests, e, h)

-- ---- a place is taken from one number to another
pair-is : (e : ℕ × ℕ) (a b : ℕ) → e.0 ≡ a → e.1 ≡ b → e ≡ (a, b)
pair-is e a b h k = ap (λ x. (x, e.1)) h ∙ ap (λ y. (a, y)) k

apart-or-same : (n m : ℕ) → (n ≡ m) ⊎ (n ≢ m)
apart-or-same zero zero = inl refl
apart-or-same zero (suc m) = inr (λ e. omega (arith, e))
apart-or-same (suc n) zero = inr (λ e. omega (arith, e))
apart-or-same (suc n) (suc m) = go (apart-or-same n m)
  where
    go : (n ≡ m) ⊎ (n ≢ m) → (suc n ≡ suc m) ⊎ (suc n ≢ suc m)
    go (inl e) = inl (ap suc e)
    go (inr f) = inr (λ e. f (omega (arith, e)))

entry-here : (a place code : ℕ) → is_at (entry_cmp (a, place)) (code, place) ≡ (a == code)
entry-here a place code = grind (arith, common_steps, nat_tests)

entry-apart : (a place code p : ℕ) → p ≢ place → is_at (entry_cmp (a, place)) (code, p) ≡ false
entry-apart a place code p h = grind (arith, common_steps, nat_tests, h)

-- what is there after an entry is taken out, and after one is put in
abbrev pub taken_out : Option ℕ → (place code p : ℕ) → Bool → Bool
taken_out None place code p b = b
taken_out (Some a) place code p b = cond (is_at (entry_cmp (a, place)) (code, p)) false b

abbrev pub put_in : Option ℕ → (place code p : ℕ) → Bool → Bool
put_in None place code p b = b
put_in (Some a) place code p b = cond (is_at (entry_cmp (a, place)) (code, p)) true b

itself : (b : Bool) → cond b true false ≡ b
itself true = refl
itself false = refl

nothing : (b : Bool) → cond b false b ≡ false
nothing true = refl
nothing false = refl

taken-here : (old : Option ℕ) (place code : ℕ) (b : Bool) → b ≡ is_code old code → taken_out old place code place b ≡ false
taken-here None place code b h = h
taken-here (Some a) place code b h = rw (entry-here a place code, h) (nothing (a == code))

put-here : (new : Option ℕ) (place code : ℕ) (b : Bool) → b ≡ false → put_in new place code place b ≡ is_code new code
put-here None place code b h = h
put-here (Some a) place code b h = rw (entry-here a place code, h) (itself (a == code))

taken-apart : (old : Option ℕ) (place code p : ℕ) (b : Bool) → p ≢ place → taken_out old place code p b ≡ b
taken-apart None place code p b h = refl
taken-apart (Some a) place code p b h = rw (entry-apart a place code p h) refl

put-apart : (new : Option ℕ) (place code p : ℕ) (b : Bool) → p ≢ place → put_in new place code p b ≡ b
put-apart None place code p b h = refl
put-apart (Some a) place code p b h = rw (entry-apart a place code p h) refl

pub noted : (place : ℕ) (old new : Option ℕ) (before after : ℕ → ℕ → Bool) → ((code : ℕ) → before code place ≡ is_code old code) → ((code p : ℕ) → after code p ≡ put_in new place code p (taken_out old place code p (before code p))) → (code p : ℕ) → after code p ≡ cond (p == place) (is_code new code) (before code p)
noted place old new before after held made code p = go (apart-or-same p place)
  where
    go : (p ≡ place) ⊎ (p ≢ place) → after code p ≡ cond (p == place) (is_code new code) (before code p)
    go (inl e) =
        let here : after code place ≡ is_code new code = made code place ∙ put-here new place code _ (taken-here old place code (before code place) (held code)) in
        rw (eq-eqb p place e) (ap (after code) e ∙ here)
    go (inr f) = rw (ne_eqb p place f) (made code p ∙ put-apart new place code p _ f ∙ taken-apart old place code p (before code p) f)

-- ---- entries under one number
pub rises-within : (code n : ℕ) (es : List (ℕ × ℕ)) → IsStrictlySortedBy entry_cmp es → Each (λ (e : ℕ × ℕ). e.0 ≡ code) es → Each (λ (e : ℕ × ℕ). n ≤ e.1) es → RisesFrom n es
unfolding IsStrictlySortedBy
rises-within code n [] s a b = tt
rises-within code n (e ∷ es) s a b = (b.0, rises-within code (e.1 + 1) es s.1 a.1 (above es s.0 a.1))
  where
    above : (ds : List (ℕ × ℕ)) → AllByRecursion (λ y. entry_cmp e y ≡ Less) ds → Each (λ (d : ℕ × ℕ). d.0 ≡ code) ds → Each (λ (d : ℕ × ℕ). e.1 + 1 ≤ d.1) ds
    above [] l k = tt
    above (d ∷ ds) l k = (later-place e d (a.0 ∙ sym k.0) l.0, above ds l.1 k.1)

all-within : (m code : ℕ) (es : List (ℕ × ℕ)) → Each (λ (e : ℕ × ℕ). e.0 ≡ code) (filter (within m code) es)
all-within m code [] = tt
all-within m code (e ∷ es) = go (within m code e) refl (all-within m code es)
  where
    go : (b : Bool) → within m code e ≡ b → Each (λ (d : ℕ × ℕ). d.0 ≡ code) (filter (within m code) es) → Each (λ (d : ℕ × ℕ). d.0 ≡ code) (cond b (e ∷ filter (within m code) es) (filter (within m code) es))
    go true h a = (within-code m code e h, a)
    go false h a = a

from-zero : (es : List (ℕ × ℕ)) → Each (λ (e : ℕ × ℕ). 0 ≤ e.1) es
from-zero [] = tt
from-zero (e ∷ es) = (omega arith, from-zero es)

pub rises-at : (m code : ℕ) (es : List (ℕ × ℕ)) → IsStrictlySortedBy entry_cmp es → RisesFrom 0 (filter (within m code) es)
rises-at m code es s = rises-within code 0 (filter (within m code) es) (IsStrictlySortedBy-filter entry_cmp (within m code) es s) (all-within m code es) (from-zero (filter (within m code) es))

pub found-at : (m code p : ℕ) (es : List (ℕ × ℕ)) → p < m → list_any (is_at (entry_cmp (code, p))) es ≡ true → has_place p (filter (within m code) es) ≡ true
found-at m code p [] l h = h
found-at m code p (e ∷ es) l h = go (is_at (entry_cmp (code, p)) e) refl h (λ k. found-at m code p es l k)
  where
    later : (b : Bool) → has_place p (filter (within m code) es) ≡ true → has_place p (cond b (e ∷ filter (within m code) es) (filter (within m code) es)) ≡ true
    later false k = k
    later true k = cond_both (e.1 == p) k
      where
        cond_both : (b : Bool) → has_place p (filter (within m code) es) ≡ true → cond b true (has_place p (filter (within m code) es)) ≡ true
        cond_both true q = refl
        cond_both false q = q

    go : (b : Bool) → is_at (entry_cmp (code, p)) e ≡ b → (b || list_any (is_at (entry_cmp (code, p))) es) ≡ true → (list_any (is_at (entry_cmp (code, p))) es ≡ true → has_place p (filter (within m code) es) ≡ true) → has_place p (filter (within m code) (e ∷ es)) ≡ true
    go true q k rest =
        let one = one_entry code p e q in
        let inside : within m code e ≡ true = subst (λ (d : ℕ × ℕ). within m code d ≡ true) (sym (pair-is e code p one.0 one.1)) (is_within m code p l) in
        rw (inside, eq-eqb e.1 p one.1) refl
    go false q k rest = later (within m code e) (rest k)

-- ---- a slot at the end
push-at : (xs : List Slot) (s : Slot) → get_or (xs ++ s ∷ []) (length xs) no_slot ≡ s
push-at [] s = refl
push-at (x ∷ xs) s = push-at xs s

push-apart : (xs : List Slot) (s : Slot) (p : ℕ) → p ≢ length xs → get_or (xs ++ s ∷ []) p no_slot ≡ get_or xs p no_slot
push-apart [] s zero h = absurd (h refl)
push-apart [] s (suc p) h = refl
push-apart (x ∷ xs) s zero h = refl
push-apart (x ∷ xs) s (suc p) h = push-apart xs s p (λ e. h (ap suc e))

pub changes-push : (xs : List Slot) (s : Slot) → ChangesAt (length xs) s.row xs (xs ++ s ∷ [])
changes-push xs s p = go (apart-or-same p (length xs))
  where
    go : (p ≡ length xs) ⊎ (p ≢ length xs) → (get_or (xs ++ s ∷ []) p no_slot).row ≡ cond (p == length xs) s.row (get_or xs p no_slot).row
    go (inl e) = rw (eq-eqb p (length xs) e) (ap (λ q. (get_or (xs ++ s ∷ []) q no_slot).row) e ∙ ap (λ (x : Slot). x.row) (push-at xs s))
    go (inr f) = rw (ne_eqb p (length xs) f) (ap (λ (x : Slot). x.row) (push-apart xs s p f))
