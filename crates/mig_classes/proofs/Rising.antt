-- Atoms in order, each once: lesser numbers stand for lesser atoms, and each atom has a number.
use Rattle.std.proofs.Common.{◌≡◌, ℕ, zero, suc, pos, ◌<◌, ◌≤◌, List, [], ◌∷◌, length, sym, ap, ◌∙◌, arith, inl, inr, ⊎_elim, ◌⊎◌, subst, subst₂}
use Rattle.std.specs.Prelude.{slice_index_or}
use Rattle.std.specs.declared.cmp.Ordering.{Ordering}
use Rattle.std.specs.declared.cmp.Ordering.TheVariants.{Less, Equal, Greater}
use Rattle.std.specs.Ordering.{ordering_reverse, ordering_index}
use Rattle.std.specs.List.Sorted.{IsNonDecreasingBy, IsPartitionPoint}
use Rattle.std.proofs.lemmas.Bool.{cases_lt}
use Rattle.std.proofs.lemmas.Cmp.{tied_itself}
use Rattle.std.proofs.lemmas.List.{get_or_default}
use Rattle.mig_meaning.specs.Lists.{Each, In}
use Rattle.mig_algebra.specs.declared.atoms.Atom.{Atom}
use Rattle.mig_algebra.specs.declared.atoms.Atom.TheVariants.{Int}
use Rattle.mig_algebra.specs.Atoms.{atom_order}
use Rattle.mig_algebra.specs.Sorted.{put_once, sorted_once}
use Rattle.mig_algebra.proofs.OrderLaws.{atom_total, atom_tie}
use Rattle.mig_algebra.proofs.SortedLaws.{three_ways}
use Rattle.mig_classes.specs.Forests.{atom_of, RisesTo}

-- each item stands before those behind it
abbrev pub Rises : List Atom → Type 0
Rises [] = Unit {0}
Rises (x ∷ xs) = Each (λ y. atom_order x y ≡ Less) xs × Rises xs

turned-less : (x y : Atom) → atom_order x y ≡ Greater → atom_order y x ≡ Less
turned-less x y h = atom_total.antisymm y x ∙ ap ordering_reverse h

each-put : (P : Atom → Type 0) (x : Atom) (ys : List Atom) → P x → Each P ys → Each P (put_once atom_order x ys)
each-put P x [] p a = (p, tt)
each-put P x (y ∷ ys) p a = go (three_ways (atom_order x y)) (each-put P x ys p a.1)
  where
    go : (atom_order x y ≡ Less) ⊎ ((atom_order x y ≡ Equal) ⊎ (atom_order x y ≡ Greater)) → Each P (put_once atom_order x ys) → Each P (put_once atom_order x (y ∷ ys))
    go (inl e) ih = rw e (p, a)
    go (inr (inl e)) ih = rw e a
    go (inr (inr e)) ih = rw e (a.0, ih)

each-less : (x y : Atom) (ys : List Atom) → atom_order x y ≡ Less → Each (λ z. atom_order y z ≡ Less) ys → Each (λ z. atom_order x z ≡ Less) ys
each-less x y [] h a = tt
each-less x y (z ∷ ys) h a = (atom_total.trans x y z h a.0, each-less x y ys h a.1)

put-rises : (x : Atom) (ys : List Atom) → Rises ys → Rises (put_once atom_order x ys)
put-rises x [] r = (tt, tt)
put-rises x (y ∷ ys) r = go (three_ways (atom_order x y)) (put-rises x ys r.1)
  where
    go : (atom_order x y ≡ Less) ⊎ ((atom_order x y ≡ Equal) ⊎ (atom_order x y ≡ Greater)) → Rises (put_once atom_order x ys) → Rises (put_once atom_order x (y ∷ ys))
    go (inl e) ih = rw e ((e, each-less x y ys e r.0), r)
    go (inr (inl e)) ih = rw e r
    go (inr (inr e)) ih = rw e (each-put (λ z. atom_order y z ≡ Less) x ys (turned-less x y e) r.0, ih)

sorted-rises : (xs : List Atom) → Rises (sorted_once atom_order xs)
sorted-rises [] = tt
sorted-rises (x ∷ xs) = put-rises x (sorted_once atom_order xs) (sorted-rises xs)

each-index : (P : Atom → Type 0) (xs : List Atom) (j : ℕ) → Each P xs → j < length xs → P (atom_of xs j)
each-index P [] j a l = absurd (omega (arith, l))
each-index P (x ∷ xs) zero a l = a.0
each-index P (x ∷ xs) (suc j) a l = each-index P xs j a.1 (omega (arith, l))

rises-index : (xs : List Atom) → Rises xs → (i j : ℕ) → i < j → j < length xs → atom_order (atom_of xs i) (atom_of xs j) ≡ Less
rises-index [] r i j h l = absurd (omega (arith, l))
rises-index (x ∷ xs) r i zero h l = absurd (omega (arith, h))
rises-index (x ∷ xs) r zero (suc j) h l = each-index (λ y. atom_order x y ≡ Less) xs j r.0 (omega (arith, l))
rises-index (x ∷ xs) r (suc i) (suc j) h l = rises-index xs r.1 i j (omega (arith, h)) (omega (arith, l))

-- lesser numbers stand for lesser atoms
pub sorted-rising : (xs : List Atom) → RisesTo (length (sorted_once atom_order xs)) (atom_of (sorted_once atom_order xs))
sorted-rising xs = record { by = rises-index (sorted_once atom_order xs) (sorted-rises xs) }

-- ---- members

in-put : (x y : Atom) (ys : List Atom) → (x ≡ y) ⊎ In x ys → In x (put_once atom_order y ys)
in-put x y [] (inl e) = inl e
in-put x y [] (inr i) = absurd i
in-put x y (z ∷ zs) h = go (three_ways (atom_order y z)) h (in-put x y zs)
  where
    go : (atom_order y z ≡ Less) ⊎ ((atom_order y z ≡ Equal) ⊎ (atom_order y z ≡ Greater)) → (x ≡ y) ⊎ In x (z ∷ zs) → ((x ≡ y) ⊎ In x zs → In x (put_once atom_order y zs)) → In x (put_once atom_order y (z ∷ zs))
    go (inl e) k ih = rw e k
    go (inr (inl e)) (inl q) ih = rw e (inl (q ∙ atom_tie y z e))
    go (inr (inl e)) (inr i) ih = rw e i
    go (inr (inr e)) (inl q) ih = rw e (inr (ih (inl q)))
    go (inr (inr e)) (inr (inl q)) ih = rw e (inl q)
    go (inr (inr e)) (inr (inr i)) ih = rw e (inr (ih (inr i)))

-- each atom of a list is among them in order
pub in-sorted : (x : Atom) (xs : List Atom) → In x xs → In x (sorted_once atom_order xs)
in-sorted x [] i = absurd i
in-sorted x (y ∷ ys) (inl e) = in-put x y (sorted_once atom_order ys) (inl e)
in-sorted x (y ∷ ys) (inr i) = in-put x y (sorted_once atom_order ys) (inr (in-sorted x ys i))

-- and has a number there
pub number-there : (x : Atom) (xs : List Atom) → In x xs → (k : ℕ) × (k < length xs) × (atom_of xs k ≡ x)
number-there x [] i = absurd i
number-there x (y ∷ ys) (inl e) = (0, omega arith, sym e)
number-there x (y ∷ ys) (inr i) = let k = number-there x ys i in (suc k.0, omega (arith, k.1), k.2)

-- ---- searches

-- how atoms stand to one of them does not fall
order-rises : (x y a : Atom) → atom_order x y ≡ Less → ordering_index (atom_order x a) ≤ ordering_index (atom_order y a)
order-rises x y a h = go (three_ways (atom_order y a))
  where
    most : (o : Ordering) → ordering_index o ≤ 2
    most Less = omega arith
    most Equal = omega arith
    most Greater = omega arith

    less : atom_order x a ≡ Less → (o : Ordering) → ordering_index (atom_order x a) ≤ ordering_index o
    less e o = rw e (omega arith)

    go : (atom_order y a ≡ Less) ⊎ ((atom_order y a ≡ Equal) ⊎ (atom_order y a ≡ Greater)) → ordering_index (atom_order x a) ≤ ordering_index (atom_order y a)
    go (inl e) = less (atom_total.trans x y a h e) (atom_order y a)
    go (inr (inl e)) = less (ap (atom_order x) (sym (atom_tie y a e)) ∙ h) (atom_order y a)
    go (inr (inr e)) = rw e (most (atom_order x a))

pub rises-search : (xs : List Atom) (a : Atom) → RisesTo (length xs) (atom_of xs) → IsNonDecreasingBy (λ y. ordering_index (atom_order y a)) xs
rises-search xs a r i j d le l = go (cases_lt i j)
  where
    at : (k : ℕ) → k < length xs → slice_index_or xs k d ≡ atom_of xs k
    at k m = get_or_default xs k d (Int (pos 0)) m

    go : (i < j) ⊎ (j ≤ i) → ordering_index (atom_order (slice_index_or xs i d) a) ≤ ordering_index (atom_order (slice_index_or xs j d) a)
    go (inl lt) =
        subst₂ (λ x y. ordering_index (atom_order x a) ≤ ordering_index (atom_order y a)) (sym (at i (omega (arith, lt, l)))) (sym (at j l)) (order-rises (atom_of xs i) (atom_of xs j) a (r.by i j lt l))
    go (inr ge) = let e : i ≡ j = omega (arith, le, ge) in subst (λ k. ordering_index (atom_order (slice_index_or xs i d) a) ≤ ordering_index (atom_order (slice_index_or xs k d) a)) e (omega arith)

-- an atom that is there is found
pub not-missed : (xs : List Atom) (a : Atom) (i : ℕ) → RisesTo (length xs) (atom_of xs) → In a xs → (IsNonDecreasingBy (λ y. ordering_index (atom_order y a)) xs → IsPartitionPoint (λ y. atom_order y a ≡ Less) (λ y. atom_order y a ≡ Greater) xs i) → ⊥
not-missed xs a i r there h = ⊎_elim before behind (cases_lt k.0 i)
  where
    k : (n : ℕ) × (n < length xs) × (atom_of xs n ≡ a)
    k = number-there a xs there

    parts : IsPartitionPoint (λ y. atom_order y a ≡ Less) (λ y. atom_order y a ≡ Greater) xs i
    parts = h (rises-search xs a r)

    tied : atom_order (atom_of xs k.0) a ≡ Equal
    tied = ap (λ x. atom_order x a) k.2 ∙ tied_itself atom_total a

    before : k.0 < i → ⊥
    before l = let bad : Equal ≡ Less = sym tied ∙ parts.0 k.0 (Int (pos 0)) (omega arith) l in cc

    behind : i ≤ k.0 → ⊥
    behind l = let bad : Equal ≡ Greater = sym tied ∙ parts.1 k.0 (Int (pos 0)) l k.1 in cc
