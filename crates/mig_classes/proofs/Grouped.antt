-- Atoms put, one after the other, into the group of the least atom of their class; equalities taken from the last to the first.
use Rattle.std.proofs.Common.{◌≡◌, ◌≢◌, ℕ, zero, suc, pos, ◌+◌, ◌-◌, ◌<◌, Bool, true, false, cond, List, [], ◌∷◌, ◌++◌, map, take, drop, length, refl, sym, ap, ap₂, ◌∙◌, arith, inl, inr, ◌⊎◌, subst, append-nil, drop-cons, add-one}
use Rattle.std.specs.Prelude.{set, slice_index_or, filter, nat_lt}
use Rattle.std.proofs.lemmas.Bool.{cases_Bool, lt-ltb}
use Rattle.std.proofs.lemmas.List.{take_more}
use Rattle.std.proofs.lemmas.List.Elements.{filter-append}
use Rattle.mig_schema.specs.declared.programs.Op.TheVariants.{Eq, Ne, Lt, Le, Gt, Ge}
use Rattle.mig_meaning.specs.Lists.{In}
use Rattle.mig_algebra.specs.declared.atoms.Atom.{Atom}
use Rattle.mig_algebra.specs.declared.atoms.Atom.TheVariants.{Int}
use Rattle.mig_algebra.specs.declared.literals.Lit.{Lit, Cmp, Other, Any'}
use Rattle.mig_classes.specs.Classes.{atom_eq, least, equated, led_by, is_several}
use Rattle.mig_classes.specs.Forests.{atom_of, RisesTo}
use Rattle.mig_classes.proofs.Classed.{atom_eq-true, atom_eq-refl}
use Rattle.mig_classes.proofs.Forested.{rises-one}

-- ---- one place of a map

-- functions that agree at each item
map-index : {A B : Type 0} (f g : A → B) (xs : List A) (d : A) → ((k : ℕ) → k < length xs → f (slice_index_or xs k d) ≡ g (slice_index_or xs k d)) → map f xs ≡ map g xs
map-index f g [] d h = refl
map-index f g (x ∷ xs) d h = ap₂ (λ y ys. y ∷ ys) (h 0 (omega arith)) (map-index f g xs d (λ k l. h (suc k) (omega (arith, l))))

-- functions that agree at each item but one
set-map : {A B : Type 0} (f g : A → B) (xs : List A) (d : A) (r : ℕ) (y : B) → r < length xs → y ≡ g (slice_index_or xs r d) → ((k : ℕ) → k < length xs → k ≢ r → f (slice_index_or xs k d) ≡ g (slice_index_or xs k d)) → set (map f xs) r y ≡ map g xs
set-map f g [] d r y l e h = absurd (omega (arith, l))
set-map f g (x ∷ xs) d zero y l e h = ap₂ (λ z zs. z ∷ zs) e (map-index f g xs d (λ k m. h (suc k) (omega (arith, m)) (λ q. absurd (omega (arith, q)))))
set-map f g (x ∷ xs) d (suc r) y l e h =
    ap₂ (λ z zs. z ∷ zs) (h 0 (omega arith) (λ q. absurd (omega (arith, q))))
    (set-map f g xs d r y (omega (arith, l)) e (λ k m ne. h (suc k) (omega (arith, m)) (λ q. ne (omega (arith, q)))))

-- ---- groups

module _ (ls : List Lit) (atoms : List Atom) (n r : ℕ) (rising : RisesTo (length atoms) (atom_of atoms)) (there : n < length atoms) (in' : r < length atoms) (leads : atom_of atoms r ≡ least ls (atom_of atoms n)) where
  -- the atom
  abbrev pub x : Atom
  x = atom_of atoms n

  -- with one atom more
  more : (a : Atom) → led_by ls (take (n + 1) atoms) a ≡ led_by ls (take n atoms) a ++ cond (atom_eq (least ls x) a) (x ∷ []) []
  more a = ap (λ l. led_by ls l a) (take_more atoms n (Int (pos 0)) there) ∙ filter-append (λ b. atom_eq (least ls b) a) (take n atoms) (x ∷ [])

  -- it comes into the group of the least of its class
  pub group-own : led_by ls (take n atoms) (atom_of atoms r) ++ (x ∷ []) ≡ led_by ls (take (n + 1) atoms) (atom_of atoms r)
  group-own =
      sym (more (atom_of atoms r)
      ∙ ap (λ b. led_by ls (take n atoms) (atom_of atoms r) ++ cond b (x ∷ []) []) (ap (atom_eq (least ls x)) leads ∙ atom_eq-refl (least ls x)))

  -- and into no other
  group-other : (k : ℕ) → k < length atoms → k ≢ r → led_by ls (take n atoms) (atom_of atoms k) ≡ led_by ls (take (n + 1) atoms) (atom_of atoms k)
  group-other k l ne = sym (more (atom_of atoms k) ∙ go (cases_Bool (atom_eq (least ls x) (atom_of atoms k))))
    where
      go : (atom_eq (least ls x) (atom_of atoms k) ≡ true) ⊎ (atom_eq (least ls x) (atom_of atoms k) ≡ false) → led_by ls (take n atoms) (atom_of atoms k) ++ cond (atom_eq (least ls x) (atom_of atoms k)) (x ∷ []) [] ≡ led_by ls (take n atoms) (atom_of atoms k)
      go (inl t) = absurd (ne (rises-one (length atoms) (atom_of atoms) rising k r l in' (sym (leads ∙ atom_eq-true (least ls x) (atom_of atoms k) t))))
      go (inr f) = ap (λ b. led_by ls (take n atoms) (atom_of atoms k) ++ cond b (x ∷ []) []) f ∙ append-nil (led_by ls (take n atoms) (atom_of atoms k))

  pub groups-more : (group : List Atom) → group ≡ led_by ls (take n atoms) (atom_of atoms r) ++ (x ∷ []) → set (map (led_by ls (take n atoms)) atoms) r group ≡ map (led_by ls (take (n + 1) atoms)) atoms
  groups-more group e = set-map (led_by ls (take n atoms)) (led_by ls (take (n + 1) atoms)) atoms (Int (pos 0)) r group in' (e ∙ group-own) group-other

-- no atoms are in groups
pub groups-none : (ls : List Lit) (atoms : List Atom) → map (led_by ls []) atoms ≡ map (λ (a : Atom). []) atoms
groups-none ls [] = refl
groups-none ls (a ∷ atoms) = ap (λ l. [] ∷ l) (groups-none ls atoms)

-- the group of an atom
pub group-at : (f : Atom → List Atom) (atoms : List Atom) (r : ℕ) → r < length atoms → slice_index_or (map f atoms) r [] ≡ f (atom_of atoms r)
group-at f [] r l = absurd (omega (arith, l))
group-at f (a ∷ atoms) zero l = refl
group-at f (a ∷ atoms) (suc r) l = group-at f atoms r (omega (arith, l))

-- ---- equalities

-- one list of literals after another
equated-append : (xs ys : List Lit) → equated (xs ++ ys) ≡ equated xs ++ equated ys
equated-append [] ys = refl
equated-append (Cmp Eq x y ∷ ls) ys = ap (λ l. x ∷ (y ∷ l)) (equated-append ls ys)
equated-append (Cmp Ne x y ∷ ls) ys = equated-append ls ys
equated-append (Cmp Lt x y ∷ ls) ys = equated-append ls ys
equated-append (Cmp Le x y ∷ ls) ys = equated-append ls ys
equated-append (Cmp Gt x y ∷ ls) ys = equated-append ls ys
equated-append (Cmp Ge x y ∷ ls) ys = equated-append ls ys
equated-append (Other x y ∷ ls) ys = equated-append ls ys
equated-append (Any' held vars n row ∷ ls) ys = equated-append ls ys

-- one literal more
pub equated-more : (ls : List Lit) (i : ℕ) (d : Lit) → i < length ls → equated (take (i + 1) ls) ≡ equated (take i ls) ++ equated (slice_index_or ls i d ∷ [])
equated-more ls i d l = ap equated (take_more ls i d l) ∙ equated-append (take i ls) (slice_index_or ls i d ∷ [])

-- a literal's sides among those of the list
pub sides-in : (ls : List Lit) (i : ℕ) (l d : Lit) → i < length ls → l ≡ slice_index_or ls i d → (a : Atom) → In a (equated (l ∷ [])) → In a (equated ls)
sides-in [] i l d h e a k = absurd (omega (arith, h))
sides-in (m ∷ ls) zero l d h e a k = first m (subst (λ x. In a (equated (x ∷ []))) e k)
  where
    first : (m : Lit) → In a (equated (m ∷ [])) → In a (equated (m ∷ ls))
    first (Cmp Eq x y) (inl q) = inl q
    first (Cmp Eq x y) (inr (inl q)) = inr (inl q)
    first (Cmp Eq x y) (inr (inr q)) = absurd q
    first (Cmp Ne x y) q = absurd q
    first (Cmp Lt x y) q = absurd q
    first (Cmp Le x y) q = absurd q
    first (Cmp Gt x y) q = absurd q
    first (Cmp Ge x y) q = absurd q
    first (Other x y) q = absurd q
    first (Any' held vars n row) q = absurd q
sides-in (m ∷ ls) (suc i) l d h e a k = later m (sides-in ls i l d (omega (arith, h)) e a k)
  where
    later : (m : Lit) → In a (equated ls) → In a (equated (m ∷ ls))
    later (Cmp Eq x y) q = inr (inr q)
    later (Cmp Ne x y) q = q
    later (Cmp Lt x y) q = q
    later (Cmp Le x y) q = q
    later (Cmp Gt x y) q = q
    later (Cmp Ge x y) q = q
    later (Other x y) q = q
    later (Any' held vars n row) q = q

-- the literals from the last but n on, with one more
pub drop-earlier : (ls : List Lit) (n : ℕ) (d : Lit) → n < length ls → drop (length ls - (n + 1)) ls ≡ slice_index_or ls (length ls - 1 - n) d ∷ drop (length ls - n) ls
drop-earlier ls n d h =
    let at : length ls - 1 - n < length ls = omega (arith, h) in
    let one : length ls - (n + 1) ≡ length ls - 1 - n = omega (arith, h) in
    let next : (length ls - 1 - n) + 1 ≡ length ls - n = omega (arith, h) in
    ap (λ k. drop k ls) one ∙ rw add-one (drop-cons ls (length ls - 1 - n) d at) ∙ ap (λ k. slice_index_or ls (length ls - 1 - n) d ∷ drop k ls) next

-- ---- classes of two

-- filters that agree
pub filter-agree : {A : Type 0} (p q : A → Bool) → ((x : A) → p x ≡ q x) → (xs : List A) → filter p xs ≡ filter q xs
filter-agree p q h [] = refl
filter-agree p q h (x ∷ xs) = ap₂ (λ b l. cond b (x ∷ l) l) (h x) (filter-agree p q h xs)

-- a list that has more than one item has several
pub several-count : {A : Type 0} (xs : List A) → nat_lt 1 (length xs) ≡ is_several xs
several-count [] = refl
several-count (x ∷ []) = refl
several-count (x ∷ (y ∷ rest)) = lt-ltb 1 (length (x ∷ (y ∷ rest))) (omega arith)
