-- Classes asked over the atoms in order, each once, and by the least of them.
use Rattle.std.proofs.Common.{◌≡◌, Bool, true, false, cond, ◌&&◌, ◌||◌, List, [], ◌∷◌, map, length, refl, sym, ap, ap₂, ◌∙◌, subst, inl, inr, ◌⊎◌}
use Rattle.std.specs.Prelude.{filter, ℕ, pos, ◌<◌, slice_index_or}
use Rattle.std.specs.List.{list_any}
use Rattle.std.specs.declared.cmp.Ordering.TheVariants.{Less, Equal, Greater}
use Rattle.std.proofs.lemmas.Bool.{cases_Bool, and_parts, and_from}
use Rattle.mig_schema.specs.declared.programs.Op.TheVariants.{Eq, Ne, Lt, Le, Gt, Ge}
use Rattle.mig_meaning.specs.Lists.{In}
use Rattle.mig_algebra.specs.declared.atoms.Atom.{Atom}
use Rattle.mig_algebra.specs.declared.literals.Lit.{Lit, Cmp, Other, Any'}
use Rattle.mig_algebra.specs.Atoms.{atom_order, atom_lt}
use Rattle.mig_algebra.specs.Sorted.{put_once, sorted_once}
use Rattle.mig_algebra.proofs.Members.{any-in, in-any}
use Rattle.mig_algebra.proofs.OrderLaws.{atom_tie}
use Rattle.mig_algebra.proofs.SortedLaws.{three_ways}
use Rattle.mig_classes.specs.Classes.{atom_eq, lesser, merged, least, one_class, equated, named}
use Rattle.mig_classes.specs.Deciding.{clashes, is_led_by}
use Rattle.mig_classes.specs.Given.{class_of, some_of_classes}
use Rattle.mig_classes.proofs.Classed.{atom_eq-true, atom_eq-refl}
use Rattle.mig_classes.proofs.LeastAtoms.{class-member}
use Rattle.mig_classes.proofs.Rising.{in-sorted}

-- ---- tests of lists

-- two truth values, each of which is true where the other is
pub both-ways : (a b : Bool) → (a ≡ true → b ≡ true) → (b ≡ true → a ≡ true) → a ≡ b
both-ways true b h k = sym (h refl)
both-ways false true h k = k refl
both-ways false false h k = refl

-- lists with the same members pass a test alike
pub any-members : {X : Type 0} (p : X → Bool) (xs ys : List X) → ((x : X) → In x xs → In x ys) → ((x : X) → In x ys → In x xs) → list_any p xs ≡ list_any p ys
any-members p xs ys to back =
    both-ways (list_any p xs) (list_any p ys)
    (λ h. let k = any-in p xs h in in-any p k.0 ys (to k.0 k.1) k.2)
    (λ h. let k = any-in p ys h in in-any p k.0 xs (back k.0 k.1) k.2)

-- tests that agree
pub any-agree : {X : Type 0} (p q : X → Bool) (xs : List X) → ((x : X) → p x ≡ q x) → list_any p xs ≡ list_any q xs
any-agree p q [] h = refl
any-agree p q (x ∷ xs) h = ap₂ (λ a b. a || b) (h x) (any-agree p q xs h)

-- a test of what a filter leaves
pub any-filter : {X : Type 0} (q p : X → Bool) (xs : List X) → list_any p (filter q xs) ≡ list_any (λ x. q x && p x) xs
any-filter q p [] = refl
any-filter q p (x ∷ xs) = go (q x) (any-filter q p xs)
  where
    go : (b : Bool) → list_any p (filter q xs) ≡ list_any (λ x. q x && p x) xs → list_any p (cond b (x ∷ filter q xs) (filter q xs)) ≡ ((b && p x) || list_any (λ x. q x && p x) xs)
    go true ih = ap (λ b. p x || b) ih
    go false ih = ih

-- ---- atoms in order, each once

from-put : (x y : Atom) (ys : List Atom) → In x (put_once atom_order y ys) → (x ≡ y) ⊎ In x ys
from-put x y [] i = i
from-put x y (z ∷ zs) i = go (three_ways (atom_order y z)) i (from-put x y zs)
  where
    go : (atom_order y z ≡ Less) ⊎ ((atom_order y z ≡ Equal) ⊎ (atom_order y z ≡ Greater)) → In x (put_once atom_order y (z ∷ zs)) → (In x (put_once atom_order y zs) → (x ≡ y) ⊎ In x zs) → (x ≡ y) ⊎ In x (z ∷ zs)
    go (inl e) k ih = rw e at k
    go (inr (inl e)) k ih = inr (rw e at k)
    go (inr (inr e)) k ih = behind (rw e at k)
      where
        behind : (x ≡ z) ⊎ In x (put_once atom_order y zs) → (x ≡ y) ⊎ In x (z ∷ zs)
        behind (inl q) = inr (inl q)
        behind (inr j) = elim (ih j) [ inl q ↦ inl q | inr h ↦ inr (inr h) ]

-- what stands among the atoms in order stands in the list
pub from-sorted : (x : Atom) (xs : List Atom) → In x (sorted_once atom_order xs) → In x xs
from-sorted x [] i = i
from-sorted x (y ∷ ys) i = elim (from-put x y (sorted_once atom_order ys) i) [ inl e ↦ inl e | inr j ↦ inr (from-sorted x ys j) ]

-- so both pass a test alike
pub any-named : (p : Atom → Bool) (ls : List Lit) → list_any p (equated ls) ≡ list_any p (named ls)
any-named p ls = any-members p (equated ls) (named ls) (λ x. in-sorted x (equated ls)) (λ x. from-sorted x (equated ls))

-- ---- least atoms

-- the least atom of a class is one that an equality names, or the atom itself
pub least-there : (ls : List Lit) (a : Atom) → (least ls a ≡ a) ⊎ In (least ls a) (equated ls)
least-there [] a = inl refl
least-there (Cmp Eq x y ∷ ls) a = go (cases_Bool (atom_eq (least ls a) (least ls x) || atom_eq (least ls a) (least ls y))) (least-there ls a) (lower (least-there ls x) (least-there ls y))
  where
    side : (z : Atom) → In z (x ∷ (y ∷ equated ls)) → (least ls z ≡ z) ⊎ In (least ls z) (equated ls) → In (least ls z) (x ∷ (y ∷ equated ls))
    side z i (inl e) = subst (λ w. In w (x ∷ (y ∷ equated ls))) (sym e) i
    side z i (inr j) = inr (inr j)

    lower : (least ls x ≡ x) ⊎ In (least ls x) (equated ls) → (least ls y ≡ y) ⊎ In (least ls y) (equated ls) → In (lesser (least ls x) (least ls y)) (x ∷ (y ∷ equated ls))
    lower u v = elim (cases_Bool (atom_lt (least ls y) (least ls x))) [
      | inl t ↦ subst (λ b. In (cond b (least ls y) (least ls x)) (x ∷ (y ∷ equated ls))) (sym t) (side y (inr (inl refl)) v)
      | inr f ↦ subst (λ b. In (cond b (least ls y) (least ls x)) (x ∷ (y ∷ equated ls))) (sym f) (side x (inl refl) u)
    ]

    go : ((atom_eq (least ls a) (least ls x) || atom_eq (least ls a) (least ls y)) ≡ true) ⊎ ((atom_eq (least ls a) (least ls x) || atom_eq (least ls a) (least ls y)) ≡ false) → (least ls a ≡ a) ⊎ In (least ls a) (equated ls) → In (lesser (least ls x) (least ls y)) (x ∷ (y ∷ equated ls)) → (merged (least ls x) (least ls y) (least ls a) ≡ a) ⊎ In (merged (least ls x) (least ls y) (least ls a)) (x ∷ (y ∷ equated ls))
    go (inl t) k low = inr (subst (λ b. In (cond b (lesser (least ls x) (least ls y)) (least ls a)) (x ∷ (y ∷ equated ls))) (sym t) low)
    go (inr f) (inl e) low = inl (ap (λ b. cond b (lesser (least ls x) (least ls y)) (least ls a)) f ∙ e)
    go (inr f) (inr i) low = inr (subst (λ b. In (cond b (lesser (least ls x) (least ls y)) (least ls a)) (x ∷ (y ∷ equated ls))) (sym f) (inr (inr i)))
least-there (Cmp Ne x y ∷ ls) a = least-there ls a
least-there (Cmp Lt x y ∷ ls) a = least-there ls a
least-there (Cmp Le x y ∷ ls) a = least-there ls a
least-there (Cmp Gt x y ∷ ls) a = least-there ls a
least-there (Cmp Ge x y ∷ ls) a = least-there ls a
least-there (Other x y ∷ ls) a = least-there ls a
least-there (Any' held vars n row ∷ ls) a = least-there ls a

-- the least atom of the class of one that an equality names is one too
pub least-named : (ls : List Lit) (a : Atom) → In a (equated ls) → In (least ls a) (equated ls)
least-named ls a i = elim (least-there ls a) [ inl e ↦ subst (λ w. In w (equated ls)) (sym e) i | inr j ↦ j ]

-- an atom that is not the least of its class is one that an equality names
pub least-moved : (ls : List Lit) (a : Atom) → (least ls a ≡ a) ⊎ In a (equated ls)
least-moved [] a = inl refl
least-moved (Cmp Eq x y ∷ ls) a = go (cases_Bool (atom_eq (least ls a) (least ls x))) (cases_Bool (atom_eq (least ls a) (least ls y))) (least-moved ls a)
  where
    side : (z : Atom) → least ls a ≡ a → atom_eq (least ls a) (least ls z) ≡ true → (a ≡ z) ⊎ In a (equated ls)
    side z e t =
        let same : a ≡ least ls z = sym e ∙ atom_eq-true (least ls a) (least ls z) t in
        elim (least-there ls z) [ inl f ↦ inl (same ∙ f) | inr i ↦ inr (subst (λ w. In w (equated ls)) (sym same) i) ]

    go : (atom_eq (least ls a) (least ls x) ≡ true) ⊎ (atom_eq (least ls a) (least ls x) ≡ false) → (atom_eq (least ls a) (least ls y) ≡ true) ⊎ (atom_eq (least ls a) (least ls y) ≡ false) → (least ls a ≡ a) ⊎ In a (equated ls) → (merged (least ls x) (least ls y) (least ls a) ≡ a) ⊎ In a (x ∷ (y ∷ equated ls))
    go s t (inr i) = inr (inr (inr i))
    go (inl s) t (inl e) = elim (side x e s) [ inl f ↦ inr (inl f) | inr i ↦ inr (inr (inr i)) ]
    go (inr s) (inl t) (inl e) = elim (side y e t) [ inl f ↦ inr (inr (inl f)) | inr i ↦ inr (inr (inr i)) ]
    go (inr s) (inr t) (inl e) = inl (ap₂ (λ b c. cond (b || c) (lesser (least ls x) (least ls y)) (least ls a)) s t ∙ e)
least-moved (Cmp Ne x y ∷ ls) a = least-moved ls a
least-moved (Cmp Lt x y ∷ ls) a = least-moved ls a
least-moved (Cmp Le x y ∷ ls) a = least-moved ls a
least-moved (Cmp Gt x y ∷ ls) a = least-moved ls a
least-moved (Cmp Ge x y ∷ ls) a = least-moved ls a
least-moved (Other x y ∷ ls) a = least-moved ls a
least-moved (Any' held vars n row ∷ ls) a = least-moved ls a

-- an atom that no equality names is the least of its class
pub least-alone : (ls : List Lit) (a : Atom) → (In a (named ls) → ⊥) → least ls a ≡ a
least-alone ls a out = elim (least-moved ls a) [ inl e ↦ e | inr i ↦ absurd (out (in-sorted a (equated ls) i)) ]

-- ---- members of a class

-- an atom is in its class
itself : (ls : List Lit) (a : Atom) → one_class ls a a ≡ true
itself ls a = atom_eq-refl (least ls a)

-- a test of a class: of the atom itself, and of those that equalities name
pub any-class : (ls : List Lit) (p : Atom → Bool) (a : Atom) → list_any p (class_of ls a) ≡ (p a || list_any (is_led_by ls (least ls a) p) (named ls))
any-class ls p a =
    any-filter (one_class ls a) p (a ∷ equated ls)
    ∙ ap₂ (λ b c. (b && p a) || c) (itself ls a) (any-named (λ x. one_class ls a x && p x) ls)

-- the same of two classes
pub any-classes : (ls : List Lit) (test : Atom → Atom → Bool) (a b : Atom) → some_of_classes ls test a b ≡ (list_any (test a) (class_of ls b) || list_any (is_led_by ls (least ls a) (λ x. list_any (test x) (class_of ls b))) (named ls))
any-classes ls test a b = any-class ls (λ x. list_any (test x) (class_of ls b)) a

-- ---- clashes

filter-in : {X : Type 0} (q : X → Bool) (x : X) (xs : List X) → In x xs → q x ≡ true → In x (filter q xs)
filter-in q x [] i t = i
filter-in q x (y ∷ ys) (inl e) t = let k : q y ≡ true = ap q (sym e) ∙ t in rw k (inl e)
filter-in q x (y ∷ ys) (inr i) t = go (cases_Bool (q y)) (filter-in q x ys i t)
  where
    go : (q y ≡ true) ⊎ (q y ≡ false) → In x (filter q ys) → In x (filter q (y ∷ ys))
    go (inl k) j = rw k (inr j)
    go (inr k) j = rw k j

in-filter : {X : Type 0} (q : X → Bool) (x : X) (xs : List X) → In x (filter q xs) → In x xs × (q x ≡ true)
in-filter q x [] i = absurd i
in-filter q x (y ∷ ys) i = go (cases_Bool (q y)) i (in-filter q x ys)
  where
    go : (q y ≡ true) ⊎ (q y ≡ false) → In x (filter q (y ∷ ys)) → (In x (filter q ys) → In x ys × (q x ≡ true)) → In x (y ∷ ys) × (q x ≡ true)
    go (inl k) j ih = elim (rw k at j) [ inl e ↦ (inl e, ap q e ∙ k) | inr h ↦ (inr (ih h).0, (ih h).1) ]
    go (inr k) j ih = let h = ih (rw k at j) in (inr h.0, h.1)

module _ (ls : List Lit) (test : Atom → Atom → Bool) (a : Atom) (there : In a (equated ls)) where
  -- the least of the class is the least of its own class
  settled : least ls (least ls a) ≡ least ls a
  settled = sym (atom_eq-true (least ls a) (least ls (least ls a)) (class-member ls a))

  -- each of the class is in that of the least
  into : (x : Atom) → In x (class_of ls a) → In x (class_of ls (least ls a))
  into x i =
      let k = in-filter (one_class ls a) x (a ∷ equated ls) i in
      filter-in (one_class ls (least ls a)) x (least ls a ∷ equated ls)
      (inr (elim k.0 [ inl e ↦ subst (λ w. In w (equated ls)) (sym e) there | inr j ↦ j ]))
      (ap (λ w. atom_eq w (least ls x)) settled ∙ k.1)

  -- so two that pass are there too
  pub at-least : some_of_classes ls test a a ≡ true → clashes ls test (least ls a) ≡ true
  at-least h =
      let k = any-in (λ x. list_any (test x) (class_of ls a)) (class_of ls a) h in
      let j = any-in (test k.0) (class_of ls a) k.2 in
      and_from (atom_eq (least ls (least ls a)) (least ls a)) (some_of_classes ls test (least ls a) (least ls a))
      (ap (λ w. atom_eq w (least ls a)) settled ∙ atom_eq-refl (least ls a))
      (in-any (λ x. list_any (test x) (class_of ls (least ls a))) k.0 (class_of ls (least ls a)) (into k.0 k.1)
      (in-any (test k.0) j.0 (class_of ls (least ls a)) (into j.0 j.1) j.2))

-- some class holds two atoms that pass exactly where that of some least atom does
pub any-clash : (ls : List Lit) (test : Atom → Atom → Bool) → list_any (λ a. some_of_classes ls test a a) (equated ls) ≡ list_any (clashes ls test) (named ls)
any-clash ls test =
    both-ways (list_any (λ a. some_of_classes ls test a a) (equated ls)) (list_any (clashes ls test) (named ls))
    (λ h.
    let k = any-in (λ a. some_of_classes ls test a a) (equated ls) h in
    in-any (clashes ls test) (least ls k.0) (named ls) (in-sorted (least ls k.0) (equated ls) (least-named ls k.0 k.1)) (at-least ls test k.0 k.1 k.2))
    (λ h.
    let k = any-in (clashes ls test) (named ls) h in
    in-any (λ a. some_of_classes ls test a a) k.0 (equated ls) (from-sorted k.0 (equated ls) k.1) (and_parts (atom_eq (least ls k.0) k.0) (some_of_classes ls test k.0 k.0) k.2).1)
