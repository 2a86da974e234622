-- The least atom of a class is in it, and no atom of the class is before it.
use Rattle.std.proofs.Common.{◌≡◌, true, false, cond, ◌||◌, List, [], ◌∷◌, refl, sym, ap, ap₂, ◌∙◌, inl, inr, ◌⊎◌}
use Rattle.std.specs.Ordering.{is_lt, ordering_reverse}
use Rattle.std.specs.declared.cmp.Ordering.{Ordering}
use Rattle.std.specs.declared.cmp.Ordering.TheVariants.{Less, Equal, Greater}
use Rattle.std.proofs.lemmas.Bool.{cases_Bool}
use Rattle.std.proofs.lemmas.Cmp.{tied_itself}
use Rattle.mig_schema.specs.declared.programs.Op.TheVariants.{Eq, Ne, Lt, Le, Gt, Ge}
use Rattle.mig_algebra.specs.declared.atoms.Atom.{Atom}
use Rattle.mig_algebra.specs.declared.literals.Lit.{Lit, Cmp, Other, Any'}
use Rattle.mig_algebra.specs.Atoms.{atom_order, atom_lt}
use Rattle.mig_algebra.proofs.OrderLaws.{atom_total, atom_tie}
use Rattle.mig_algebra.proofs.SortedLaws.{three_ways}
use Rattle.mig_classes.specs.Classes.{atom_eq, lesser, merged, least, one_class}
use Rattle.mig_classes.proofs.Classed.{atom_eq-true, class-equivalence, class-equated, least-same, same-turned}

-- ---- atoms in order

-- no atom is before itself
not-before-itself : (a : Atom) → atom_lt a a ≡ false
not-before-itself a = ap is_lt (tied_itself atom_total a)

lt-less : (o : Ordering) → is_lt o ≡ true → o ≡ Less
lt-less Less h = refl
lt-less Equal h = cc
lt-less Greater h = cc

turned-lt : (a b : Atom) → atom_lt b a ≡ true → atom_lt a b ≡ false
turned-lt a b h = ap is_lt (atom_total.antisymm a b ∙ ap ordering_reverse (lt-less (atom_order b a) h))

-- nor before one that another is not before
not-before : (a b c : Atom) → atom_lt a b ≡ false → atom_lt b c ≡ false → atom_lt a c ≡ false
not-before a b c h k = go (cases_Bool (atom_lt a c)) (three_ways (atom_order a b))
  where
    go : (atom_lt a c ≡ true) ⊎ (atom_lt a c ≡ false) → (atom_order a b ≡ Less) ⊎ ((atom_order a b ≡ Equal) ⊎ (atom_order a b ≡ Greater)) → atom_lt a c ≡ false
    go (inr n) w = n
    go (inl t) (inl e) = let bad : true ≡ false = sym (ap is_lt e) ∙ h in cc
    go (inl t) (inr (inl e)) = ap (λ x. atom_lt x c) (atom_tie a b e) ∙ k
    go (inl t) (inr (inr e)) =
        let less = atom_total.trans b a c (atom_total.antisymm b a ∙ ap ordering_reverse e) (lt-less (atom_order a c) t) in
        let bad : true ≡ false = sym (ap is_lt less) ∙ k in cc

-- neither of two is before the lesser one
lesser-left : (u v : Atom) → atom_lt u (lesser u v) ≡ false
lesser-left u v = go (cases_Bool (atom_lt v u))
  where
    go : (atom_lt v u ≡ true) ⊎ (atom_lt v u ≡ false) → atom_lt u (lesser u v) ≡ false
    go (inl t) = ap (λ b. atom_lt u (cond b v u)) t ∙ turned-lt u v t
    go (inr n) = ap (λ b. atom_lt u (cond b v u)) n ∙ not-before-itself u

lesser-right : (u v : Atom) → atom_lt v (lesser u v) ≡ false
lesser-right u v = go (cases_Bool (atom_lt v u))
  where
    go : (atom_lt v u ≡ true) ⊎ (atom_lt v u ≡ false) → atom_lt v (lesser u v) ≡ false
    go (inl t) = ap (λ b. atom_lt v (cond b v u)) t ∙ not-before-itself v
    go (inr n) = ap (λ b. atom_lt v (cond b v u)) n ∙ n

-- ---- classes

-- an atom is not before the least of its class after two classes became one
merged-first : (u v a : Atom) → atom_lt a (merged u v a) ≡ false
merged-first u v a = go (cases_Bool (atom_eq a u)) (cases_Bool (atom_eq a v))
  where
    go : (atom_eq a u ≡ true) ⊎ (atom_eq a u ≡ false) → (atom_eq a v ≡ true) ⊎ (atom_eq a v ≡ false) → atom_lt a (merged u v a) ≡ false
    go (inl t) k = ap (λ b. atom_lt a (cond (b || atom_eq a v) (lesser u v) a)) t ∙ ap (λ x. atom_lt x (lesser u v)) (atom_eq-true a u t) ∙ lesser-left u v
    go (inr n) (inl t) = ap₂ (λ b c. atom_lt a (cond (b || c) (lesser u v) a)) n t ∙ ap (λ x. atom_lt x (lesser u v)) (atom_eq-true a v t) ∙ lesser-right u v
    go (inr n) (inr m) = ap₂ (λ b c. atom_lt a (cond (b || c) (lesser u v) a)) n m ∙ not-before-itself a

least-first : (ls : List Lit) (a : Atom) → atom_lt a (least ls a) ≡ false
least-first [] a = not-before-itself a
least-first (Cmp Eq x y ∷ ls) a = not-before a (least ls a) (merged (least ls x) (least ls y) (least ls a)) (least-first ls a) (merged-first (least ls x) (least ls y) (least ls a))
least-first (Cmp Ne x y ∷ ls) a = least-first ls a
least-first (Cmp Lt x y ∷ ls) a = least-first ls a
least-first (Cmp Le x y ∷ ls) a = least-first ls a
least-first (Cmp Gt x y ∷ ls) a = least-first ls a
least-first (Cmp Ge x y ∷ ls) a = least-first ls a
least-first (Other x y ∷ ls) a = least-first ls a
least-first (Any' held vars n row ∷ ls) a = least-first ls a

-- the least atom of a class is one of its atoms
pub class-member : (ls : List Lit) (a : Atom) → one_class ls a (least ls a) ≡ true
class-member ls a =
    same-turned (one_class ls) (class-equivalence ls) (least ls a) a (least-same (one_class ls) (class-equivalence ls) ls (class-equated ls) a)

-- none of which is before it
pub class-first : (ls : List Lit) (a b : Atom) → one_class ls a b ≡ true → atom_lt b (least ls a) ≡ false
class-first ls a b h = ap (atom_lt b) (atom_eq-true (least ls a) (least ls b) h) ∙ least-first ls b
