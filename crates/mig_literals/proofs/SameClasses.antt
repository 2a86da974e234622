-- The equalities of a term's classes, written by the lists of their atoms.
use Rattle.std.proofs.Common.{◌≡◌, suc, Bool, true, false, cond, not, List, [], ◌∷◌, ◌++◌, map, length, refl, sym, ap, ap₂, ◌∙◌, arith, subst, inl, inr, ◌⊎◌}
use Rattle.std.specs.Prelude.{filter}
use Rattle.std.specs.List.{flat_map}
use Rattle.std.specs.Ordering.{is_lt, is_eq, ordering_reverse}
use Rattle.std.specs.declared.cmp.Ordering.TheVariants.{Less}
use Rattle.std.proofs.lemmas.Bool.{cases_Bool}
use Rattle.mig_schema.specs.declared.programs.Op.TheVariants.{Eq}
use Rattle.mig_meaning.specs.Lists.{In, Each}
use Rattle.mig_meaning.proofs.Lists.{in-passing, from-passing}
use Rattle.mig_meaning.proofs.StateLaw.{each-in}
use Rattle.mig_algebra.specs.declared.atoms.Atom.{Atom}
use Rattle.mig_algebra.specs.declared.literals.Lit.{Lit, Cmp}
use Rattle.mig_algebra.specs.Atoms.{atom_order, atom_lt}
use Rattle.mig_algebra.proofs.OrderLaws.{atom_total}
use Rattle.mig_classes.specs.Classes.{atom_eq, least, equated, named, led_by, is_several}
use Rattle.mig_classes.specs.Forests.{atom_of, RisesTo}
use Rattle.mig_classes.proofs.Classed.{atom_eq-true, atom_eq-refl, class-equivalence}
use Rattle.mig_classes.proofs.LeastAtoms.{class-member, class-first}
use Rattle.mig_classes.proofs.Rising.{sorted-rising, number-there, in-sorted}
use Rattle.mig_replacing.proofs.Reached.{each-from}
use Rattle.mig_literals.specs.Same.{class_lits, same_lits, first_equal, classes_equal}
use Rattle.mig_literals.proofs.SameKeeps.{named-in, least-lead}

-- each atom before those behind it
abbrev Climbs : List Atom → Type 0
Climbs [] = Unit {0}
Climbs (x ∷ xs) = Each (λ y. atom_order x y ≡ Less) xs × Climbs xs

climbs : (xs : List Atom) → RisesTo (length xs) (atom_of xs) → Climbs xs
climbs [] r = tt
climbs (x ∷ xs) r = (
  each-from (λ y. atom_order x y ≡ Less) xs (λ y i.
      let k = number-there y xs i in
      ap (atom_order x) (sym k.2) ∙ r.by 0 (suc k.0) (omega arith) (omega (arith, k.1))),
  climbs xs (record { by = λ i j l m. r.by (suc i) (suc j) (omega (arith, l)) (omega (arith, m)) }),
)

filter-climbs : (q : Atom → Bool) (xs : List Atom) → Climbs xs → Climbs (filter q xs)
filter-climbs q [] c = tt
filter-climbs q (x ∷ xs) c = go (q x) (filter-climbs q xs c.1)
  where
    go : (b : Bool) → Climbs (filter q xs) → Climbs (cond b (x ∷ filter q xs) (filter q xs))
    go true ih = (each-from (λ y. atom_order x y ≡ Less) (filter q xs) (λ y i. each-in (λ y. atom_order x y ≡ Less) y xs c.0 (from-passing q y xs i).0), ih)
    go false ih = ih

-- a test that all pass leaves all
filter-all : (q : Atom → Bool) (xs : List Atom) → ((x : Atom) → In x xs → q x ≡ true) → filter q xs ≡ xs
filter-all q [] h = refl
filter-all q (x ∷ xs) h = ap (λ b. cond b (x ∷ filter q xs) (filter q xs)) (h x (inl refl)) ∙ ap (λ l. x ∷ l) (filter-all q xs (λ y i. h y (inr i)))

less-not-eq : (a b : Atom) → atom_order a b ≡ Less → atom_eq b a ≡ false
less-not-eq a b h = ap is_eq (atom_total.antisymm b a ∙ ap ordering_reverse h)

-- the first of a list that climbs is its least; without it the others are left
others-left : (r : Atom) (xs : List Atom) → Climbs xs → ((x : Atom) → In x xs → atom_lt x r ≡ false) → ((x : Atom) → In x xs → In r xs) → first_equal xs ≡ map (Cmp Eq r) (filter (λ b. not (atom_eq b r)) xs)
others-left r [] c h m = refl
others-left r (a ∷ bs) c h m = go (m a (inl refl))
  where
    go : (r ≡ a) ⊎ In r bs → map (Cmp Eq a) bs ≡ map (Cmp Eq r) (filter (λ b. not (atom_eq b r)) (a ∷ bs))
    go (inl e) =
        let left : filter (λ b. not (atom_eq b a)) bs ≡ bs = filter-all (λ b. not (atom_eq b a)) bs (λ b i. ap not (less-not-eq a b (each-in (λ y. atom_order a y ≡ Less) b bs c.0 i))) in
        ap (map (Cmp Eq a)) (sym left)
        ∙ ap (λ t. map (Cmp Eq a) (cond (not t) (a ∷ filter (λ b. not (atom_eq b a)) bs) (filter (λ b. not (atom_eq b a)) bs))) (sym (atom_eq-refl a))
        ∙ ap (λ z. map (Cmp Eq z) (filter (λ b. not (atom_eq b z)) (a ∷ bs))) (sym e)
    go (inr i) = let bad : true ≡ false = sym (ap is_lt (each-in (λ y. atom_order a y ≡ Less) r bs c.0 i)) ∙ h a (inl refl) in cc

-- the least atom of a class is its own
least-itself : (ls : List Lit) (a : Atom) → least ls (least ls a) ≡ least ls a
least-itself ls a = sym (atom_eq-true (least ls a) (least ls (least ls a)) (class-member ls a))

one-class : (ls : List Lit) (r : Atom) → first_equal (led_by ls (named ls) r) ≡ class_lits ls r
one-class ls r =
    others-left r (led_by ls (named ls) r) (filter-climbs (λ b. atom_eq (least ls b) r) (named ls) (climbs (named ls) (sorted-rising (equated ls))))
    (λ x i.
    let k = from-passing (λ b. atom_eq (least ls b) r) x (named ls) i in
    ap (atom_lt x) (sym (atom_eq-true (least ls x) r k.1)) ∙ class-first ls x x ((class-equivalence ls).refl x))
    (λ x i.
    let k = from-passing (λ b. atom_eq (least ls b) r) x (named ls) i in
    let e : least ls x ≡ r = atom_eq-true (least ls x) r k.1 in
    in-passing (λ b. atom_eq (least ls b) r) r (named ls) (in-sorted r (equated ls) (subst (λ z. In z (equated ls)) e (least-lead ls x (named-in ls x k.0))))
    (ap (λ z. atom_eq (least ls z) z) (sym e) ∙ ap (λ z. atom_eq z (least ls x)) (least-itself ls x) ∙ atom_eq-refl (least ls x)))

several-alone : (c : List Atom) → is_several c ≡ false → first_equal c ≡ []
several-alone [] h = refl
several-alone (a ∷ []) h = refl
several-alone (a ∷ (b ∷ bs)) h = cc

flat-classes : (ls : List Lit) (rs : List Atom) → flat_map first_equal (filter is_several (map (led_by ls (named ls)) rs)) ≡ flat_map (class_lits ls) rs
flat-classes ls [] = refl
flat-classes ls (r ∷ rs) = go (flat-classes ls rs) (cases_Bool (is_several (led_by ls (named ls) r)))
  where
    go : flat_map first_equal (filter is_several (map (led_by ls (named ls)) rs)) ≡ flat_map (class_lits ls) rs → (is_several (led_by ls (named ls) r) ≡ true) ⊎ (is_several (led_by ls (named ls) r) ≡ false) → flat_map first_equal (filter is_several (map (led_by ls (named ls)) (r ∷ rs))) ≡ class_lits ls r ++ flat_map (class_lits ls) rs
    go ih (inl t) =
        ap (λ b. flat_map first_equal (cond b (led_by ls (named ls) r ∷ filter is_several (map (led_by ls (named ls)) rs)) (filter is_several (map (led_by ls (named ls)) rs)))) t
        ∙ ap₂ (λ x y. x ++ y) (one-class ls r) ih
    go ih (inr f) =
        ap (λ b. flat_map first_equal (cond b (led_by ls (named ls) r ∷ filter is_several (map (led_by ls (named ls)) rs)) (filter is_several (map (led_by ls (named ls)) rs)))) f
        ∙ ih
        ∙ ap (λ x. x ++ flat_map (class_lits ls) rs) (sym (several-alone (led_by ls (named ls) r) f) ∙ one-class ls r)

pub classes-same : (ls : List Lit) → classes_equal ls ≡ same_lits ls
classes-same ls = flat-classes ls (named ls)
