-- To be in one class is the least equivalence that holds of both sides of each equality, so the atoms of a class have one value.
use Rattle.std.proofs.Common.{◌≡◌, Bool, true, false, cond, ◌||◌, List, [], ◌∷◌, refl, sym, ap, ap₂, ◌∙◌, inl, inr, ◌⊎◌}
use Rattle.std.specs.Cmp.{IsEquivalence}
use Rattle.std.specs.Ordering.{is_eq}
use Rattle.std.specs.declared.cmp.Ordering.{Ordering}
use Rattle.std.specs.declared.cmp.Ordering.TheVariants.{Less, Equal, Greater}
use Rattle.std.proofs.lemmas.Bool.{cases_Bool, and_parts}
use Rattle.std.proofs.lemmas.Cmp.{tied_itself}
use Rattle.mig_schema.specs.declared.programs.Op.TheVariants.{Eq, Ne, Lt, Le, Gt, Ge}
use Rattle.mig_meaning.specs.Values.{value_eq}
use Rattle.mig_meaning.proofs.Bags.{value_eq-true, value_eq-refl}
use Rattle.mig_algebra.specs.declared.atoms.Atom.{Atom}
use Rattle.mig_algebra.specs.declared.literals.Lit.{Lit, Cmp, Other, Any'}
use Rattle.mig_algebra.specs.Atoms.{atom_order, atom_lt}
use Rattle.mig_algebra.specs.Meaning.{Setting, Env, value_of, lit_true, lits_true}
use Rattle.mig_algebra.proofs.OrderLaws.{atom_total, atom_tie}
use Rattle.mig_algebra.proofs.Truth.{value_eq-swap}
use Rattle.mig_classes.specs.Classes.{atom_eq, lesser, merged, least, one_class, all_equated}

-- ---- atoms

eq-true : (o : Ordering) → is_eq o ≡ true → o ≡ Equal
eq-true Less h = cc
eq-true Equal h = refl
eq-true Greater h = cc

-- atoms that are one
pub atom_eq-true : (a b : Atom) → atom_eq a b ≡ true → a ≡ b
atom_eq-true a b h = atom_tie a b (eq-true (atom_order a b) h)

-- an atom and itself
pub atom_eq-refl : (a : Atom) → atom_eq a a ≡ true
atom_eq-refl a = ap is_eq (tied_itself atom_total a)

-- what holds of both atoms holds of the lesser one
lesser-either : (P : Atom → Type 0) (a b : Atom) → P a → P b → P (lesser a b)
lesser-either P a b p q = go (atom_lt b a)
  where
    go : (t : Bool) → P (cond t b a)
    go true = q
    go false = p

-- ---- equivalences

module _ {A : Type 0} (same : A → A → Bool) (q : IsEquivalence same) where
  -- the other way round
  pub same-turned : (a b : A) → same a b ≡ true → same b a ≡ true
  same-turned a b h = q.symm b a ∙ h

  -- through a third
  pub same-through : (a b c : A) → same a b ≡ true → same b c ≡ true → same a c ≡ true
  same-through a b c h k = q.congr a b c h ∙ k

-- a test of what a function gives
image-equivalence : (f : Atom → Atom) → IsEquivalence (λ a b. atom_eq (f a) (f b))
image-equivalence f = record {
  refl = λ a. atom_eq-refl (f a);
  symm = λ a b. go a b (cases_Bool (atom_eq (f a) (f b))) (cases_Bool (atom_eq (f b) (f a)));
  congr = λ a b c h. ap (λ x. atom_eq x (f c)) (atom_eq-true (f a) (f b) h);
}
  where
    over : (a b : Atom) → atom_eq (f a) (f b) ≡ true → atom_eq (f b) (f a) ≡ true
    over a b t = ap (λ x. atom_eq x (f a)) (sym (atom_eq-true (f a) (f b) t)) ∙ atom_eq-refl (f a)

    go : (a b : Atom) → (atom_eq (f a) (f b) ≡ true) ⊎ (atom_eq (f a) (f b) ≡ false) → (atom_eq (f b) (f a) ≡ true) ⊎ (atom_eq (f b) (f a) ≡ false) → atom_eq (f a) (f b) ≡ atom_eq (f b) (f a)
    go a b (inl t) k = t ∙ sym (over a b t)
    go a b (inr n) (inl t) = over b a t ∙ sym t
    go a b (inr n) (inr m) = n ∙ sym m

-- to be in one class is one
pub class-equivalence : (ls : List Lit) → IsEquivalence (one_class ls)
class-equivalence ls = image-equivalence (least ls)

-- so is to have one value
value-equivalence : (s : Setting) (e : Env) → IsEquivalence (λ a b. value_eq (value_of s e a) (value_of s e b))
value-equivalence s e = record {
  refl = λ a. value_eq-refl (value_of s e a);
  symm = λ a b. value_eq-swap (value_of s e a) (value_of s e b);
  congr = λ a b c h. ap (λ v. value_eq v (value_of s e c)) (value_eq-true (value_of s e a) (value_of s e b) h);
}

-- ---- both sides of each equality

-- a test that passes where another one does
equated-weaker : (r q : Atom → Atom → Bool) → ((a b : Atom) → r a b ≡ true → q a b ≡ true) → (ls : List Lit) → all_equated r ls → all_equated q ls
equated-weaker r q w [] h = tt
equated-weaker r q w (Cmp Eq x y ∷ ls) h = (w x y h.0, equated-weaker r q w ls h.1)
equated-weaker r q w (Cmp Ne x y ∷ ls) h = equated-weaker r q w ls h
equated-weaker r q w (Cmp Lt x y ∷ ls) h = equated-weaker r q w ls h
equated-weaker r q w (Cmp Le x y ∷ ls) h = equated-weaker r q w ls h
equated-weaker r q w (Cmp Gt x y ∷ ls) h = equated-weaker r q w ls h
equated-weaker r q w (Cmp Ge x y ∷ ls) h = equated-weaker r q w ls h
equated-weaker r q w (Other x y ∷ ls) h = equated-weaker r q w ls h
equated-weaker r q w (Any' held vars n row ∷ ls) h = equated-weaker r q w ls h

or-left : (a b : Bool) → a ≡ true → (a || b) ≡ true
or-left a b h = ap (λ x. x || b) h

or-right : (a b : Bool) → b ≡ true → (a || b) ≡ true
or-right true b h = refl
or-right false b h = h

-- two classes become one
pub merged-left : (u v : Atom) → merged u v u ≡ lesser u v
merged-left u v = ap (λ b. cond b (lesser u v) u) (or-left (atom_eq u u) (atom_eq u v) (atom_eq-refl u))

pub merged-right : (u v : Atom) → merged u v v ≡ lesser u v
merged-right u v = ap (λ b. cond b (lesser u v) v) (or-right (atom_eq v u) (atom_eq v v) (atom_eq-refl v))

-- what was one class stays one
merged-still : (u v a b : Atom) → atom_eq a b ≡ true → atom_eq (merged u v a) (merged u v b) ≡ true
merged-still u v a b h = ap (λ z. atom_eq (merged u v z) (merged u v b)) (atom_eq-true a b h) ∙ atom_eq-refl (merged u v b)

merged-one : (u v : Atom) → atom_eq (merged u v u) (merged u v v) ≡ true
merged-one u v = ap₂ atom_eq (merged-left u v) (merged-right u v) ∙ atom_eq-refl (lesser u v)

-- both sides of each equality are in one class
pub class-equated : (ls : List Lit) → all_equated (one_class ls) ls
class-equated [] = tt
class-equated (Cmp Eq x y ∷ ls) = (
  merged-one (least ls x) (least ls y),
  equated-weaker (one_class ls) (one_class (Cmp Eq x y ∷ ls)) (λ a b h. merged-still (least ls x) (least ls y) (least ls a) (least ls b) h) ls (class-equated ls),
)
class-equated (Cmp Ne x y ∷ ls) = class-equated ls
class-equated (Cmp Lt x y ∷ ls) = class-equated ls
class-equated (Cmp Le x y ∷ ls) = class-equated ls
class-equated (Cmp Gt x y ∷ ls) = class-equated ls
class-equated (Cmp Ge x y ∷ ls) = class-equated ls
class-equated (Other x y ∷ ls) = class-equated ls
class-equated (Any' held vars n row ∷ ls) = class-equated ls

-- ---- the least equivalence

module _ (same : Atom → Atom → Bool) (q : IsEquivalence same) where
  merged-same : (l : Atom → Atom) (x y : Atom) → same x y ≡ true → ((b : Atom) → same (l b) b ≡ true) → (a : Atom) → same (merged (l x) (l y) (l a)) a ≡ true
  merged-same l x y xy h a = go (cases_Bool (atom_eq (l a) (l x))) (cases_Bool (atom_eq (l a) (l y)))
    where
      -- what is in one class with a is the same
      near : (z : Atom) → atom_eq (l a) (l z) ≡ true → same z a ≡ true
      near z t =
          same-through same q z (l z) a (same-turned same q (l z) z (h z))
          (ap (λ w. same w a) (sym (atom_eq-true (l a) (l z) t)) ∙ h a)

      both : (z : Atom) → same x z ≡ true → same y z ≡ true → same z a ≡ true → same (lesser (l x) (l y)) a ≡ true
      both z xz yz za =
          lesser-either (λ w. same w a ≡ true) (l x) (l y)
          (same-through same q (l x) z a (same-through same q (l x) x z (h x) xz) za)
          (same-through same q (l y) z a (same-through same q (l y) y z (h y) yz) za)

      go : (atom_eq (l a) (l x) ≡ true) ⊎ (atom_eq (l a) (l x) ≡ false) → (atom_eq (l a) (l y) ≡ true) ⊎ (atom_eq (l a) (l y) ≡ false) → same (merged (l x) (l y) (l a)) a ≡ true
      go (inl t) k =
          ap (λ b. same (cond b (lesser (l x) (l y)) (l a)) a) (or-left (atom_eq (l a) (l x)) (atom_eq (l a) (l y)) t)
          ∙ both x (q.refl x) (same-turned same q x y xy) (near x t)
      go (inr n) (inl t) =
          ap (λ b. same (cond b (lesser (l x) (l y)) (l a)) a) (or-right (atom_eq (l a) (l x)) (atom_eq (l a) (l y)) t)
          ∙ both y xy (q.refl y) (near y t)
      go (inr n) (inr m) = ap₂ (λ b c. same (cond (b || c) (lesser (l x) (l y)) (l a)) a) n m ∙ h a

  -- an atom and the least of its class are the same
  pub least-same : (ls : List Lit) → all_equated same ls → (a : Atom) → same (least ls a) a ≡ true
  least-same [] h a = q.refl a
  least-same (Cmp Eq x y ∷ ls) h a = merged-same (least ls) x y h.0 (least-same ls h.1) a
  least-same (Cmp Ne x y ∷ ls) h a = least-same ls h a
  least-same (Cmp Lt x y ∷ ls) h a = least-same ls h a
  least-same (Cmp Le x y ∷ ls) h a = least-same ls h a
  least-same (Cmp Gt x y ∷ ls) h a = least-same ls h a
  least-same (Cmp Ge x y ∷ ls) h a = least-same ls h a
  least-same (Other x y ∷ ls) h a = least-same ls h a
  least-same (Any' held vars n row ∷ ls) h a = least-same ls h a

  -- so are the atoms of a class
  pub class-least : (ls : List Lit) → all_equated same ls → (a b : Atom) → one_class ls a b ≡ true → same a b ≡ true
  class-least ls h a b k =
      same-through same q a (least ls a) b (same-turned same q (least ls a) a (least-same ls h a))
      (ap (λ z. same z b) (atom_eq-true (least ls a) (least ls b) k) ∙ least-same ls h b)

-- ---- values

-- both sides of each equality of a true list have one value
true-equated : (s : Setting) (e : Env) (ls : List Lit) → lits_true s e ls ≡ true → all_equated (λ a b. value_eq (value_of s e a) (value_of s e b)) ls
true-equated s e [] h = tt
true-equated s e (Cmp Eq x y ∷ ls) h = let k = and_parts (lit_true s e (Cmp Eq x y)) (lits_true s e ls) h in (k.0, true-equated s e ls k.1)
true-equated s e (Cmp Ne x y ∷ ls) h = true-equated s e ls (and_parts (lit_true s e (Cmp Ne x y)) (lits_true s e ls) h).1
true-equated s e (Cmp Lt x y ∷ ls) h = true-equated s e ls (and_parts (lit_true s e (Cmp Lt x y)) (lits_true s e ls) h).1
true-equated s e (Cmp Le x y ∷ ls) h = true-equated s e ls (and_parts (lit_true s e (Cmp Le x y)) (lits_true s e ls) h).1
true-equated s e (Cmp Gt x y ∷ ls) h = true-equated s e ls (and_parts (lit_true s e (Cmp Gt x y)) (lits_true s e ls) h).1
true-equated s e (Cmp Ge x y ∷ ls) h = true-equated s e ls (and_parts (lit_true s e (Cmp Ge x y)) (lits_true s e ls) h).1
true-equated s e (Other x y ∷ ls) h = true-equated s e ls (and_parts (lit_true s e (Other x y)) (lits_true s e ls) h).1
true-equated s e (Any' held vars n row ∷ ls) h = true-equated s e ls (and_parts (lit_true s e (Any' held vars n row)) (lits_true s e ls) h).1

-- the atoms of a class have one value
pub one_class-value : (s : Setting) (e : Env) (ls : List Lit) (a b : Atom) → lits_true s e ls ≡ true → one_class ls a b ≡ true → value_of s e a ≡ value_of s e b
one_class-value s e ls a b h k =
    value_eq-true (value_of s e a) (value_of s e b)
    (class-least (λ a b. value_eq (value_of s e a) (value_of s e b)) (value-equivalence s e) ls (true-equated s e ls h) a b k)
