-- What a list gives is true where the list is.
use Rattle.std.proofs.Common.{◌≡◌, ◌≢◌, ℕ, Bool, true, false, cond, not, ◌&&◌, ◌||◌, List, [], ◌∷◌, length, Option, Some, None, refl, sym, ap, ap₂, ◌∙◌, arith, inl, inr, ⊎_elim, ◌⊎◌, ℤ, pos, negsuc}
use Rattle.std.specs.Prelude.{◌==◌, int_le, filter}
use Rattle.std.specs.List.{list_any, list_all}
use Rattle.std.proofs.lemmas.Bool.{cases_Bool, and_parts, or_cases}
use Rattle.std.proofs.lemmas.Bool.Decides.{nat_tests}
use Rattle.mig_schema.specs.declared.values.Value.{Value}
use Rattle.mig_schema.specs.declared.values.Value.TheVariants as value
use Rattle.mig_schema.specs.declared.programs.Op.{Op}
use Rattle.mig_schema.specs.declared.programs.Op.TheVariants.{Eq, Ne, Lt, Le, Gt, Ge}
use Rattle.mig_meaning.specs.Lists.{In}
use Rattle.mig_meaning.specs.Values.{value_eq, value_le, compares}
use Rattle.mig_meaning.proofs.Bags.{value_eq-true, value_eq-refl}
use Rattle.mig_algebra.specs.declared.atoms.Var.{Var}
use Rattle.mig_algebra.specs.declared.atoms.Atom.{Atom}
use Rattle.mig_algebra.specs.declared.atoms.Atom.TheVariants.{Int, Text, Param, Fresh, Col}
use Rattle.mig_algebra.specs.declared.literals.Lit.{Lit, Cmp, Other, Any'}
use Rattle.mig_algebra.specs.Meaning.{Setting, Env, choices, value_of, lit_true, lits_true}
use Rattle.mig_algebra.specs.Orders.{op_rank}
use Rattle.mig_algebra.proofs.Truth.{value_eq-swap}
use Rattle.mig_classes.specs.Classes.{one_class, equated}
use Rattle.mig_classes.specs.Given.{constant, both_compare, constants_compare, keys_differ, class_of, some_of_classes, is_reflexive, is_symmetric, is_unequal, says, by_class, by_constants, by_keys, given, is_given}
use Rattle.mig_classes.specs.Keys.{KeysAreFresh, label_within, labels_within}
use Rattle.mig_classes.specs.Laws.{GivenLaw}
use Rattle.mig_classes.proofs.Classed.{one_class-value}
use Rattle.mig_classes.proofs.FreshKeys.{keys_differ-values}

-- ---- members of classes

-- an item that a filter leaves and that passes a test
pub any-filtered : {X : Type 0} (p q : X → Bool) (xs : List X) → list_any p (filter q xs) ≡ true → (x : X) × In x xs × (q x ≡ true) × (p x ≡ true)
any-filtered p q [] h = cc
any-filtered p q (x ∷ xs) h = go (any-filtered p q xs) (cases_Bool (q x))
  where
    more : ((y : _) × In y xs × (q y ≡ true) × (p y ≡ true)) → (y : _) × In y (x ∷ xs) × (q y ≡ true) × (p y ≡ true)
    more k = (k.0, inr k.1, k.2, k.3)

    go : (list_any p (filter q xs) ≡ true → (y : _) × In y xs × (q y ≡ true) × (p y ≡ true)) → (q x ≡ true) ⊎ (q x ≡ false) → (y : _) × In y (x ∷ xs) × (q y ≡ true) × (p y ≡ true)
    go ih (inl t) =
        let k : (p x || list_any p (filter q xs)) ≡ true = ap (λ b. list_any p (cond b (x ∷ filter q xs) (filter q xs))) (sym t) ∙ h in
        ⊎_elim (λ u. (x, inl refl, t, u)) (λ u. more (ih u)) (or_cases (p x) (list_any p (filter q xs)) k)
    go ih (inr n) =
        let k : list_any p (filter q xs) ≡ true = ap (λ b. list_any p (cond b (x ∷ filter q xs) (filter q xs))) (sym n) ∙ h in
        more (ih k)

-- a test that all items pass
pub all-in : {X : Type 0} (p : X → Bool) (x : X) (xs : List X) → list_all p xs ≡ true → In x xs → p x ≡ true
all-in p x [] h i = absurd i
all-in p x (y ∷ ys) h (inl e) = ap p e ∙ (and_parts (p y) (list_all p ys) h).0
all-in p x (y ∷ ys) h (inr i) = all-in p x ys (and_parts (p y) (list_all p ys) h).1 i

-- the labels of equalities have keys where those of the literals do
pub equated-labels : (n : ℕ) (ls : List Lit) → list_all (labels_within n) ls ≡ true → list_all (label_within n) (equated ls) ≡ true
equated-labels n [] h = refl
equated-labels n (Cmp Eq x y ∷ ls) h =
    let k = and_parts (label_within n x && label_within n y) (list_all (labels_within n) ls) h in
    let j = and_parts (label_within n x) (label_within n y) k.0 in
    ap₂ (λ a b. a && b) j.0 (ap₂ (λ a b. a && b) j.1 (equated-labels n ls k.1))
equated-labels n (Cmp Ne x y ∷ ls) h = equated-labels n ls (and_parts (labels_within n (Cmp Ne x y)) (list_all (labels_within n) ls) h).1
equated-labels n (Cmp Lt x y ∷ ls) h = equated-labels n ls (and_parts (labels_within n (Cmp Lt x y)) (list_all (labels_within n) ls) h).1
equated-labels n (Cmp Le x y ∷ ls) h = equated-labels n ls (and_parts (labels_within n (Cmp Le x y)) (list_all (labels_within n) ls) h).1
equated-labels n (Cmp Gt x y ∷ ls) h = equated-labels n ls (and_parts (labels_within n (Cmp Gt x y)) (list_all (labels_within n) ls) h).1
equated-labels n (Cmp Ge x y ∷ ls) h = equated-labels n ls (and_parts (labels_within n (Cmp Ge x y)) (list_all (labels_within n) ls) h).1
equated-labels n (Other x y ∷ ls) h = equated-labels n ls (and_parts (labels_within n (Other x y)) (list_all (labels_within n) ls) h).1
equated-labels n (Any' held vars m row ∷ ls) h = equated-labels n ls (and_parts (labels_within n (Any' held vars m row)) (list_all (labels_within n) ls) h).1

module _ (ls : List Lit) (n : ℕ) (labels : list_all (labels_within n) ls ≡ true) where
  -- an atom of a class that has a label with a key
  member-label : (a x : Atom) → label_within n a ≡ true → In x (a ∷ equated ls) → label_within n x ≡ true
  member-label a x h (inl e) = ap (label_within n) e ∙ h
  member-label a x h (inr i) = all-in (label_within n) x (equated ls) (equated-labels n ls labels) i

  -- two atoms of two classes that pass a test, with labels that have keys
  pub members : (test : Atom → Atom → Bool) (a b : Atom) → label_within n a ≡ true → label_within n b ≡ true → some_of_classes ls test a b ≡ true
      → (x : Atom) × (y : Atom) × (one_class ls a x ≡ true) × (one_class ls b y ≡ true) × (label_within n x ≡ true) × (label_within n y ≡ true) × (test x y ≡ true)
  members test a b la lb h =
      let i = any-filtered (λ x. list_any (test x) (class_of ls b)) (one_class ls a) (a ∷ equated ls) h in
      let j = any-filtered (test i.0) (one_class ls b) (b ∷ equated ls) i.3 in
      (i.0, j.0, i.2, j.2, member-label a i.0 la i.1, member-label b j.0 lb j.1, j.3)

-- ---- operators

int_le-refl : (i : ℤ) → int_le i i ≡ true
int_le-refl (pos n) = grind (arith, nat_tests)
int_le-refl (negsuc n) = grind (arith, nat_tests)

value_le-refl : (v : Value) → value_le v v ≡ true
value_le-refl (value.Int i) = int_le-refl i
value_le-refl (value.Text t) = refl
value_le-refl (value.Key k) = refl

-- an operator that is true of each value and itself
reflexive-true : (op : Op) (v : Value) → is_reflexive op ≡ true → compares op v v ≡ true
reflexive-true Eq v h = value_eq-refl v
reflexive-true Ne v h = cc
reflexive-true Lt v h = cc
reflexive-true Le v h = value_le-refl v
reflexive-true Gt v h = cc
reflexive-true Ge v h = cc

-- one whose sides may be exchanged
symmetric-true : (op : Op) (u v : Value) → is_symmetric op ≡ true → compares op u v ≡ compares op v u
symmetric-true Eq u v h = value_eq-swap u v
symmetric-true Ne u v h = ap not (value_eq-swap u v)
symmetric-true Lt u v h = cc
symmetric-true Le u v h = cc
symmetric-true Gt u v h = cc
symmetric-true Ge u v h = cc

-- operators of one place among the operators
pub op-same : (a b : Op) → (op_rank a == op_rank b) ≡ true → a ≡ b
op-same Eq Eq h = refl
op-same Ne Ne h = refl
op-same Lt Lt h = refl
op-same Le Le h = refl
op-same Gt Gt h = refl
op-same Ge Ge h = refl
op-same a b h = cc

-- values that differ are unequal
pub differ-unequal : (u v : Value) → u ≢ v → value_eq u v ≡ false
differ-unequal u v ne = go (cases_Bool (value_eq u v))
  where
    go : (value_eq u v ≡ true) ⊎ (value_eq u v ≡ false) → value_eq u v ≡ false
    go (inl t) = absurd (ne (value_eq-true u v t))
    go (inr f) = f

-- of an inequality
unequal-true : (op : Op) (u v : Value) → is_unequal op ≡ true → u ≢ v → compares op u v ≡ true
unequal-true Eq u v h ne = cc
unequal-true Ne u v h ne = ap not (differ-unequal u v ne)
unequal-true Lt u v h ne = cc
unequal-true Le u v h ne = cc
unequal-true Gt u v h ne = cc
unequal-true Ge u v h ne = cc

-- a constant has its value at each choice
constant-value : (s : Setting) (e : Env) (a : Atom) (v : Value) → constant a ≡ Some v → value_of s e a ≡ v
constant-value s e (Int i) v h = cc
constant-value s e (Text t) v h = cc
constant-value s e (Param p) v h = cc
constant-value s e (Fresh n) v h = cc
constant-value s e (Col w c) v h = cc

-- two constants compare as their values do
pub constants-true : (s : Setting) (e : Env) (op : Op) (a b : Atom) → constants_compare op a b ≡ true → compares op (value_of s e a) (value_of s e b) ≡ true
constants-true s e op a b h = go (constant a) (constant b) refl refl h
  where
    go : (o p : Option Value) → constant a ≡ o → constant b ≡ p → both_compare op o p ≡ true → compares op (value_of s e a) (value_of s e b) ≡ true
    go None p is is' t = cc
    go (Some u) None is is' t = cc
    go (Some u) (Some v) is is' t = ap₂ (compares op) (constant-value s e a u is) (constant-value s e b v is') ∙ t

-- ---- what a list gives

module _ (s : Setting) (e : Env) (all : List Lit) (truth : lits_true s e all ≡ true) where
  -- the comparison of two atoms is that of two in their classes
  pub by-classes : (op : Op) (a b x y : Atom) → one_class all a x ≡ true → one_class all b y ≡ true → compares op (value_of s e a) (value_of s e b) ≡ compares op (value_of s e x) (value_of s e y)
  by-classes op a b x y p q = ap₂ (compares op) (one_class-value s e all a x truth p) (one_class-value s e all b y truth q)

  -- a literal that says so
  one-says : (op : Op) (a b : Atom) (l : Lit) → lit_true s e l ≡ true → says all op a b l ≡ true → compares op (value_of s e a) (value_of s e b) ≡ true
  one-says op a b (Cmp op' x y) t h =
      let k = and_parts (op_rank op == op_rank op') (one_class all a x && one_class all b y || is_symmetric op && (one_class all a y && one_class all b x)) h in
      let said : compares op (value_of s e x) (value_of s e y) ≡ true = ap (λ o. compares o (value_of s e x) (value_of s e y)) (op-same op op' k.0) ∙ t in
      ⊎_elim (straight said) (turned said) (or_cases (one_class all a x && one_class all b y) (is_symmetric op && (one_class all a y && one_class all b x)) k.1)
    where
      straight : compares op (value_of s e x) (value_of s e y) ≡ true → (one_class all a x && one_class all b y) ≡ true → compares op (value_of s e a) (value_of s e b) ≡ true
      straight u p = let r = and_parts (one_class all a x) (one_class all b y) p in by-classes op a b x y r.0 r.1 ∙ u

      turned : compares op (value_of s e x) (value_of s e y) ≡ true → (is_symmetric op && (one_class all a y && one_class all b x)) ≡ true → compares op (value_of s e a) (value_of s e b) ≡ true
      turned u p =
          let q = and_parts (is_symmetric op) (one_class all a y && one_class all b x) p in
          let r = and_parts (one_class all a y) (one_class all b x) q.1 in
          by-classes op a b y x r.0 r.1 ∙ symmetric-true op (value_of s e y) (value_of s e x) q.0 ∙ u
  one-says op a b (Other x y) t h = cc
  one-says op a b (Any' held vars n row) t h = cc

  some-says : (op : Op) (a b : Atom) (ls : List Lit) → lits_true s e ls ≡ true → list_any (says all op a b) ls ≡ true → compares op (value_of s e a) (value_of s e b) ≡ true
  some-says op a b [] t h = cc
  some-says op a b (l ∷ ls) t h =
      let k = and_parts (lit_true s e l) (lits_true s e ls) t in
      ⊎_elim (one-says op a b l k.0) (some-says op a b ls k.1) (or_cases (says all op a b l) (list_any (says all op a b) ls) h)

  module _ (scope : List Var) (fresh : KeysAreFresh s) (choice : In e (choices s scope)) (labels : list_all (labels_within (length s.given.keys)) all ≡ true) where
    -- a comparison that the list gives
    pub given-compares : (op : Op) (a b : Atom) → label_within (length s.given.keys) a ≡ true → label_within (length s.given.keys) b ≡ true → given scope all op a b ≡ true → compares op (value_of s e a) (value_of s e b) ≡ true
    given-compares op a b la lb h =
        ⊎_elim same
        (λ t. ⊎_elim constants
        (λ u. ⊎_elim keys (some-says op a b all truth) (or_cases (by_keys scope all op a b) (list_any (says all op a b) all) u))
        (or_cases (by_constants all op a b) (by_keys scope all op a b || list_any (says all op a b) all) t))
        (or_cases (by_class all op a b) (by_constants all op a b || (by_keys scope all op a b || list_any (says all op a b) all)) h)
      where
        same : by_class all op a b ≡ true → compares op (value_of s e a) (value_of s e b) ≡ true
        same t =
            let k = and_parts (is_reflexive op) (one_class all a b) t in
            ap (λ v. compares op v (value_of s e b)) (one_class-value s e all a b truth k.1) ∙ reflexive-true op (value_of s e b) k.0

        constants : by_constants all op a b ≡ true → compares op (value_of s e a) (value_of s e b) ≡ true
        constants t =
            let m = members all (length s.given.keys) labels (constants_compare op) a b la lb t in
            by-classes op a b m.0 m.1 m.2 m.3 ∙ constants-true s e op m.0 m.1 m.6

        keys : by_keys scope all op a b ≡ true → compares op (value_of s e a) (value_of s e b) ≡ true
        keys t =
            let k = and_parts (is_unequal op) (some_of_classes all (keys_differ scope) a b) t in
            let m = members all (length s.given.keys) labels (keys_differ scope) a b la lb k.1 in
            by-classes op a b m.0 m.1 m.2 m.3 ∙ unequal-true op (value_of s e m.0) (value_of s e m.1) k.0 (keys_differ-values s scope e fresh choice m.0 m.1 m.4 m.5 m.6)

    -- a literal that the list gives
    pub given-true : (l : Lit) → labels_within (length s.given.keys) l ≡ true → is_given scope all l ≡ true → lit_true s e l ≡ true
    given-true (Cmp op a b) h g =
        let k = and_parts (label_within (length s.given.keys) a) (label_within (length s.given.keys) b) h in
        given-compares op a b k.0 k.1 g
    given-true (Other x y) h g = cc
    given-true (Any' held vars n row) h g = cc

pub given-law : GivenLaw
given-law = record { by = λ s scope e ls l fresh choice labels label g t. given-true s e ls t scope fresh choice labels l label g }
