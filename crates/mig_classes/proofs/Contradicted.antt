-- A contradictory list is nowhere true.
use Rattle.std.proofs.Common.{◌≡◌, ℕ, Bool, true, false, cond, not, ◌&&◌, ◌||◌, List, [], ◌∷◌, ◌++◌, length, refl, sym, ap, ap₂, ◌∙◌, inl, inr, ⊎_elim}
use Rattle.std.specs.Prelude.{◌==◌}
use Rattle.std.specs.List.{list_any, list_all}
use Rattle.std.proofs.lemmas.Bool.{and_parts, or_cases, eqb-true, eq-eqb, both_ways, not-true, false_from_ne_true}
use Rattle.mig_schema.specs.declared.values.Value.{Value}
use Rattle.mig_schema.specs.declared.programs.Op.{Op}
use Rattle.mig_schema.specs.declared.programs.Op.TheVariants.{Eq, Ne, Lt, Le, Gt, Ge}
use Rattle.mig_meaning.specs.Lists.{In}
use Rattle.mig_meaning.specs.Values.{value_eq, value_le, compares}
use Rattle.mig_meaning.proofs.Bags.{value_eq-refl}
use Rattle.mig_algebra.specs.declared.atoms.Var.{Var}
use Rattle.mig_algebra.specs.declared.atoms.Atom.{Atom}
use Rattle.mig_algebra.specs.declared.literals.Lit.{Lit, Cmp, Other, Any'}
use Rattle.mig_algebra.specs.Atoms.{atom_lt, oriented}
use Rattle.mig_algebra.specs.Meaning.{Setting, Env, choices, value_of, row_at, comes_out, lit_true, row_true, lits_true}
use Rattle.mig_algebra.proofs.Members.{any-in}
use Rattle.mig_algebra.proofs.Truth.{oriented_true}
use Rattle.mig_classes.specs.Classes.{equated}
use Rattle.mig_classes.specs.Given.{constants_compare, keys_differ, some_of_classes, negated, has_complement, complement, is_denied, parts_itself, never_equal, contradictory}
use Rattle.mig_classes.specs.Keys.{KeysAreFresh, label_within, labels_within}
use Rattle.mig_classes.specs.Laws.{ComplementLaw, ContradictionLaw}
use Rattle.mig_classes.proofs.Classed.{one_class-value}
use Rattle.mig_classes.proofs.FreshKeys.{keys_differ-values}
use Rattle.mig_classes.proofs.Giving.{all-in, equated-labels, members, constants-true, given-true}

-- ---- complements

not-not : (b : Bool) → not (not b) ≡ b
not-not true = refl
not-not false = refl

-- the operator that is true where another is not
pub negated-true : (op : Op) (u v : Value) → compares (negated op) u v ≡ not (compares op u v)
negated-true Eq u v = refl
negated-true Ne u v = sym (not-not (value_eq u v))
negated-true Lt u v = sym (not-not (value_le v u))
negated-true Le u v = refl
negated-true Gt u v = sym (not-not (value_le u v))
negated-true Ge u v = refl

-- the comparison that is true where another is not
pub negated-lit : (s : Setting) (e : Env) (op : Op) (a b : Atom) → lit_true s e (oriented (negated op) a b) ≡ not (lit_true s e (Cmp op a b))
negated-lit s e op a b = oriented_true s e (negated op) a b ∙ negated-true op (value_of s e a) (value_of s e b)

-- a body that is held where another is not
pub turned-body : (held b : Bool) → comes_out (not held) b ≡ not (comes_out held b)
turned-body true b = refl
turned-body false b = sym (not-not b)

-- a complement is true where the literal is not
complement-true : (s : Setting) (e : Env) (l : Lit) → has_complement l ≡ true → lit_true s e (complement l) ≡ not (lit_true s e l)
complement-true s e (Cmp op a b) h = negated-lit s e op a b
complement-true s e (Other x y) h = cc
complement-true s e (Any' held vars n row) h = turned-body held (list_any (λ c. row_true s (e ++ c) row) (choices s vars))

pub complement-law : ComplementLaw
complement-law = record { by = complement-true }

-- the labels of an oriented comparison are those of its sides
pub oriented-labels : (n : ℕ) (op : Op) (a b : Atom) → label_within n a ≡ true → label_within n b ≡ true → labels_within n (oriented op a b) ≡ true
oriented-labels n Eq a b p q = go (atom_lt b a)
  where
    go : (t : Bool) → labels_within n (cond t (Cmp Eq b a) (Cmp Eq a b)) ≡ true
    go true = ap₂ (λ x y. x && y) q p
    go false = ap₂ (λ x y. x && y) p q
oriented-labels n Ne a b p q = go (atom_lt b a)
  where
    go : (t : Bool) → labels_within n (cond t (Cmp Ne b a) (Cmp Ne a b)) ≡ true
    go true = ap₂ (λ x y. x && y) q p
    go false = ap₂ (λ x y. x && y) p q
oriented-labels n Lt a b p q = ap₂ (λ x y. x && y) p q
oriented-labels n Le a b p q = ap₂ (λ x y. x && y) p q
oriented-labels n Gt a b p q = ap₂ (λ x y. x && y) q p
oriented-labels n Ge a b p q = ap₂ (λ x y. x && y) q p

-- ---- contradictions

-- a literal of a true list is true
pub true-in : (s : Setting) (e : Env) (l : Lit) (ls : List Lit) → lits_true s e ls ≡ true → In l ls → lit_true s e l ≡ true
true-in s e l [] h i = absurd i
true-in s e l (m ∷ ls) h (inl q) = ap (lit_true s e) q ∙ (and_parts (lit_true s e m) (lits_true s e ls) h).0
true-in s e l (m ∷ ls) h (inr i) = true-in s e l ls (and_parts (lit_true s e m) (lits_true s e ls) h).1 i

module _ (s : Setting) (scope : List Var) (e : Env) (ls : List Lit) (fresh : KeysAreFresh s) (choice : In e (choices s scope)) (labels : list_all (labels_within (length s.given.keys)) ls ≡ true) (truth : lits_true s e ls ≡ true) where
  -- no class holds two values that are never equal
  never : (a b : Atom) → label_within (length s.given.keys) a ≡ true → label_within (length s.given.keys) b ≡ true → value_of s e a ≡ value_of s e b → never_equal scope a b ≡ true → ⊥
  never a b la lb same h = ⊎_elim constants keys (or_cases (constants_compare Ne a b) (keys_differ scope a b) h)
    where
      constants : constants_compare Ne a b ≡ true → ⊥
      constants t =
          let k = not-true (value_eq (value_of s e a) (value_of s e b)) (constants-true s e Ne a b t) in
          both_ways (value_eq (value_of s e a) (value_of s e b)) k (ap (λ v. value_eq v (value_of s e b)) same ∙ value_eq-refl (value_of s e b))

      keys : keys_differ scope a b ≡ true → ⊥
      keys t = keys_differ-values s scope e fresh choice a b la lb t same

  no-clash : (a : Atom) → label_within (length s.given.keys) a ≡ true → some_of_classes ls (never_equal scope) a a ≡ true → ⊥
  no-clash a la h =
      let m = members ls (length s.given.keys) labels (never_equal scope) a a la la h in
      never m.0 m.1 m.4 m.5 (sym (one_class-value s e ls a m.0 truth m.2) ∙ one_class-value s e ls a m.1 truth m.3) m.6

  -- none of its comparisons is denied
  no-denial : (l : Lit) → labels_within (length s.given.keys) l ≡ true → lit_true s e l ≡ true → is_denied scope ls l ≡ true → ⊥
  no-denial (Cmp op a b) h t d =
      let k = and_parts (label_within (length s.given.keys) a) (label_within (length s.given.keys) b) h in
      let other = given-true s e ls truth scope fresh choice labels (oriented (negated op) a b) (oriented-labels (length s.given.keys) (negated op) a b k.0 k.1) d in
      both_ways (lit_true s e (Cmp op a b)) (not-true (lit_true s e (Cmp op a b)) (sym (negated-lit s e op a b) ∙ other)) t
  no-denial (Other x y) h t d = cc
  no-denial (Any' held vars n row) h t d = cc

  -- no row is parted from itself
  no-parting : (l : Lit) → lit_true s e l ≡ true → parts_itself l ≡ true → ⊥
  no-parting (Cmp op a b) t p = cc
  no-parting (Other x y) t p =
      let same : (row_at e x).id ≡ (row_at e y).id = ap (λ n. (row_at e n).id) (eqb-true x y p) in
      both_ways ((row_at e x).id == (row_at e y).id) (not-true ((row_at e x).id == (row_at e y).id) t) (eq-eqb (row_at e x).id (row_at e y).id same)
  no-parting (Any' held vars n row) t p = cc

  pub no-contradiction : contradictory scope ls ≡ true → ⊥
  no-contradiction h =
      ⊎_elim clash (λ t. ⊎_elim denial parting (or_cases (list_any (is_denied scope ls) ls) (list_any parts_itself ls) t))
      (or_cases (list_any (λ a. some_of_classes ls (never_equal scope) a a) (equated ls)) (list_any (is_denied scope ls) ls || list_any parts_itself ls) h)
    where
      clash : list_any (λ a. some_of_classes ls (never_equal scope) a a) (equated ls) ≡ true → ⊥
      clash t =
          let k = any-in (λ a. some_of_classes ls (never_equal scope) a a) (equated ls) t in
          no-clash k.0 (all-in (label_within (length s.given.keys)) k.0 (equated ls) (equated-labels (length s.given.keys) ls labels) k.1) k.2

      denial : list_any (is_denied scope ls) ls ≡ true → ⊥
      denial t =
          let k = any-in (is_denied scope ls) ls t in
          no-denial k.0 (all-in (labels_within (length s.given.keys)) k.0 ls labels k.1) (true-in s e k.0 ls truth k.1) k.2

      parting : list_any parts_itself ls ≡ true → ⊥
      parting t = let k = any-in parts_itself ls t in no-parting k.0 (true-in s e k.0 ls truth k.1) k.2

-- a contradictory list is true at no choice
pub contradictory-false : (s : Setting) (scope : List Var) (e : Env) (ls : List Lit) → KeysAreFresh s → In e (choices s scope) → list_all (labels_within (length s.given.keys)) ls ≡ true → contradictory scope ls ≡ true → lits_true s e ls ≡ false
contradictory-false s scope e ls fresh choice labels c = false_from_ne_true (lits_true s e ls) (λ t. no-contradiction s scope e ls fresh choice labels t c)

pub contradiction-law : ContradictionLaw
contradiction-law = record { by = contradictory-false }
