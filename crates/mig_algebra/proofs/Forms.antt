-- The terms of `unique`, `apart` and `within` have no rows exactly where the invariant holds.
use Rattle.std.proofs.Common.{◌≡◌, ℕ, Bool, true, false, not, ◌&&◌, List, [], ◌∷◌, map, refl, sym, ap, ◌∙◌, append-nil, subst}
use Rattle.std.specs.Prelude.{filter, ◌==◌, ◌↔◌}
use Rattle.std.specs.List.{list_any}
use Rattle.std.proofs.lemmas.Bool.{eqb-true, eq-eqb}
use Rattle.mig_schema.specs.declared.tables.ColId.{ColId}
use Rattle.mig_schema.specs.declared.faults.Side.{Side}
use Rattle.mig_schema.specs.declared.programs.Op.TheVariants.{Eq}
use Rattle.mig_meaning.specs.declared.states.Placed.{Placed}
use Rattle.mig_meaning.specs.declared.states.State.{State}
use Rattle.mig_meaning.specs.Lists.{product, In}
use Rattle.mig_meaning.specs.Values.{value_eq}
use Rattle.mig_meaning.specs.Rows.{rows_of, value_at}
use Rattle.mig_meaning.specs.Holds.{IsUnique, IsApart, IsWithin}
use Rattle.mig_algebra.specs.declared.atoms.Atom.TheVariants as atom
use Rattle.mig_algebra.specs.declared.terms.Term.{Term}
use Rattle.mig_algebra.specs.Atoms.{oriented}
use Rattle.mig_algebra.specs.Meaning.{Setting, Env, choices, lit_true, lits_true, head_of, term_bag, terms_bag}
use Rattle.mig_algebra.specs.Obligations.{var_of, unique_term, apart_term, within_term}
use Rattle.mig_algebra.specs.Shown.{Shows}
use Rattle.mig_algebra.proofs.Truth.{oriented_true}
use Rattle.mig_algebra.proofs.Bodies.{any_true}
use Rattle.mig_algebra.proofs.Members.{in-one, one-in, in-two, two-in, any-in, in-any, none-passes, passes-none}

map-empty : {X Y : Type 0} (h : X → Y) (xs : List X) → map h xs ≡ [] → xs ≡ []
map-empty h [] e = refl
map-empty h (x ∷ xs) e = cc

-- a term without rows: no choice makes its literals true
module _ (s : Setting) (t : Term) where
  pub none-true : terms_bag s (t ∷ []) ≡ [] → (c : Env) → In c (choices s t.vars) → lits_true s c t.lits ≡ false
  none-true e c h = none-passes (λ d. lits_true s d t.lits) c (choices s t.vars) (map-empty (head_of s t.head) (filter (λ d. lits_true s d t.lits) (choices s t.vars)) (sym (append-nil (term_bag s t)) ∙ e)) h

  pub true-none : ((c : Env) → In c (choices s t.vars) → lits_true s c t.lits ≡ false) → terms_bag s (t ∷ []) ≡ []
  true-none h = append-nil (term_bag s t) ∙ ap (map (head_of s t.head)) (passes-none (λ d. lits_true s d t.lits) (choices s t.vars) h)

and_true : (a : Bool) → (a && true) ≡ a
and_true true = refl
and_true false = refl

false-of : (a : Bool) → (a ≡ true → ⊥) → a ≡ false
false-of true h = absurd (h refl)
false-of false h = refl

not-both : (a : Bool) → a ≡ true → a ≡ false → ⊥
not-both true h k = cc
not-both false h k = cc

-- ---- rows of one or two tables

module _ (s : Setting) (side : Side) (n : ℕ) (st : State) (sh : Shows s side n st) where
  rows-in : (t : ℕ) (p : Placed) → In p (rows_of st t) → In p (s.rows (var_of side n t))
  rows-in t p h = subst (In p) (sym (sh.by t)) h

  in-rows : (t : ℕ) (p : Placed) → In p (s.rows (var_of side n t)) → In p (rows_of st t)
  in-rows t p h = subst (In p) (sh.by t) h

  -- the comparison of two rows
  equal : (c d : ColId) (p q : Placed) → lit_true s (p ∷ (q ∷ [])) (oriented Eq (atom.Col 0 c.column) (atom.Col 1 d.column)) ≡ value_eq (value_at p c.column) (value_at q d.column)
  equal c d p q = oriented_true s (p ∷ (q ∷ [])) Eq (atom.Col 0 c.column) (atom.Col 1 d.column)

  -- ---- unique

  parted : (c : ColId) (p q : Placed) → lits_true s (p ∷ (q ∷ [])) (unique_term side n c).lits ≡ (not (p.id == q.id) && value_eq (value_at p c.column) (value_at q c.column))
  parted c p q = ap (λ b. not (p.id == q.id) && b) (and_true (lit_true s (p ∷ (q ∷ [])) (oriented Eq (atom.Col 0 c.column) (atom.Col 1 c.column))) ∙ equal c c p q)

  unique-of : (c : ColId) → terms_bag s (unique_term side n c ∷ []) ≡ [] → IsUnique st c
  unique-of c e = λ p q h k t.
      let f = none-true s (unique_term side n c) e (p ∷ (q ∷ [])) (in-two p q (s.rows (var_of side n c.table)) (s.rows (var_of side n c.table)) (rows-in c.table p h) (rows-in c.table q k)) in
      eqb-true p.id q.id (go (p.id == q.id) (value_eq (value_at p c.column) (value_at q c.column)) t (sym (parted c p q) ∙ f))
    where
      go : (x y : Bool) → y ≡ true → (not x && y) ≡ false → x ≡ true
      go true y t f = refl
      go false y t f = absurd (not-both y t f)

  of-unique : (c : ColId) → IsUnique st c → terms_bag s (unique_term side n c ∷ []) ≡ []
  of-unique c u = true-none s (unique_term side n c) (λ e h.
      let k = two-in e (s.rows (var_of side n c.table)) (s.rows (var_of side n c.table)) h in
      ap (λ d. lits_true s d (unique_term side n c).lits) k.2 ∙ parted c k.0 k.1
      ∙ go (k.0.id == k.1.id) (value_eq (value_at k.0 c.column) (value_at k.1 c.column)) (λ t. eq-eqb k.0.id k.1.id (u k.0 k.1 (in-rows c.table k.0 k.3) (in-rows c.table k.1 k.4) t)))
    where
      go : (x y : Bool) → (y ≡ true → x ≡ true) → (not x && y) ≡ false
      go true y h = refl
      go false true h = absurd (not-both false (h refl) refl)
      go false false h = refl

  -- the term of `unique` has no rows exactly where the column is unique
  pub unique_term-empty : (c : ColId) → (terms_bag s (unique_term side n c ∷ []) ≡ []) ↔ IsUnique st c
  unique_term-empty c = (unique-of c, of-unique c)

  -- ---- apart

  pub apart_term-empty : (c d : ColId) → (terms_bag s (apart_term side n c d ∷ []) ≡ []) ↔ IsApart st c d
  apart_term-empty c d = (apart-of, of-apart)
    where
      test : (p q : Placed) → lits_true s (p ∷ (q ∷ [])) (apart_term side n c d).lits ≡ value_eq (value_at p c.column) (value_at q d.column)
      test p q = and_true (lit_true s (p ∷ (q ∷ [])) (oriented Eq (atom.Col 0 c.column) (atom.Col 1 d.column))) ∙ equal c d p q

      apart-of : terms_bag s (apart_term side n c d ∷ []) ≡ [] → IsApart st c d
      apart-of e = λ p q h k.
          sym (test p q)
          ∙ none-true s (apart_term side n c d) e (p ∷ (q ∷ [])) (in-two p q (s.rows (var_of side n c.table)) (s.rows (var_of side n d.table)) (rows-in c.table p h) (rows-in d.table q k))

      of-apart : IsApart st c d → terms_bag s (apart_term side n c d ∷ []) ≡ []
      of-apart u = true-none s (apart_term side n c d) (λ e h.
          let k = two-in e (s.rows (var_of side n c.table)) (s.rows (var_of side n d.table)) h in
          ap (λ x. lits_true s x (apart_term side n c d).lits) k.2 ∙ test k.0 k.1 ∙ u k.0 k.1 (in-rows c.table k.0 k.3) (in-rows d.table k.1 k.4))

  -- ---- within

  among-one : (c d : ColId) (p q : Placed) → lits_true s (p ∷ (q ∷ [])) (oriented Eq (atom.Col 0 c.column) (atom.Col 1 d.column) ∷ []) ≡ value_eq (value_at p c.column) (value_at q d.column)
  among-one c d p q = and_true (lit_true s (p ∷ (q ∷ [])) (oriented Eq (atom.Col 0 c.column) (atom.Col 1 d.column))) ∙ equal c d p q

  lost : (c d : ColId) (p : Placed) → lits_true s (p ∷ []) (within_term side n c d).lits ≡ not (list_any (λ x. lits_true s (p ∷ x) (oriented Eq (atom.Col 0 c.column) (atom.Col 1 d.column) ∷ [])) (product (s.rows (var_of side n d.table) ∷ [])))
  lost c d p = and_true _ ∙ any_true s (p ∷ []) false (var_of side n d.table ∷ []) (oriented Eq (atom.Col 0 c.column) (atom.Col 1 d.column) ∷ [])

  within-of : (c d : ColId) → terms_bag s (within_term side n c d ∷ []) ≡ [] → IsWithin st c d
  within-of c d e = λ p h.
      let f = none-true s (within_term side n c d) e (p ∷ []) (in-one p (s.rows (var_of side n c.table)) (rows-in c.table p h)) in
      let k = any-in (λ x. lits_true s (p ∷ x) (oriented Eq (atom.Col 0 c.column) (atom.Col 1 d.column) ∷ [])) (product (s.rows (var_of side n d.table) ∷ [])) (denied _ (sym (lost c d p) ∙ f)) in
      let m = one-in k.0 (s.rows (var_of side n d.table)) k.1 in
      (m.0, in-rows d.table m.0 m.2, sym (among-one c d p m.0) ∙ ap (λ x. lits_true s (p ∷ x) (oriented Eq (atom.Col 0 c.column) (atom.Col 1 d.column) ∷ [])) (sym m.1) ∙ k.2)
    where
      denied : (x : Bool) → not x ≡ false → x ≡ true
      denied true h = refl
      denied false h = cc

  of-within : (c d : ColId) → IsWithin st c d → terms_bag s (within_term side n c d ∷ []) ≡ []
  of-within c d u = true-none s (within_term side n c d) (λ e h.
      let k = one-in e (s.rows (var_of side n c.table)) h in
      let q = u k.0 (in-rows c.table k.0 k.2) in
      ap (λ x. lits_true s x (within_term side n c d).lits) k.1 ∙ lost c d k.0
      ∙ ap not (in-any (λ x. lits_true s (k.0 ∷ x) (oriented Eq (atom.Col 0 c.column) (atom.Col 1 d.column) ∷ [])) (q.0 ∷ []) (product (s.rows (var_of side n d.table) ∷ [])) (in-one q.0 (s.rows (var_of side n d.table)) (rows-in d.table q.0 q.1)) (among-one c d k.0 q.0 ∙ q.2)))

  pub within_term-empty : (c d : ColId) → (terms_bag s (within_term side n c d ∷ []) ≡ []) ↔ IsWithin st c d
  within_term-empty c d = (within-of c d, of-within c d)
