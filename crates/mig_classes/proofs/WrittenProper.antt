-- A proper term stays proper where one of its variables is written away, by an atom of its kind for each column.
use Rattle.std.proofs.Common.{◌≡◌, ◌≢◌, ℕ, zero, suc, ◌+◌, ◌<◌, true, false, cond, not, ◌&&◌, ◌||◌, List, [], ◌∷◌, ◌++◌, map, length, take, drop, Option, Some, None, refl, sym, ap, ap₂, ◌∙◌, arith, inl, inr, ◌⊎◌, subst, append_assoc, length-append}
use Rattle.std.specs.Prelude.{◌==◌, nat_lt, slice_get}
use Rattle.std.specs.List.{list_all}
use Rattle.std.proofs.lemmas.Bool.{and_parts, not-true, eqb-false, ltb-true}
use Rattle.std.proofs.lemmas.Bool.Decides.{eqb_tells, nat_tests}
use Rattle.mig_schema.specs.declared.tables.Column.{Column}
use Rattle.mig_schema.specs.declared.tables.Kind.{Kind}
use Rattle.mig_schema.specs.Columns.{columns_of}
use Rattle.mig_meaning.specs.Lists.{Each}
use Rattle.mig_algebra.specs.declared.atoms.Var.{Var}
use Rattle.mig_algebra.specs.declared.atoms.Atom.{Atom}
use Rattle.mig_algebra.specs.declared.atoms.Atom.TheVariants.{Int, Text, Param, Fresh, Col}
use Rattle.mig_algebra.specs.declared.terms.Term.{Term}
use Rattle.mig_algebra.specs.Rename.{below, is_not, renumbered}
use Rattle.mig_algebra.specs.Proper.{Sides, schema_of, var_fits, column_kind, atom_kind, same_side, other_fits, IsProperTerm}
use Rattle.mig_algebra.proofs.Lists.{each-drop_middle, each-all, all-each}
use Rattle.mig_algebra.proofs.RenamedFits.{Fits, others_fit, lits_with-fit, lits_with-oriented, head_with-kinds}
use Rattle.mig_classes.specs.Forests.{atom_of}
use Rattle.mig_classes.specs.Substituted.{written, substituted, column_within, is_of_others, MayGo, FitsColumns}
use Rattle.mig_classes.proofs.Written.{all-at, below-within}

-- ---- items by their numbers

-- the items before and behind the one of a number
pub parts-at : {X : Type 0} (xs : List X) (i : ℕ) (x : X) → slice_get xs i ≡ Some x → (xs ≡ take i xs ++ (x ∷ drop (i + 1) xs)) × (length (take i xs) ≡ i)
parts-at [] i x h = cc
parts-at (y ∷ ys) zero x h = let e : y ≡ x = cc in (ap (λ z. z ∷ ys) e, refl)
parts-at (y ∷ ys) (suc i) x h =
    let k = parts-at ys i x h in
    let e : suc (i + 1) ≡ suc i + 1 = omega arith in
    (ap (λ l. y ∷ l) k.0 ∙ ap (λ n. y ∷ (take i ys ++ (x ∷ drop n (y ∷ ys)))) e, ap suc k.1)

-- an item of the first list
get-front : {X : Type 0} (xs ys : List X) (v : ℕ) → v < length xs → slice_get (xs ++ ys) v ≡ slice_get xs v
get-front [] ys v h = absurd (omega (arith, h))
get-front (x ∷ xs) ys zero h = refl
get-front (x ∷ xs) ys (suc v) h = get-front xs ys v (omega (arith, h))

-- the item in the middle
get-middle : {X : Type 0} (xs : List X) (u : X) (ys : List X) (v : ℕ) → length xs ≡ v → slice_get (xs ++ (u ∷ ys)) v ≡ Some u
get-middle [] u ys v h = ap (slice_get (u ∷ ys)) (sym h)
get-middle (x ∷ xs) u ys v h = ap (slice_get (x ∷ (xs ++ (u ∷ ys)))) (sym h) ∙ get-middle xs u ys (length xs) refl

first-below : (a b : ℕ) → a ≡ 0 → below a (suc b) ≡ b
first-below a b z = grind (arith, nat_tests)

zero-below : (a b : ℕ) → a ≡ suc b → below a zero ≡ 0
zero-below a b z = grind (arith, nat_tests)

next-below : (a b c : ℕ) → a ≡ suc b → suc c ≢ a → below a (suc c) ≡ suc (below b c)
next-below a b c z n = grind (arith, nat_tests)

-- another item
get-other : {X : Type 0} (xs : List X) (u : X) (ys : List X) (v i : ℕ) → length xs ≡ v → i ≢ v → slice_get (xs ++ (u ∷ ys)) i ≡ slice_get (xs ++ ys) (below v i)
get-other [] u ys v zero h ne = absurd (ne h)
get-other [] u ys v (suc j) h ne = ap (slice_get ys) (sym (first-below v j (sym h)))
get-other (x ∷ xs) u ys v zero h ne = ap (slice_get (x ∷ (xs ++ ys))) (sym (zero-below v (length xs) (sym h)))
get-other (x ∷ xs) u ys v (suc j) h ne =
    get-other xs u ys (length xs) j refl (λ q. ne (ap suc q ∙ h)) ∙ ap (slice_get (x ∷ (xs ++ ys))) (sym (next-below v (length xs) j (sym h) ne))

below-same : (v a b : ℕ) → a ≢ v → b ≢ v → (a == b) ≡ (below v a == below v b)
below-same v a b h i = grind (arith, nat_tests)

-- `Other` looks at whether both numbers are one, and no more
other-numbers : (a b a' b' : ℕ) (x y : Option Var) → (a == b) ≡ (a' == b') → other_fits a b x y ≡ other_fits a' b' x y
other-numbers a b a' b' None y h = refl
other-numbers a b a' b' (Some v) None h = refl
other-numbers a b a' b' (Some v) (Some w) h = ap (λ t. same_side v.side w.side && (v.table == w.table && (not t || v.stage == 0))) h

-- ---- kinds

-- a column that has a kind is there
column-there : (p : Sides) (u : Var) (c : ℕ) (k : Kind) → column_kind p (Some u) c ≡ Some k → (col : Column) × (slice_get (columns_of (schema_of p u.side) u.table) c ≡ Some col) × (col.kind ≡ k)
column-there p u c k e = go (slice_get (columns_of (schema_of p u.side) u.table) c) refl
  where
    go : (o : Option Column) → slice_get (columns_of (schema_of p u.side) u.table) c ≡ o → (col : Column) × (slice_get (columns_of (schema_of p u.side) u.table) c ≡ Some col) × (col.kind ≡ k)
    go None g =
        let none : column_kind p (Some u) c ≡ None = rw g refl in
        let bad : None ≡ Some k = sym none ∙ e in cc
    go (Some col) g =
        let some : column_kind p (Some u) c ≡ Some col.kind = rw g refl in
        let same : Some col.kind ≡ Some k = sym some ∙ e in
        (col, g, cc)

-- the atom for a column has its kind
kind-at : (f : Atom → Option Kind) (atoms : List Atom) (cols : List Column) (c : ℕ) (col : Column) → map f atoms ≡ map (λ (x : Column). Some x.kind) cols → slice_get cols c ≡ Some col → (c < length atoms) × (f (atom_of atoms c) ≡ Some col.kind)
kind-at f atoms [] c col h g = cc
kind-at f [] (x ∷ cols) c col h g = cc
kind-at f (a ∷ atoms) (x ∷ cols) zero col h g =
    let same : x ≡ col = cc in
    let first : f a ≡ Some x.kind = cc in
    (omega arith, first ∙ ap (λ (y : Column). Some y.kind) same)
kind-at f (a ∷ atoms) (x ∷ cols) (suc c) col h g =
    let rest : map f atoms ≡ map (λ (y : Column). Some y.kind) cols = cc in
    let k = kind-at f atoms cols c col rest g in
    (omega (arith, k.0), k.1)

module _ (p : Sides) (xs : List Var) (u : Var) (ys : List Var) (i : ℕ) (atoms : List Atom) (at : length xs ≡ i) (others : list_all (is_of_others i (length (xs ++ (u ∷ ys)))) atoms ≡ true) (kinds : map (atom_kind p (xs ++ (u ∷ ys))) atoms ≡ map (λ (c : Column). Some c.kind) (columns_of (schema_of p u.side) u.table)) where
  -- another variable
  var-still : (d : List Var) (v : ℕ) → v ≢ i → slice_get ((xs ++ (u ∷ ys)) ++ d) v ≡ slice_get ((xs ++ ys) ++ d) (below i v)
  var-still d v ne =
      ap (λ l. slice_get l v) (append_assoc xs (u ∷ ys) d) ∙ get-other xs u (ys ++ d) i v at ne ∙ ap (λ l. slice_get l (below i v)) (sym (append_assoc xs ys d))

  -- an atom of the others, in its new number
  lowered-kind : (d : List Var) (y : Atom) (k : Kind) → is_of_others i (length (xs ++ (u ∷ ys))) y ≡ true → atom_kind p (xs ++ (u ∷ ys)) y ≡ Some k → atom_kind p ((xs ++ ys) ++ d) (renumbered (below i) y) ≡ Some k
  lowered-kind d (Int n) k h e = e
  lowered-kind d (Text n) k h e = e
  lowered-kind d (Param n) k h e = e
  lowered-kind d (Fresh n) k h e = e
  lowered-kind d (Col w c) k h e =
      let j = and_parts (nat_lt w (length (xs ++ (u ∷ ys)))) (not (w == i)) h in
      let ne = eqb-false w i (not-true (w == i) j.1) in
      let long : length (xs ++ (u ∷ ys)) ≡ length xs + length ys + 1 = omega (arith, length-append xs (u ∷ ys)) in
      let l : w < length xs + length ys + 1 = omega (arith, ltb-true w (length (xs ++ (u ∷ ys))) j.0, long) in
      let in' : below i w < length (xs ++ ys) = omega (arith, below-within i w (length xs) (length ys) at l ne, length-append xs ys) in
      ap (λ o. column_kind p o c) (get-front (xs ++ ys) d (below i w) in' ∙ sym (get-other xs u ys i w at ne)) ∙ e

  column-written : (d : List Var) (v c : ℕ) (k : Kind) → ((v == i) ≡ true) × (v ≡ i) ⊎ ((v == i) ≡ false) × (v ≢ i) → column_kind p (slice_get ((xs ++ (u ∷ ys)) ++ d) v) c ≡ Some k → atom_kind p ((xs ++ ys) ++ d) (written i atoms (Col v c)) ≡ Some k
  column-written d v c k (inl q) e =
      let own : slice_get ((xs ++ (u ∷ ys)) ++ d) v ≡ Some u = ap (λ l. slice_get l v) (append_assoc xs (u ∷ ys) d) ∙ get-middle xs u (ys ++ d) v (at ∙ sym q.1) in
      let there = column-there p u c k (ap (λ o. column_kind p o c) (sym own) ∙ e) in
      let its = kind-at (atom_kind p (xs ++ (u ∷ ys))) atoms (columns_of (schema_of p u.side) u.table) c there.0 kinds there.1 in
      ap (λ b. atom_kind p ((xs ++ ys) ++ d) (cond b (renumbered (below i) (atom_of atoms c)) (Col (below i v) c))) q.0
      ∙ lowered-kind d (atom_of atoms c) k (all-at (is_of_others i (length (xs ++ (u ∷ ys)))) atoms c _ others its.0) (its.1 ∙ ap Some there.2)
  column-written d v c k (inr q) e =
      ap (λ b. atom_kind p ((xs ++ ys) ++ d) (cond b (renumbered (below i) (atom_of atoms c)) (Col (below i v) c))) q.0
      ∙ ap (λ o. column_kind p o c) (sym (var-still d v q.1)) ∙ e

  atom-written : (d : List Var) (x : Atom) (k : Kind) → atom_kind p ((xs ++ (u ∷ ys)) ++ d) x ≡ Some k → atom_kind p ((xs ++ ys) ++ d) (written i atoms x) ≡ Some k
  atom-written d (Int n) k e = e
  atom-written d (Text n) k e = e
  atom-written d (Param n) k e = e
  atom-written d (Fresh n) k e = e
  atom-written d (Col v c) k e = column-written d v c k (eqb_tells v i) e

  others-written : (d : List Var) (a b : ℕ) → a ≢ i → b ≢ i → others_fit ((xs ++ (u ∷ ys)) ++ d) a b ≡ true → others_fit ((xs ++ ys) ++ d) (below i a) (below i b) ≡ true
  others-written d a b h k e =
      sym (other-numbers a b (below i a) (below i b) (slice_get ((xs ++ ys) ++ d) (below i a)) (slice_get ((xs ++ ys) ++ d) (below i b)) (below-same i a b h k))
      ∙ ap₂ (other_fits a b) (sym (var-still d a h)) (sym (var-still d b k)) ∙ e

  pub fits-written : Fits p (xs ++ (u ∷ ys)) (xs ++ ys) (column_within i (length atoms)) (is_not i) (written i atoms) (below i)
  fits-written = record {
    atoms = λ d x k t e. atom-written d x k e;
    others = λ d a b h k e. others-written d a b (eqb-false a i (not-true (a == i) h)) (eqb-false b i (not-true (b == i) k)) e;
  }

-- a term without one of its variables is proper
pub substituted-proper : (i : ℕ) (atoms : List Atom) (t : Term) → MayGo i atoms t → (p : Sides) (ks : List Kind) → IsProperTerm p ks t → FitsColumns p i atoms t → IsProperTerm p ks (substituted i atoms t)
substituted-proper i atoms t m p ks h f =
    let front = take i t.vars in
    let rest = drop (i + 1) t.vars in
    let k = parts-at t.vars i f.variable f.is in
    let fits = fits-written p front f.variable rest i atoms k.1 (ap (λ l. list_all (is_of_others i (length l)) atoms) (sym k.0) ∙ m.others) (ap (λ l. map (atom_kind p l) atoms) (sym k.0) ∙ f.kinds) in
    let fits' = subst (λ l. Fits p l (front ++ rest) (column_within i (length atoms)) (is_not i) (written i atoms) (below i)) (sym k.0) fits in
    record {
      vars = all-each (var_fits p) (front ++ rest) (each-drop_middle (λ x. var_fits p x ≡ true) front f.variable rest (subst (Each (λ x. var_fits p x ≡ true)) k.0 (each-all (var_fits p) t.vars h.vars)));
      fits = lits_with-fit p (column_within i (length atoms)) (is_not i) (written i atoms) (below i) t.vars (front ++ rest) fits' t.lits m.lits h.fits;
      oriented = lits_with-oriented (written i atoms) (below i) t.lits;
      head = head_with-kinds p (column_within i (length atoms)) (is_not i) (written i atoms) (below i) t.vars (front ++ rest) fits' t.head ks m.head h.head;
    }
