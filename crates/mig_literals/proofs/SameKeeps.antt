-- A term with its classes written once has the same bag.
use Rattle.std.proofs.Common.{◌≡◌, ℕ, ◌+◌, Bool, true, false, cond, not, ◌||◌, List, [], ◌∷◌, ◌++◌, length, refl, sym, ap, ap₂, ◌∙◌, subst, inl, inr, ◌⊎◌}
use Rattle.std.specs.Prelude.{filter}
use Rattle.std.specs.Cmp.{IsEquivalence}
use Rattle.std.specs.List.{list_all}
use Rattle.std.proofs.lemmas.Bool.{cases_Bool, and_parts, and_from, both_ways, false_from_ne_true, ltb-true}
use Rattle.mig_schema.specs.declared.values.Value.{Value}
use Rattle.mig_schema.specs.declared.programs.Op.TheVariants.{Eq, Ne, Lt, Le, Gt, Ge}
use Rattle.mig_meaning.specs.Lists.{In}
use Rattle.mig_meaning.specs.Rows.{value_at}
use Rattle.mig_meaning.specs.Values.{value_eq}
use Rattle.mig_meaning.proofs.Bags.{value_eq-true, value_eq-refl}
use Rattle.mig_meaning.proofs.Lists.{in-passing, from-passing}
use Rattle.mig_meaning.proofs.Renamings.{in-map, map-in}
use Rattle.mig_meaning.proofs.StateLaw.{each-in}
use Rattle.mig_algebra.specs.declared.atoms.Atom.{Atom}
use Rattle.mig_algebra.specs.declared.atoms.Atom.TheVariants.{Int, Text, Param, Fresh, Col}
use Rattle.mig_algebra.specs.declared.literals.Lit.{Lit, Cmp, Other, Any'}
use Rattle.mig_algebra.specs.declared.terms.Term.{Term}
use Rattle.mig_algebra.specs.Atoms.{atom_order}
use Rattle.mig_algebra.specs.Meaning.{Setting, Env, choices, value_of, lit_true, lits_true, head_of}
use Rattle.mig_algebra.specs.Rename.{lits_with}
use Rattle.mig_algebra.specs.Scope.{atom_scoped}
use Rattle.mig_algebra.proofs.InOrder.{each-sorted_once}
use Rattle.mig_algebra.proofs.Members.{in-flat_map, flat_map-in}
use Rattle.mig_algebra.proofs.Moved.{any_id, all-lits}
use Rattle.mig_algebra.proofs.Sums.{when, total-each}
use Rattle.mig_algebra.proofs.Truth.{Reads, lits_with-true, head-reads, lits-append, value_eq-swap}
use Rattle.mig_algebra.proofs.Without.{any_atom, all-any_atom, row-before}
use Rattle.mig_classes.specs.Classes.{atom_eq, least, equated, named, led_by, all_equated, lesser}
use Rattle.mig_classes.proofs.Classed.{atom_eq-true, atom_eq-refl, class-equated, least-same}
use Rattle.mig_classes.proofs.Contradicted.{true-in}
use Rattle.mig_classes.proofs.Rising.{in-sorted}
use Rattle.mig_replacing.specs.Given.{IsSound, lit_within}
use Rattle.mig_replacing.specs.Replaced.{SameAmong}
use Rattle.mig_replacing.proofs.Reached.{each-from, choice-length}
use Rattle.mig_replacing.proofs.Replacing.{same-among}
use Rattle.mig_literals.specs.Same.{class_lits, same_lits, unequated, kept, term_same}

-- ---- the atoms of equalities

-- an atom that equalities name is one of theirs
pub named-in : (ls : List Lit) (a : Atom) → In a (named ls) → In a (equated ls)
named-in ls a i = each-in (λ x. In x (equated ls)) a (named ls) (each-sorted_once atom_order (λ x. In x (equated ls)) (equated ls) (each-from (λ x. In x (equated ls)) (equated ls) (λ x j. j))) i

-- the least atom of a class is the atom itself, or one of theirs
least-in : (ls : List Lit) (a : Atom) → (least ls a ≡ a) ⊎ In (least ls a) (equated ls)
least-in [] a = inl refl
least-in (Cmp Eq x y ∷ ls) a = go (atom_eq (least ls a) (least ls x) || atom_eq (least ls a) (least ls y)) (least-in ls a) (one x (inl refl) (least-in ls x)) (one y (inr (inl refl)) (least-in ls y))
  where
    one : (z : Atom) → In z (x ∷ (y ∷ equated ls)) → (least ls z ≡ z) ⊎ In (least ls z) (equated ls) → In (least ls z) (x ∷ (y ∷ equated ls))
    one z i (inl e) = subst (λ q. In q (x ∷ (y ∷ equated ls))) (sym e) i
    one z i (inr j) = inr (inr j)

    either : (b : Bool) (u v : Atom) → In u (x ∷ (y ∷ equated ls)) → In v (x ∷ (y ∷ equated ls)) → In (cond b v u) (x ∷ (y ∷ equated ls))
    either true u v i j = j
    either false u v i j = i

    go : (b : Bool) → (least ls a ≡ a) ⊎ In (least ls a) (equated ls) → In (least ls x) (x ∷ (y ∷ equated ls)) → In (least ls y) (x ∷ (y ∷ equated ls)) → (cond b (lesser (least ls x) (least ls y)) (least ls a) ≡ a) ⊎ In (cond b (lesser (least ls x) (least ls y)) (least ls a)) (x ∷ (y ∷ equated ls))
    go true k i j = inr (either _ (least ls x) (least ls y) i j)
    go false (inl e) i j = inl e
    go false (inr k) i j = inr (inr (inr k))
least-in (Cmp Ne x y ∷ ls) a = least-in ls a
least-in (Cmp Lt x y ∷ ls) a = least-in ls a
least-in (Cmp Le x y ∷ ls) a = least-in ls a
least-in (Cmp Gt x y ∷ ls) a = least-in ls a
least-in (Cmp Ge x y ∷ ls) a = least-in ls a
least-in (Other x y ∷ ls) a = least-in ls a
least-in (Any' held vars n row ∷ ls) a = least-in ls a

-- so one of theirs where the atom is
pub least-lead : (ls : List Lit) (a : Atom) → In a (equated ls) → In (least ls a) (equated ls)
least-lead ls a i = go (least-in ls a)
  where
    go : (least ls a ≡ a) ⊎ In (least ls a) (equated ls) → In (least ls a) (equated ls)
    go (inl e) = subst (λ q. In q (equated ls)) (sym e) i
    go (inr j) = j

-- a literal of the classes
pub same-in : (ls : List Lit) (l : Lit) → In l (same_lits ls) → (b : Atom) × In b (equated ls) × (l ≡ Cmp Eq (least ls b) b)
same-in ls l i =
    let k = flat_map-in (class_lits ls) l (named ls) i in
    let m = in-map (Cmp Eq k.0) l (filter (λ b. not (atom_eq b k.0)) (led_by ls (named ls) k.0)) k.2 in
    let f = from-passing (λ b. not (atom_eq b k.0)) m.0 (led_by ls (named ls) k.0) m.2 in
    let g = from-passing (λ b. atom_eq (least ls b) k.0) m.0 (named ls) f.0 in
    (m.0, named-in ls m.0 g.0, m.1 ∙ ap (λ r. Cmp Eq r m.0) (sym (atom_eq-true (least ls m.0) k.0 g.1)))

-- each atom that is not the least of its class has one
in-same : (ls : List Lit) (a : Atom) → In a (equated ls) → atom_eq a (least ls a) ≡ false → In (Cmp Eq (least ls a) a) (same_lits ls)
in-same ls a i h =
    in-flat_map (class_lits ls) (least ls a) (Cmp Eq (least ls a) a) (named ls) (in-sorted (least ls a) (equated ls) (least-lead ls a i))
    (map-in (Cmp Eq (least ls a)) a (filter (λ b. not (atom_eq b (least ls a))) (led_by ls (named ls) (least ls a)))
    (in-passing (λ b. not (atom_eq b (least ls a))) a (led_by ls (named ls) (least ls a))
    (in-passing (λ b. atom_eq (least ls b) (least ls a)) a (named ls) (in-sorted a (equated ls) i) (atom_eq-refl (least ls a)))
    (ap not h)))

-- ---- values

value-equivalence : (s : Setting) (e : Env) → IsEquivalence (λ a b. value_eq (value_of s e a) (value_of s e b))
value-equivalence s e = record {
  refl = λ a. value_eq-refl (value_of s e a);
  symm = λ a b. value_eq-swap (value_of s e a) (value_of s e b);
  congr = λ a b c h. ap (λ v. value_eq v (value_of s e c)) (value_eq-true (value_of s e a) (value_of s e b) h);
}

equal-values : (u v : Value) → u ≡ v → value_eq u v ≡ true
equal-values u v q = ap (value_eq u) (sym q) ∙ value_eq-refl u

-- both sides of each equality have one value at a choice
abbrev Equal : Setting → Env → List Lit → Type 0
Equal s e ls = all_equated (λ a b. value_eq (value_of s e a) (value_of s e b)) ls

module _ (s : Setting) where
  true-equal : (e : Env) (ls : List Lit) → lits_true s e ls ≡ true → Equal s e ls
  true-equal e [] h = tt
  true-equal e (Cmp Eq x y ∷ ls) h = let k = and_parts (lit_true s e (Cmp Eq x y)) (lits_true s e ls) h in (k.0, true-equal e ls k.1)
  true-equal e (Cmp Ne x y ∷ ls) h = true-equal e ls (and_parts (lit_true s e (Cmp Ne x y)) (lits_true s e ls) h).1
  true-equal e (Cmp Lt x y ∷ ls) h = true-equal e ls (and_parts (lit_true s e (Cmp Lt x y)) (lits_true s e ls) h).1
  true-equal e (Cmp Le x y ∷ ls) h = true-equal e ls (and_parts (lit_true s e (Cmp Le x y)) (lits_true s e ls) h).1
  true-equal e (Cmp Gt x y ∷ ls) h = true-equal e ls (and_parts (lit_true s e (Cmp Gt x y)) (lits_true s e ls) h).1
  true-equal e (Cmp Ge x y ∷ ls) h = true-equal e ls (and_parts (lit_true s e (Cmp Ge x y)) (lits_true s e ls) h).1
  true-equal e (Other x y ∷ ls) h = true-equal e ls (and_parts (lit_true s e (Other x y)) (lits_true s e ls) h).1
  true-equal e (Any' held vars n row ∷ ls) h = true-equal e ls (and_parts (lit_true s e (Any' held vars n row)) (lits_true s e ls) h).1

  -- the other literals are true too
  true-rest : (e : Env) (ls : List Lit) → lits_true s e ls ≡ true → lits_true s e (unequated ls) ≡ true
  true-rest e [] h = refl
  true-rest e (Cmp Eq x y ∷ ls) h = true-rest e ls (and_parts (lit_true s e (Cmp Eq x y)) (lits_true s e ls) h).1
  true-rest e (Cmp Ne x y ∷ ls) h = let k = and_parts (lit_true s e (Cmp Ne x y)) (lits_true s e ls) h in and_from (lit_true s e (Cmp Ne x y)) (lits_true s e (unequated ls)) k.0 (true-rest e ls k.1)
  true-rest e (Cmp Lt x y ∷ ls) h = let k = and_parts (lit_true s e (Cmp Lt x y)) (lits_true s e ls) h in and_from (lit_true s e (Cmp Lt x y)) (lits_true s e (unequated ls)) k.0 (true-rest e ls k.1)
  true-rest e (Cmp Le x y ∷ ls) h = let k = and_parts (lit_true s e (Cmp Le x y)) (lits_true s e ls) h in and_from (lit_true s e (Cmp Le x y)) (lits_true s e (unequated ls)) k.0 (true-rest e ls k.1)
  true-rest e (Cmp Gt x y ∷ ls) h = let k = and_parts (lit_true s e (Cmp Gt x y)) (lits_true s e ls) h in and_from (lit_true s e (Cmp Gt x y)) (lits_true s e (unequated ls)) k.0 (true-rest e ls k.1)
  true-rest e (Cmp Ge x y ∷ ls) h = let k = and_parts (lit_true s e (Cmp Ge x y)) (lits_true s e ls) h in and_from (lit_true s e (Cmp Ge x y)) (lits_true s e (unequated ls)) k.0 (true-rest e ls k.1)
  true-rest e (Other x y ∷ ls) h = let k = and_parts (lit_true s e (Other x y)) (lits_true s e ls) h in and_from (lit_true s e (Other x y)) (lits_true s e (unequated ls)) k.0 (true-rest e ls k.1)
  true-rest e (Any' held vars n row ∷ ls) h = let k = and_parts (lit_true s e (Any' held vars n row)) (lits_true s e ls) h in and_from (lit_true s e (Any' held vars n row)) (lits_true s e (unequated ls)) k.0 (true-rest e ls k.1)

  -- both together are all
  both-true : (e : Env) (ls : List Lit) → Equal s e ls → lits_true s e (unequated ls) ≡ true → lits_true s e ls ≡ true
  both-true e [] q h = refl
  both-true e (Cmp Eq x y ∷ ls) q h = and_from (lit_true s e (Cmp Eq x y)) (lits_true s e ls) q.0 (both-true e ls q.1 h)
  both-true e (Cmp Ne x y ∷ ls) q h = let k = and_parts (lit_true s e (Cmp Ne x y)) (lits_true s e (unequated ls)) h in and_from (lit_true s e (Cmp Ne x y)) (lits_true s e ls) k.0 (both-true e ls q k.1)
  both-true e (Cmp Lt x y ∷ ls) q h = let k = and_parts (lit_true s e (Cmp Lt x y)) (lits_true s e (unequated ls)) h in and_from (lit_true s e (Cmp Lt x y)) (lits_true s e ls) k.0 (both-true e ls q k.1)
  both-true e (Cmp Le x y ∷ ls) q h = let k = and_parts (lit_true s e (Cmp Le x y)) (lits_true s e (unequated ls)) h in and_from (lit_true s e (Cmp Le x y)) (lits_true s e ls) k.0 (both-true e ls q k.1)
  both-true e (Cmp Gt x y ∷ ls) q h = let k = and_parts (lit_true s e (Cmp Gt x y)) (lits_true s e (unequated ls)) h in and_from (lit_true s e (Cmp Gt x y)) (lits_true s e ls) k.0 (both-true e ls q k.1)
  both-true e (Cmp Ge x y ∷ ls) q h = let k = and_parts (lit_true s e (Cmp Ge x y)) (lits_true s e (unequated ls)) h in and_from (lit_true s e (Cmp Ge x y)) (lits_true s e ls) k.0 (both-true e ls q k.1)
  both-true e (Other x y ∷ ls) q h = let k = and_parts (lit_true s e (Other x y)) (lits_true s e (unequated ls)) h in and_from (lit_true s e (Other x y)) (lits_true s e ls) k.0 (both-true e ls q k.1)
  both-true e (Any' held vars n row ∷ ls) q h = let k = and_parts (lit_true s e (Any' held vars n row)) (lits_true s e (unequated ls)) h in and_from (lit_true s e (Any' held vars n row)) (lits_true s e ls) k.0 (both-true e ls q k.1)

  -- a list is true where each literal is
  pub true-each : (e : Env) (ls : List Lit) → ((l : Lit) → In l ls → lit_true s e l ≡ true) → lits_true s e ls ≡ true
  true-each e [] h = refl
  true-each e (l ∷ ls) h = and_from (lit_true s e l) (lits_true s e ls) (h l (inl refl)) (true-each e ls (λ m i. h m (inr i)))

  -- an atom has its value with more rows behind
  value-further : (e c : Env) (a : Atom) → atom_scoped (length e) a ≡ true → value_of s (e ++ c) a ≡ value_of s e a
  value-further e c (Int i) h = refl
  value-further e c (Text t) h = refl
  value-further e c (Param p) h = refl
  value-further e c (Fresh k) h = refl
  value-further e c (Col v d) h = ap (λ r. value_at r d) (row-before e c v (ltb-true v (length e) h))

  equal-further : (e c : Env) (ls : List Lit) → list_all (lit_within (length e)) ls ≡ true → Equal s e ls → Equal s (e ++ c) ls
  equal-further e c [] w q = tt
  equal-further e c (Cmp Eq x y ∷ ls) w q =
      let k = and_parts (lit_within (length e) (Cmp Eq x y)) (list_all (lit_within (length e)) ls) w in
      let j = and_parts (atom_scoped (length e) x) (atom_scoped (length e) y) k.0 in
      (ap₂ value_eq (value-further e c x j.0) (value-further e c y j.1) ∙ q.0, equal-further e c ls k.1 q.1)
  equal-further e c (Cmp Ne x y ∷ ls) w q = equal-further e c ls (and_parts (lit_within (length e) (Cmp Ne x y)) (list_all (lit_within (length e)) ls) w).1 q
  equal-further e c (Cmp Lt x y ∷ ls) w q = equal-further e c ls (and_parts (lit_within (length e) (Cmp Lt x y)) (list_all (lit_within (length e)) ls) w).1 q
  equal-further e c (Cmp Le x y ∷ ls) w q = equal-further e c ls (and_parts (lit_within (length e) (Cmp Le x y)) (list_all (lit_within (length e)) ls) w).1 q
  equal-further e c (Cmp Gt x y ∷ ls) w q = equal-further e c ls (and_parts (lit_within (length e) (Cmp Gt x y)) (list_all (lit_within (length e)) ls) w).1 q
  equal-further e c (Cmp Ge x y ∷ ls) w q = equal-further e c ls (and_parts (lit_within (length e) (Cmp Ge x y)) (list_all (lit_within (length e)) ls) w).1 q
  equal-further e c (Other x y ∷ ls) w q = equal-further e c ls (and_parts (lit_within (length e) (Other x y)) (list_all (lit_within (length e)) ls) w).1 q
  equal-further e c (Any' held vars n row ∷ ls) w q = equal-further e c ls (and_parts (lit_within (length e) (Any' held vars n row)) (list_all (lit_within (length e)) ls) w).1 q

  -- where each atom has the value of the one that f writes for it, and f writes one for both sides of each equality
  led-equal : (e : Env) (f : Atom → Atom) (ls : List Lit) → all_equated (λ a b. atom_eq (f a) (f b)) ls → ((a : Atom) → In a (equated ls) → value_of s e (f a) ≡ value_of s e a) → Equal s e ls
  led-equal e f [] q h = tt
  led-equal e f (Cmp Eq x y ∷ ls) q h = (
    equal-values (value_of s e x) (value_of s e y) (sym (h x (inl refl)) ∙ ap (value_of s e) (atom_eq-true (f x) (f y) q.0) ∙ h y (inr (inl refl))),
    led-equal e f ls q.1 (λ a i. h a (inr (inr i))),
  )
  led-equal e f (Cmp Ne x y ∷ ls) q h = led-equal e f ls q h
  led-equal e f (Cmp Lt x y ∷ ls) q h = led-equal e f ls q h
  led-equal e f (Cmp Le x y ∷ ls) q h = led-equal e f ls q h
  led-equal e f (Cmp Gt x y ∷ ls) q h = led-equal e f ls q h
  led-equal e f (Cmp Ge x y ∷ ls) q h = led-equal e f ls q h
  led-equal e f (Other x y ∷ ls) q h = led-equal e f ls q h
  led-equal e f (Any' held vars n row ∷ ls) q h = led-equal e f ls q h

  -- the equalities of the classes say what the old ones did
  classes-equal : (e : Env) (ls : List Lit) → lits_true s e (same_lits ls) ≡ true → Equal s e ls
  classes-equal e ls h = led-equal e (least ls) ls (class-equated ls) (λ a i. go a i (cases_Bool (atom_eq a (least ls a))))
    where
      go : (a : Atom) → In a (equated ls) → (atom_eq a (least ls a) ≡ true) ⊎ (atom_eq a (least ls a) ≡ false) → value_of s e (least ls a) ≡ value_of s e a
      go a i (inl t) = ap (value_of s e) (sym (atom_eq-true a (least ls a) t))
      go a i (inr f) = value_eq-true (value_of s e (least ls a)) (value_of s e a) (true-in s e (Cmp Eq (least ls a) a) (same_lits ls) h (in-same ls a i f))

  equal-classes : (e : Env) (ls : List Lit) → Equal s e ls → lits_true s e (same_lits ls) ≡ true
  equal-classes e ls q = true-each e (same_lits ls) (λ l i.
      let k = same-in ls l i in
      ap (lit_true s e) k.2 ∙ least-same (λ a b. value_eq (value_of s e a) (value_of s e b)) (value-equivalence s e) ls q k.0)

  -- so the least atom may be written for each
  reads-least : (e : Env) (ls : List Lit) → list_all (lit_within (length e)) ls ≡ true → Equal s e ls → Reads s e e any_atom any_id (least ls) kept
  reads-least e ls w q = record {
    atoms = λ c x t.
        sym (value_eq-true (value_of s (e ++ c) (least ls x)) (value_of s (e ++ c) x)
        (least-same (λ a b. value_eq (value_of s (e ++ c) a) (value_of s (e ++ c) b)) (value-equivalence s (e ++ c)) ls (equal-further e c ls w q) x));
    ids = λ c v t. refl;
  }

-- ---- the term

module _ (s : Setting) (t : Term) (sound : IsSound s t) (e : Env) (choice : In e (choices s t.vars)) where
  within : list_all (lit_within (length e)) t.lits ≡ true
  within = ap (λ n. list_all (lit_within n) t.lits) (choice-length s t.vars e choice) ∙ sound.scope

  rest-same : Equal s e t.lits → lits_true s e (unequated t.lits) ≡ lits_true s e (lits_with (least t.lits) kept (unequated t.lits))
  rest-same q = lits_with-true s any_atom any_id (least t.lits) kept e e (reads-least s e t.lits within q) (unequated t.lits) (all-lits (unequated t.lits))

  new-true : lits_true s e t.lits ≡ true → lits_true s e (term_same t).lits ≡ true
  new-true u =
      let q = true-equal s e t.lits u in
      lits-append s e (same_lits t.lits) (lits_with (least t.lits) kept (unequated t.lits))
      ∙ and_from (lits_true s e (same_lits t.lits)) (lits_true s e (lits_with (least t.lits) kept (unequated t.lits))) (equal-classes s e t.lits q) (sym (rest-same q) ∙ true-rest s e t.lits u)

  old-true : lits_true s e (term_same t).lits ≡ true → lits_true s e t.lits ≡ true
  old-true u =
      let k = and_parts (lits_true s e (same_lits t.lits)) (lits_true s e (lits_with (least t.lits) kept (unequated t.lits))) (sym (lits-append s e (same_lits t.lits) (lits_with (least t.lits) kept (unequated t.lits))) ∙ u) in
      let q = classes-equal s e t.lits k.0 in
      both-true s e t.lits q (rest-same q ∙ k.1)

  same-head : lits_true s e t.lits ≡ true → head_of s (term_same t).head e ≡ head_of s t.head e
  same-head u = sym (head-reads s any_atom any_id (least t.lits) kept e e (reads-least s e t.lits within (true-equal s e t.lits u)) t.head (all-any_atom t.head))

  same-cell : (w : List Value → ℕ) → when (lits_true s e (term_same t).lits) (w (head_of s (term_same t).head e)) ≡ when (lits_true s e t.lits) (w (head_of s t.head e))
  same-cell w = go (cases_Bool (lits_true s e t.lits))
    where
      go : (lits_true s e t.lits ≡ true) ⊎ (lits_true s e t.lits ≡ false) → when (lits_true s e (term_same t).lits) (w (head_of s (term_same t).head e)) ≡ when (lits_true s e t.lits) (w (head_of s t.head e))
      go (inl u) = ap₂ when (new-true u ∙ sym u) (ap w (same-head u))
      go (inr f) =
          ap (λ b. when b (w (head_of s (term_same t).head e))) (false_from_ne_true (lits_true s e (term_same t).lits) (λ u. both_ways (lits_true s e t.lits) f (old-true u)))
          ∙ sym (ap (λ b. when b (w (head_of s t.head e))) f)

pub same-keeps : (s : Setting) (t : Term) → IsSound s t → SameAmong s (t ∷ []) (term_same t ∷ [])
same-keeps s t sound =
    same-among s (t ∷ []) (term_same t ∷ []) (λ w. ap (λ n. n + 0)
    (total-each (λ c. when (lits_true s c (term_same t).lits) (w (head_of s (term_same t).head c))) (λ c. when (lits_true s c t.lits) (w (head_of s t.head c))) (choices s t.vars)
    (each-from _ (choices s t.vars) (λ c i. same-cell s t sound c i w))))
