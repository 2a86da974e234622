-- What stands around a literal at a path: tests that all literals of a term pass, and plain literals at the whole choice.
use Rattle.std.proofs.Common.{◌≡◌, ℕ, zero, suc, ◌+◌, ◌<◌, ◌≤◌, Bool, true, not, ◌&&◌, List, [], ◌∷◌, ◌++◌, map, take, drop, Option, Some, None, refl, sym, ap, ap₂, ◌∙◌, arith, length, subst, length-append, take-append-drop}
use Rattle.std.specs.Prelude.{◌==◌, nat_lt, slice_get}
use Rattle.std.specs.List.{list_all}
use Rattle.std.proofs.lemmas.Bool.{and_parts, and_from, ltb-true}
use Rattle.std.proofs.lemmas.List.{length-take-le}
use Rattle.std.proofs.lemmas.List.Folds.{list_all-append, list_all-map}
use denote.Hole.Carrier.{hidden}
use mathlib.Core.Former.{list_count, this}
use Rattle.mig_meaning.specs.Lists.{Each}
use Rattle.mig_meaning.specs.Values.{compares}
use Rattle.mig_meaning.specs.Rows.{value_at}
use Rattle.mig_algebra.specs.declared.atoms.Var.{Var}
use Rattle.mig_algebra.specs.declared.atoms.Atom.{Atom}
use Rattle.mig_algebra.specs.declared.atoms.Atom.TheVariants.{Int, Text, Param, Fresh, Col}
use Rattle.mig_algebra.specs.declared.literals.Inner.{Inner}
use Rattle.mig_algebra.specs.declared.literals.Lit.{Lit, Cmp, Other, Any', Row_of-Lit, end_of-Lit, more_of-Lit, items-the_row-Lit}
use Rattle.mig_algebra.specs.declared.literals.Lit.TheBlock.{hidden-the_row-Lit-0}
use Rattle.mig_algebra.specs.declared.literals.Lit.TheVariants.{Any}
use Rattle.mig_algebra.specs.declared.terms.Term.{Term}
use Rattle.mig_algebra.specs.Meaning.{Setting, Env, row_at, value_of, lit_true, lits_true}
use Rattle.mig_algebra.specs.Rename.{lit_all, row_all}
use Rattle.mig_algebra.specs.Scope.{atom_scoped}
use Rattle.mig_algebra.proofs.Without.{row-before}
use Rattle.mig_classes.specs.Keys.{label_within, labels_within}
use Rattle.mig_replacing.specs.Places.{Standing, Place, others, standing, place_within, place_at}
use Rattle.mig_replacing.specs.Reaching.{stands_true, Reaches}
use Rattle.mig_replacing.specs.Given.{plain, plain_around, lit_within, row_within, IsSound}
use Rattle.mig_replacing.proofs.Reached.{some-same, choice-length, count_within, counts-more, counts-own, counts-inside, stands-further}

-- ---- tests of lists

pub all-take : {X : Type 0} (p : X → Bool) (n : ℕ) (xs : List X) → list_all p xs ≡ true → list_all p (take n xs) ≡ true
all-take p zero xs h = refl
all-take p (suc n) [] h = refl
all-take p (suc n) (x ∷ xs) h = let k = and_parts (p x) (list_all p xs) h in and_from (p x) (list_all p (take n xs)) k.0 (all-take p n xs k.1)

pub all-drop : {X : Type 0} (p : X → Bool) (n : ℕ) (xs : List X) → list_all p xs ≡ true → list_all p (drop n xs) ≡ true
all-drop p zero xs h = h
all-drop p (suc n) [] h = refl
all-drop p (suc n) (x ∷ xs) h = all-drop p n xs (and_parts (p x) (list_all p xs) h).1

-- a test of the other literals
all-others : (p : Lit → Bool) (lits : List Lit) (j : ℕ) → list_all p lits ≡ true → list_all p (others lits j) ≡ true
all-others p lits j h =
    list_all-append p (take j lits) (drop (j + 1) lits) ∙ ap₂ (λ x y. x && y) (all-take p j lits h) (all-drop p (j + 1) lits h)

-- of the one
pub all-get : (p : Lit → Bool) (lits : List Lit) (j : ℕ) (m : Lit) → list_all p lits ≡ true → slice_get lits j ≡ Some m → p m ≡ true
all-get p [] j m h g = cc
all-get p (l ∷ lits) zero m h g = ap p (sym (some-same l m g)) ∙ (and_parts (p l) (list_all p lits) h).0
all-get p (l ∷ lits) (suc j) m h g = all-get p lits j m (and_parts (p l) (list_all p lits) h).1 g

-- ---- a test that bodies hand down

-- a test of a literal where so many variables are in scope
abbrev pub Test : Type 0
Test = ℕ → Lit → Bool

-- whether a literal that stands somewhere passes
abbrev pub stands_with : Test → Standing → Bool
stands_with q l = q l.count l.lit

-- the literals of a body that passes pass
pub record HandsDown (q : Test) : Type 0 where
  pub by : (n : ℕ) (held : Bool) (vars : List Var) (k : List (Unit {0})) (row : Row_of-Lit (list_count this k 0)) → q n (Any' held vars k row) ≡ true → list_all (q (n + length vars)) (items-the_row-Lit _ row) ≡ true

standing-tests : (q : Test) (n : ℕ) (lits : List Lit) → list_all (q n) lits ≡ true → list_all (stands_with q) (standing n lits) ≡ true
standing-tests q n [] h = refl
standing-tests q n (l ∷ lits) h = let k = and_parts (q n l) (list_all (q n) lits) h in ap₂ (λ x y. x && y) k.0 (standing-tests q n lits k.1)

module _ (q : Test) (down : HandsDown q) where
  -- what stands around a literal, and the literal, pass where all around them does
  within-tests : (p : List ℕ) (scope : List Var) (around : List Standing) (o : Option Lit) (place : Place) → place_within scope around o p ≡ Some place → list_all (stands_with q) around ≡ true → ((l : Lit) → o ≡ Some l → q (length scope) l ≡ true) → (list_all (stands_with q) place.around ≡ true) × (q (length place.scope) place.lit ≡ true)
  within-tests p scope around None place is a h = cc
  within-tests [] scope around (Some l) place is a h =
      subst (λ (r : Place). (list_all (stands_with q) r.around ≡ true) × (q (length r.scope) r.lit ≡ true)) (some-same _ place is) (a, h l refl)
  within-tests (j ∷ p) scope around (Some (Cmp op x y)) place is a h = cc
  within-tests (j ∷ p) scope around (Some (Other x y)) place is a h = cc
  within-tests (j ∷ p) scope around (Some (Any' held vars n row)) place is a h =
      let lits = items-the_row-Lit _ row in
      let sum : length scope + length vars ≡ length (scope ++ vars) = sym (length-append scope vars) in
      let all : list_all (q (length (scope ++ vars))) lits ≡ true = subst (λ m. list_all (q m) lits ≡ true) sum (down.by (length scope) held vars n row (h (Any' held vars n row) refl)) in
      let more : list_all (stands_with q) (around ++ standing (length (scope ++ vars)) (others lits j)) ≡ true =
      list_all-append (stands_with q) around (standing (length (scope ++ vars)) (others lits j))
      ∙ ap₂ (λ x y. x && y) a (standing-tests q (length (scope ++ vars)) (others lits j) (all-others (q (length (scope ++ vars))) lits j all)) in
      within-tests p (scope ++ vars) (around ++ standing (length (scope ++ vars)) (others lits j)) (slice_get lits j) place is more (λ l g. all-get (q (length (scope ++ vars))) lits j l all g)

  -- so too where all literals of the term pass
  pub place-tests : (t : Term) (path : List ℕ) (place : Place) → place_at t path ≡ Some place → list_all (q (length t.vars)) t.lits ≡ true → (list_all (stands_with q) place.around ≡ true) × (q (length place.scope) place.lit ≡ true)
  place-tests t [] place is h = cc
  place-tests t (j ∷ p) place is h =
      within-tests p t.vars (standing (length t.vars) (others t.lits j)) (slice_get t.lits j) place is
      (standing-tests q (length t.vars) (others t.lits j) (all-others (q (length t.vars)) t.lits j h))
      (λ l g. all-get (q (length t.vars)) t.lits j l h g)

-- no literal around stands where more variables are in scope
within-counts : (p : List ℕ) (scope : List Var) (around : List Standing) (o : Option Lit) (place : Place) → place_within scope around o p ≡ Some place → Each (count_within (length scope)) around → Each (count_within (length place.scope)) place.around
within-counts p scope around None place is a = cc
within-counts [] scope around (Some l) place is a = subst (λ (r : Place). Each (count_within (length r.scope)) r.around) (some-same _ place is) a
within-counts (j ∷ p) scope around (Some (Cmp op x y)) place is a = cc
within-counts (j ∷ p) scope around (Some (Other x y)) place is a = cc
within-counts (j ∷ p) scope around (Some (Any' held vars n row)) place is a =
    within-counts p (scope ++ vars) (around ++ standing (length (scope ++ vars)) (others (items-the_row-Lit _ row) j)) (slice_get (items-the_row-Lit _ row) j) place is
    (counts-inside scope vars around (others (items-the_row-Lit _ row) j) a)

pub place-counts : (t : Term) (path : List ℕ) (place : Place) → place_at t path ≡ Some place → Each (count_within (length place.scope)) place.around
place-counts t [] place is = cc
place-counts t (j ∷ p) place is =
    within-counts p t.vars (standing (length t.vars) (others t.lits j)) (slice_get t.lits j) place is (counts-own (length t.vars) (others t.lits j))

-- ---- the two tests of sound terms

row-within-list : (n : ℕ) {m : _} (row : Row_of-Lit m) → row_within n row ≡ list_all (lit_within n) (items-the_row-Lit m row)
row-within-list n end_of-Lit = refl
row-within-list n (more_of-Lit l rest) = ap (λ b. lit_within n l && b) (row-within-list n rest)

row-all-list : (a : Atom → Bool) (v : ℕ → Bool) {m : _} (row : Row_of-Lit m) → row_all a v row ≡ list_all (lit_all a v) (items-the_row-Lit m row)
row-all-list a v end_of-Lit = refl
row-all-list a v (more_of-Lit l rest) = ap (λ b. lit_all a v l && b) (row-all-list a v rest)

-- variables in scope
pub scope-down : HandsDown lit_within
scope-down = record { by = λ n held vars k row h. sym (row-within-list (n + length vars) row) ∙ h }

-- labels with keys
pub labels-down : (m : ℕ) → HandsDown (λ n. labels_within m)
labels-down m = record { by = λ n held vars k row h. sym (row-all-list (label_within m) (λ v. true) row) ∙ h }

within-of_list : (n : ℕ) (xs : List Lit) → row_within n (hidden-the_row-Lit-0 xs) ≡ list_all (lit_within n) xs
unfolding hidden-the_row-Lit-0 hidden
within-of_list n [] = refl
within-of_list n (x ∷ xs) = ap (λ b. lit_within n x && b) (within-of_list n xs)

all-of_list : (a : Atom → Bool) (v : ℕ → Bool) (xs : List Lit) → row_all a v (hidden-the_row-Lit-0 xs) ≡ list_all (lit_all a v) xs
unfolding hidden-the_row-Lit-0 hidden
all-of_list a v [] = refl
all-of_list a v (x ∷ xs) = ap (λ b. lit_all a v x && b) (all-of_list a v xs)

-- a body's variables in scope, by its list
pub any-within : (n : ℕ) (held : Bool) (body : Inner) → lit_within n (Any held body) ≡ list_all (lit_within (n + length body.vars)) body.lits
any-within n held body = within-of_list (n + length body.vars) body.lits

-- and its labels
pub any-labels : (m : ℕ) (held : Bool) (body : Inner) → labels_within m (Any held body) ≡ list_all (labels_within m) body.lits
any-labels m held body = all-of_list (label_within m) (λ v. true) body.lits

-- ---- plain literals

-- a test of the plain ones
pub all-plain : (p : Lit → Bool) (xs : List Lit) → list_all p xs ≡ true → list_all p (plain xs) ≡ true
all-plain p [] h = refl
all-plain p (Cmp op x y ∷ a) h = let k = and_parts (p (Cmp op x y)) (list_all p a) h in and_from (p (Cmp op x y)) (list_all p (plain a)) k.0 (all-plain p a k.1)
all-plain p (Other x y ∷ a) h = let k = and_parts (p (Other x y)) (list_all p a) h in and_from (p (Other x y)) (list_all p (plain a)) k.0 (all-plain p a k.1)
all-plain p (Any' held vars n row ∷ a) h = all-plain p a (and_parts (p (Any' held vars n row)) (list_all p a) h).1

-- those of a true list are true
pub plain-true : (s : Setting) (e : Env) (xs : List Lit) → lits_true s e xs ≡ true → lits_true s e (plain xs) ≡ true
plain-true s e [] h = refl
plain-true s e (Cmp op x y ∷ a) h = let k = and_parts (lit_true s e (Cmp op x y)) (lits_true s e a) h in and_from (lit_true s e (Cmp op x y)) (lits_true s e (plain a)) k.0 (plain-true s e a k.1)
plain-true s e (Other x y ∷ a) h = let k = and_parts (lit_true s e (Other x y)) (lits_true s e a) h in and_from (lit_true s e (Other x y)) (lits_true s e (plain a)) k.0 (plain-true s e a k.1)
plain-true s e (Any' held vars n row ∷ a) h = plain-true s e a (and_parts (lit_true s e (Any' held vars n row)) (lits_true s e a) h).1

-- a row among the first
row-early : (e : Env) (n v : ℕ) → n ≤ length e → v < n → row_at (take n e) v ≡ row_at e v
row-early e n v h l =
    let in' : v < length (take n e) = omega (arith, length-take-le n e h, l) in
    sym (row-before (take n e) (drop n e) v in') ∙ ap (λ f. row_at f v) (take-append-drop n e)

value-early : (s : Setting) (e : Env) (n : ℕ) (a : Atom) → n ≤ length e → atom_scoped n a ≡ true → value_of s (take n e) a ≡ value_of s e a
value-early s e n (Int i) h w = refl
value-early s e n (Text t) h w = refl
value-early s e n (Param p) h w = refl
value-early s e n (Fresh k) h w = refl
value-early s e n (Col v c) h w = ap (λ r. value_at r c) (row-early e n v h (ltb-true v n w))

-- plain literals at the rows in their scope are true at the whole choice
plain-step : (s : Setting) (e : Env) (n : ℕ) (x : Lit) (rest : List Lit) → n ≤ length e → lit_within n x ≡ true → lit_true s (take n e) x ≡ true → lits_true s e (plain rest) ≡ true → lits_true s e (plain (x ∷ rest)) ≡ true
plain-step s e n (Cmp op a b) rest h w t u =
    let k = and_parts (atom_scoped n a) (atom_scoped n b) w in
    and_from (lit_true s e (Cmp op a b)) (lits_true s e (plain rest)) (ap₂ (compares op) (sym (value-early s e n a h k.0)) (sym (value-early s e n b h k.1)) ∙ t) u
plain-step s e n (Other a b) rest h w t u =
    let k = and_parts (nat_lt a n) (nat_lt b n) w in
    and_from (lit_true s e (Other a b)) (lits_true s e (plain rest)) (ap₂ (λ p q. not (p.id == q.id)) (sym (row-early e n a h (ltb-true a n k.0))) (sym (row-early e n b h (ltb-true b n k.1))) ∙ t) u
plain-step s e n (Any' held vars m row) rest h w t u = u

plain-stands : (s : Setting) (e : Env) (ls : List Standing) → Each (count_within (length e)) ls → list_all (stands_with lit_within) ls ≡ true → list_all (stands_true s e) ls ≡ true → lits_true s e (plain (map (λ (l : Standing). l.lit) ls)) ≡ true
plain-stands s e [] c w t = refl
plain-stands s e (l ∷ ls) c w t =
    let j = and_parts (lit_within l.count l.lit) (list_all (stands_with lit_within) ls) w in
    let k = and_parts (lit_true s (take l.count e) l.lit) (list_all (stands_true s e) ls) t in
    plain-step s e l.count l.lit (map (λ (l : Standing). l.lit) ls) c.0 j.0 k.0 (plain-stands s e ls c.1 j.1 k.1)

-- ---- at a place of a sound term

module _ (s : Setting) (t : Term) (path : List ℕ) (place : Place) (sound : IsSound s t) (is : place_at t path ≡ Some place) where
  -- the variables that the literal names are in scope
  pub lit-scope : lit_within (length place.scope) place.lit ≡ true
  lit-scope = (place-tests lit_within scope-down t path place is sound.scope).1

  -- its labels have keys
  pub lit-labels : labels_within (length s.given.keys) place.lit ≡ true
  lit-labels = (place-tests (λ n. labels_within (length s.given.keys)) (labels-down (length s.given.keys)) t path place is sound.labels).1

  -- those of the plain literals around it too
  pub around-labels : list_all (labels_within (length s.given.keys)) (plain_around place) ≡ true
  around-labels =
      all-plain (labels_within (length s.given.keys)) (map (λ (l : Standing). l.lit) place.around)
      (list_all-map (labels_within (length s.given.keys)) (λ (l : Standing). l.lit) place.around
      ∙ (place-tests (λ n. labels_within (length s.given.keys)) (labels-down (length s.given.keys)) t path place is sound.labels).0)

  -- which are true at each choice that reaches it
  pub around-true : (e : Env) → Reaches s place e → lits_true s e (plain_around place) ≡ true
  around-true e r =
      plain-stands s e place.around (subst (λ n. Each (count_within n) place.around) (sym (choice-length s place.scope e r.choice)) (place-counts t path place is))
      (place-tests lit_within scope-down t path place is sound.scope).0 r.around

  -- and with more rows behind
  pub around-further : (e c : Env) → Reaches s place e → lits_true s (e ++ c) (plain_around place) ≡ true
  around-further e c r =
      let own = choice-length s place.scope e r.choice in
      let counts = place-counts t path place is in
      plain-stands s (e ++ c) place.around
      (counts-more (length place.scope) (length (e ++ c)) place.around (omega (arith, own, length-append e c)) counts)
      (place-tests lit_within scope-down t path place is sound.scope).0
      (stands-further s e c place.around (subst (λ n. Each (count_within n) place.around) (sym own) counts) ∙ r.around)
