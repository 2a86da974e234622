-- A variable that one equality alone names, with an atom whose value some row of its table has: both go.
use Rattle.std.proofs.Common.{◌≡◌, ◌≢◌, ℕ, ◌+◌, ◌<◌, true, List, ◌∷◌, ◌++◌, map, length, Some, sym, ap, ap₂, ◌∙◌, append_assoc, length-append}
use Rattle.std.specs.Prelude.{slice_get}
use Rattle.std.specs.List.{list_all, list_any}
use Rattle.std.proofs.lemmas.List.{get_or_at}
use Rattle.std.proofs.lemmas.Bool.{false_from_ne_true}
use Rattle.mig_meaning.specs.declared.states.Placed.{Placed}
use Rattle.mig_meaning.specs.Lists.{total, bit, In, Each}
use Rattle.mig_meaning.specs.Rows.{no_row, value_at}
use Rattle.mig_meaning.specs.Values.{value_eq}
use Rattle.mig_meaning.proofs.Bags.{value_eq-refl, value_eq-true}
use Rattle.mig_meaning.proofs.StateLaw.{each-in}
use Rattle.mig_algebra.specs.declared.atoms.Var.{Var}
use Rattle.mig_algebra.specs.declared.atoms.Atom.{Atom}
use Rattle.mig_algebra.specs.declared.atoms.Atom.TheVariants.{Col}
use Rattle.mig_algebra.specs.declared.literals.Lit.{Lit}
use Rattle.mig_algebra.specs.Meaning.{Setting, Env, choices, value_of, row_at, lit_true, lits_true}
use Rattle.mig_algebra.specs.Rename.{renumbered, below, is_not}
use Rattle.mig_algebra.proofs.Sums.{total-one}
use Rattle.mig_algebra.proofs.Members.{in-product, in-any}
use Rattle.mig_algebra.proofs.Truth.{Reads, atom-reads}
use Rattle.mig_algebra.proofs.Without.{row-below}
use Rattle.mig_algebra.proofs.Hosts.{host_sum}
use Rattle.mig_classes.proofs.FreshKeys.{choice-row}
use Rattle.mig_replacing.specs.Places.{others}
use Rattle.mig_replacing.specs.Replaced.{lit_at}
use Rattle.mig_replacing.proofs.Reached.{each-from, choice-more, choice-length}
use Rattle.mig_rows.specs.Writing.{into, avoids, leaves, lits_left}
use Rattle.mig_rows.proofs.Distinct.{Distinct, alone-in}
use Rattle.mig_rows.proofs.NamedRow.{reads-rest, host-once, met-some}
use Rattle.mig_rows.proofs.Numbered.{get-other}

-- The literal equates column m of the variable with an atom, whose value is that of column n of another variable y wherever the other literals are true; each row of y's table has a row of the variable's with that value.
module _ (s : Setting) (around : List Var) (e : Env) (choice : In e (choices s around)) (vs : List Var) (v : Var) (ws : List Var) (lits : List Lit) (i j y m n : ℕ) (u : Var) (a : Atom) (at : length around + length vs ≡ i) (in' : j < length lits) (left : list_all (leaves i) (others lits j) ≡ true) (free : avoids i a ≡ true) (says : (f : Env) → lit_true s f (lit_at lits j) ≡ value_eq (value_of s f (Col i m)) (value_of s f a)) (ne : y ≢ i) (there : slice_get (around ++ (vs ++ (v ∷ ws))) y ≡ Some u) (within : (p : Placed) → In p (s.rows u) → (q : Placed) × In q (s.rows v) × (value_eq (value_at p n) (value_at q m) ≡ true)) (equal : (c : Env) → In c (choices s (vs ++ (v ∷ ws))) → lits_true s (e ++ c) (others lits j) ≡ true → value_of s (e ++ c) a ≡ value_of s (e ++ c) (Col y n)) where
  from-e : length e + length vs ≡ i
  from-e = ap (λ k. k + length vs) (choice-length s around e choice) ∙ at

  stays : slice_get ((around ++ vs) ++ ws) (below i y) ≡ Some u
  stays =
      sym (get-other (around ++ vs) v ws i y (length-append around vs ∙ at) ne)
      ∙ ap (λ l. slice_get l y) (append_assoc around vs (v ∷ ws)) ∙ there

  module _ (c d : Env) (hc : In c (choices s vs)) (hd : In d (choices s ws)) (holds : (q : Placed) → lits_true s (e ++ (c ++ (q ∷ d))) (others lits j) ≡ true) where
    long : length (e ++ c) ≡ i
    long = length-append e c ∙ ap (λ k. length e + k) (choice-length s vs c hc) ∙ from-e

    -- the row of y
    abbrev row : Placed
    row = row_at ((e ++ c) ++ d) (below i y)

    among : In row (s.rows u)
    among = choice-row s ((around ++ vs) ++ ws) ((e ++ c) ++ d) (below i y) u (choice-more s (around ++ vs) ws (e ++ c) d (choice-more s around vs e c choice hc) hd) stays

    -- the value of the atom does not depend on the row of the variable
    free-value : (p q : Placed) → value_of s (e ++ (c ++ (p ∷ d))) a ≡ value_of s (e ++ (c ++ (q ∷ d))) a
    free-value p q =
        let r = λ (x : Placed). atom-reads s (avoids i) (is_not i) (renumbered (into i i)) (into i i) _ _ (reads-rest s e vs v ws lits i j from-e in' left c d x (choice-length s vs c hc)) a free in
        r p ∙ sym (r q)

    own : (q : Placed) → row_at (e ++ (c ++ (q ∷ d))) i ≡ q
    own q = ap (λ l. row_at l i) (sym (append_assoc e c (q ∷ d))) ∙ get_or_at (e ++ c) q d no_row i long

    partner : Placed
    partner = (within row among).0

    its : In partner (s.rows v)
    unfolding partner
    its = (within row among).1

    -- it is that of the partner
    atom-value : (q : Placed) → value_of s (e ++ (c ++ (q ∷ d))) a ≡ value_at partner m
    unfolding partner
    atom-value q =
        free-value q (within row among).0
        ∙ equal (c ++ ((within row among).0 ∷ d)) (choice-more s vs (v ∷ ws) c ((within row among).0 ∷ d) hc (in-product (within row among).0 d (s.rows v) (map s.rows ws) (within row among).1 hd)) (holds (within row among).0)
        ∙ ap (λ (r : Placed). value_at r n) (ap (λ l. row_at l y) (sym (append_assoc e c ((within row among).0 ∷ d))) ∙ row-below (e ++ c) d (within row among).0 i y long ne)
        ∙ value_eq-true (value_at row n) (value_at (within row among).0 m) (within row among).2

    -- so the literal asks that a row has the partner's value
    lit-says : (q : Placed) → lit_true s (e ++ (c ++ (q ∷ d))) (lit_at lits j) ≡ value_eq (value_at q m) (value_at partner m)
    lit-says q = says (e ++ (c ++ (q ∷ d))) ∙ ap₂ value_eq (ap (λ (r : Placed). value_at r m) (own q)) (atom-value q)

    some-row : list_any (λ q. lit_true s (e ++ (c ++ (q ∷ d))) (lit_at lits j)) (s.rows v) ≡ true
    some-row = in-any (λ q. lit_true s (e ++ (c ++ (q ∷ d))) (lit_at lits j)) partner (s.rows v) its (lit-says partner ∙ value_eq-refl (value_at partner m))

    one-row : Distinct m (s.rows v) → total (λ q. bit (lit_true s (e ++ (c ++ (q ∷ d))) (lit_at lits j))) (s.rows v) ≡ 1
    one-row distinct =
        let al = alone-in m (s.rows v) partner distinct its in
        let none = λ (ps : List Placed) (h : Each (λ (q : Placed). value_at q m ≢ value_at partner m) ps). each-from (λ q. bit (lit_true s (e ++ (c ++ (q ∷ d))) (lit_at lits j)) ≡ 0) ps (λ q k. ap bit (lit-says q ∙ false_from_ne_true (value_eq (value_at q m) (value_at partner m)) (λ t. each-in (λ (q : Placed). value_at q m ≢ value_at partner m) q ps h k (value_eq-true (value_at q m) (value_at partner m) t)))) in
        ap (total (λ q. bit (lit_true s (e ++ (c ++ (q ∷ d))) (lit_at lits j)))) al.parts
        ∙ total-one (λ q. bit (lit_true s (e ++ (c ++ (q ∷ d))) (lit_at lits j))) al.before partner al.behind (none al.before al.first) (none al.behind al.last)
        ∙ ap bit (lit-says partner ∙ value_eq-refl (value_at partner m))

  -- where besides no two rows have equal values in the column, the sum of a host stays
  pub host-partner : Distinct m (s.rows v) → (k k' : Env → ℕ) → ((a b : Env) → Reads s a b (avoids i) (is_not i) (renumbered (into i i)) (into i i) → k a ≡ k' b) → host_sum s e k (vs ++ (v ∷ ws)) lits ≡ host_sum s e k' (vs ++ ws) (lits_left i (others lits j))
  host-partner distinct k k' ks = host-once s e vs v ws lits i j from-e in' left k k' ks (λ c d hc hd t. one-row c d hc hd t distinct)

  -- a body is met where it was
  pub met-partner : list_any (λ c. lits_true s (e ++ c) lits) (choices s (vs ++ (v ∷ ws))) ≡ list_any (λ c. lits_true s (e ++ c) (lits_left i (others lits j))) (choices s (vs ++ ws))
  met-partner = met-some s e vs v ws lits i j from-e in' left (λ c d hc hd t. some-row c d hc hd t)
