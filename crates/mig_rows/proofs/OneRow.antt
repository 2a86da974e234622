-- A variable whose row is, wherever the literals around and the own ones are true, the row of another variable in scope: the other is written for it.
use Rattle.std.proofs.Common.{◌≡◌, ◌≢◌, ℕ, ◌+◌, ◌<◌, true, false, cond, List, ◌∷◌, ◌++◌, map, length, refl, sym, ap, ap₂, ◌∙◌, arith, append_assoc, length-append, inl, inr, ◌⊎◌, subst, subst₂}
use Rattle.std.specs.Prelude.{◌==◌, slice_get, Some}
use Rattle.std.proofs.lemmas.List.{get_or_at}
use Rattle.std.proofs.lemmas.Bool.Decides.{eqb_tells}
use Rattle.mig_meaning.specs.declared.states.Placed.{Placed}
use Rattle.mig_meaning.specs.Lists.{total, In, Each}
use Rattle.mig_meaning.specs.Rows.{no_row, value_at}
use Rattle.mig_meaning.proofs.StateLaw.{each-in}
use Rattle.mig_algebra.specs.declared.atoms.Var.{Var}
use Rattle.mig_algebra.specs.declared.atoms.Atom.{Atom}
use Rattle.mig_algebra.specs.declared.atoms.Atom.TheVariants.{Int, Text, Param, Fresh, Col}
use Rattle.mig_algebra.specs.declared.literals.Lit.{Lit}
use Rattle.mig_algebra.specs.Meaning.{Setting, Env, choices, value_of, row_at, lits_true}
use Rattle.mig_algebra.specs.Rename.{renumbered, below}
use Rattle.mig_algebra.proofs.Sums.{when}
use Rattle.mig_algebra.proofs.Members.{in-product}
use Rattle.mig_algebra.proofs.Truth.{Reads, lits_with-true}
use Rattle.mig_algebra.proofs.Without.{any_atom, row-before, row-below}
use Rattle.mig_algebra.proofs.Moved.{any_id, all-lits}
use Rattle.mig_algebra.proofs.Hosts.{host_sum, at_row, fixed-row}
use Rattle.mig_classes.proofs.FreshKeys.{choice-row}
use Rattle.mig_replacing.proofs.Reached.{each-from, choice-more, choice-length}
use Rattle.mig_rows.specs.Writing.{into, lits_into}
use Rattle.mig_rows.proofs.Distinct.{Distinct, alone-in}
use Rattle.mig_steps.proofs.Options.{get-within}
use Rattle.mig_rows.proofs.Gone.{host-gone}
use Rattle.mig_rows.proofs.Numbered.{in-front, in-behind, get-other}

-- ---- rows by the new numbers

-- the row of each variable, where the row of i is that of x
row-into : (c d k : Env) (q : Placed) (i x v : ℕ) → length c ≡ i → x ≢ i → below i x < length (c ++ d) → q ≡ row_at (c ++ d) (below i x) → row_at ((c ++ (q ∷ d)) ++ k) v ≡ row_at ((c ++ d) ++ k) (into i x v)
row-into c d k q i x v at ne bound own = go (eqb_tells v i)
  where
    go : ((v == i) ≡ true) × (v ≡ i) ⊎ ((v == i) ≡ false) × (v ≢ i) → row_at ((c ++ (q ∷ d)) ++ k) v ≡ row_at ((c ++ d) ++ k) (into i x v)
    go (inl h) =
        ap (λ l. row_at l v) (append_assoc c (q ∷ d) k) ∙ get_or_at c q (d ++ k) no_row v (at ∙ sym h.1)
        ∙ own ∙ sym (row-before (c ++ d) k (below i x) bound)
        ∙ ap (λ b. row_at ((c ++ d) ++ k) (below i (cond b x v))) (sym h.0)
    go (inr h) =
        ap (λ l. row_at l v) (append_assoc c (q ∷ d) k) ∙ row-below c (d ++ k) q i v at h.1
        ∙ ap (λ l. row_at l (below i v)) (sym (append_assoc c d k))
        ∙ ap (λ b. row_at ((c ++ d) ++ k) (below i (cond b x v))) (sym h.0)

reads-into : (s : Setting) (c d : Env) (q : Placed) (i x : ℕ) → length c ≡ i → x ≢ i → below i x < length (c ++ d) → q ≡ row_at (c ++ d) (below i x) → Reads s (c ++ (q ∷ d)) (c ++ d) any_atom any_id (renumbered (into i x)) (into i x)
reads-into s c d q i x at ne bound own = record {
  atoms = λ k a t. atom k a;
  ids = λ k v t. ap (λ (r : Placed). r.id) (row-into c d k q i x v at ne bound own);
}
  where
    atom : (k : Env) (a : Atom) → value_of s ((c ++ (q ∷ d)) ++ k) a ≡ value_of s ((c ++ d) ++ k) (renumbered (into i x) a)
    atom k (Int n) = refl
    atom k (Text t) = refl
    atom k (Param n) = refl
    atom k (Fresh n) = refl
    atom k (Col v col) = ap (λ (r : Placed). value_at r col) (row-into c d k q i x v at ne bound own)

-- ---- the law

-- The variable v of number i goes from a host under e, and x is written for it. In the setting no two rows of v's table have equal values in the column; x is of the same table, side and stage; and the column of both is equal wherever the host's literals are true. What stands around e may be used for that.
module _ (s : Setting) (around : List Var) (e : Env) (choice : In e (choices s around)) (vs : List Var) (v : Var) (ws : List Var) (lits : List Lit) (i x col : ℕ) (at : length around + length vs ≡ i) (ne : x ≢ i) (there : slice_get (around ++ (vs ++ (v ∷ ws))) x ≡ Some v) (distinct : Distinct col (s.rows v)) (equal : (c : Env) → In c (choices s (vs ++ (v ∷ ws))) → lits_true s (e ++ c) lits ≡ true → value_of s (e ++ c) (Col i col) ≡ value_of s (e ++ c) (Col x col)) where
  long : (c : Env) → In c (choices s vs) → length (e ++ c) ≡ i
  long c h = omega (arith, length-append e c, choice-length s around e choice, choice-length s vs c h, at)

  -- x among the variables that stay
  stays : slice_get ((around ++ vs) ++ ws) (below i x) ≡ Some v
  stays =
      sym (get-other (around ++ vs) v ws i x (length-append around vs ∙ at) ne)
      ∙ ap (λ l. slice_get l x) (append_assoc around vs (v ∷ ws)) ∙ there

  -- its row
  abbrev other : Env → Env → Placed
  other c d = row_at ((e ++ c) ++ d) (below i x)

  module _ (c d : Env) (hc : In c (choices s vs)) (hd : In d (choices s ws)) where
    whole : In ((e ++ c) ++ d) (choices s ((around ++ vs) ++ ws))
    whole = choice-more s (around ++ vs) ws (e ++ c) d (choice-more s around vs e c choice hc) hd

    bound : below i x < length ((e ++ c) ++ d)
    bound = omega (arith, get-within ((around ++ vs) ++ ws) (below i x) v stays, choice-length s ((around ++ vs) ++ ws) ((e ++ c) ++ d) whole)

    among : In (other c d) (s.rows v)
    among = choice-row s ((around ++ vs) ++ ws) ((e ++ c) ++ d) (below i x) v whole stays

    reads : Reads s (e ++ (c ++ (other c d ∷ d))) (e ++ (c ++ d)) any_atom any_id (renumbered (into i x)) (into i x)
    reads = subst₂ (λ a b. Reads s a b any_atom any_id (renumbered (into i x)) (into i x)) (append_assoc e c (other c d ∷ d)) (append_assoc e c d) (reads-into s (e ++ c) d (other c d) i x (long c hc) ne bound refl)

    -- a row that makes the literals true has the value of x's row
    same-value : (p : Placed) → In p (s.rows v) → lits_true s (e ++ (c ++ (p ∷ d))) lits ≡ true → value_at p col ≡ value_at (other c d) col
    same-value p hp t =
        ap (λ (r : Placed). value_at r col) (sym (get_or_at (e ++ c) p d no_row i (long c hc)) ∙ ap (λ l. row_at l i) (append_assoc e c (p ∷ d)))
        ∙ equal (c ++ (p ∷ d)) (choice-more s vs (v ∷ ws) c (p ∷ d) hc (in-product p d (s.rows v) (map s.rows ws) hp hd)) t
        ∙ ap (λ (r : Placed). value_at r col) (ap (λ l. row_at l x) (sym (append_assoc e c (p ∷ d))) ∙ row-below (e ++ c) d p i x (long c hc) ne)

    -- so the literals are true with no other row of the table
    never : (ps : List Placed) → ((p : Placed) → In p ps → In p (s.rows v)) → Each (λ (p : Placed). value_at p col ≢ value_at (other c d) col) ps → Each (λ p. lits_true s (e ++ (c ++ (p ∷ d))) lits ≡ true → ⊥) ps
    never ps sub h = each-from _ ps (λ p i t. each-in (λ (p : Placed). value_at p col ≢ value_at (other c d) col) p ps h i (same-value p (sub p i) t))

  -- the host's sum stays
  pub host-into : (k k' : Env → ℕ) → ((a b : Env) → Reads s a b any_atom any_id (renumbered (into i x)) (into i x) → k a ≡ k' b) → host_sum s e k (vs ++ (v ∷ ws)) lits ≡ host_sum s e k' (vs ++ ws) (lits_into i x lits)
  host-into k k' ks = host-gone s e k k' vs v ws lits (lits_into i x lits) cell
    where
      cell : (c d : Env) → In c (choices s vs) → In d (choices s ws) → total (at_row s e k lits c d) (s.rows v) ≡ when (lits_true s (e ++ (c ++ d)) (lits_into i x lits)) (k' (e ++ (c ++ d)))
      cell c d hc hd =
          let a = alone-in col (s.rows v) (other c d) distinct (among c d hc hd) in
          let r = reads c d hc hd in
          ap (total (at_row s e k lits c d)) a.parts
          ∙ fixed-row s e k lits c d (other c d) a.before a.behind
          (never c d hc hd a.before (λ p h. subst (In p) (sym a.parts) (in-front p a.before (other c d ∷ a.behind) h)) a.first)
          (never c d hc hd a.behind (λ p h. subst (In p) (sym a.parts) (in-behind p a.before (other c d ∷ a.behind) (inr h))) a.last)
          ∙ ap₂ (λ b n. when b n) (lits_with-true s any_atom any_id (renumbered (into i x)) (into i x) _ _ r lits (all-lits lits)) (ks _ _ r)
