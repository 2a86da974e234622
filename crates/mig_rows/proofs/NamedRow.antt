-- A variable that one literal alone names: where that literal is true with just one row, both go.
use Rattle.std.proofs.Common.{◌≡◌, ℕ, ◌+◌, ◌*◌, ◌<◌, Bool, true, false, cond, ◌&&◌, List, [], ◌∷◌, ◌++◌, length, refl, sym, ap, ap₂, ◌∙◌, arith, append_assoc, length-append, subst₂}
use Rattle.std.specs.Prelude.{◌==◌}
use Rattle.std.specs.List.{list_all, list_any}
use Rattle.std.proofs.lemmas.Bool.{not-true, eqb-false}
use Rattle.mig_meaning.specs.declared.states.Placed.{Placed}
use Rattle.mig_meaning.specs.Lists.{total, bit, In}
use Rattle.mig_meaning.specs.Rows.{value_at}
use Rattle.mig_algebra.specs.declared.atoms.Var.{Var}
use Rattle.mig_algebra.specs.declared.atoms.Atom.{Atom}
use Rattle.mig_algebra.specs.declared.atoms.Atom.TheVariants.{Int, Text, Param, Fresh, Col}
use Rattle.mig_algebra.specs.declared.literals.Lit.{Lit}
use Rattle.mig_algebra.specs.Meaning.{Setting, Env, choices, value_of, row_at, lit_true, lits_true}
use Rattle.mig_algebra.specs.Rename.{renumbered, below, is_not}
use Rattle.mig_algebra.proofs.Sums.{when, total-same, total-times}
use Rattle.mig_algebra.proofs.Some.{any-each}
use Rattle.mig_algebra.proofs.SomeChoice.{any-split, any-choices_append}
use Rattle.mig_algebra.proofs.Truth.{Reads, lits_with-true}
use Rattle.mig_algebra.proofs.Without.{row-below}
use Rattle.mig_algebra.proofs.Hosts.{host_sum, at_row}
use Rattle.mig_replacing.specs.Places.{others}
use Rattle.mig_replacing.specs.Replaced.{lit_at}
use Rattle.mig_replacing.proofs.Alternatives.{at-true}
use Rattle.mig_replacing.proofs.Reached.{each-from, choice-length}
use Rattle.mig_rows.specs.Writing.{into, avoids, leaves, lits_left}
use Rattle.mig_rows.proofs.Gone.{host-gone}

row-left : (c d k : Env) (q : Placed) (i v : ℕ) → length c ≡ i → (v == i) ≡ false → row_at ((c ++ (q ∷ d)) ++ k) v ≡ row_at ((c ++ d) ++ k) (into i i v)
row-left c d k q i v at h =
    ap (λ l. row_at l v) (append_assoc c (q ∷ d) k) ∙ row-below c (d ++ k) q i v at (eqb-false v i h)
    ∙ ap (λ l. row_at l (below i v)) (sym (append_assoc c d k))
    ∙ ap (λ b. row_at ((c ++ d) ++ k) (below i (cond b i v))) (sym h)

pub reads-left : (s : Setting) (c d : Env) (q : Placed) (i : ℕ) → length c ≡ i → Reads s (c ++ (q ∷ d)) (c ++ d) (avoids i) (is_not i) (renumbered (into i i)) (into i i)
reads-left s c d q i at = record {
  atoms = λ k a t. atom k a t;
  ids = λ k v t. ap (λ (r : Placed). r.id) (row-left c d k q i v at (not-true (v == i) t));
}
  where
    atom : (k : Env) (a : Atom) → avoids i a ≡ true → value_of s ((c ++ (q ∷ d)) ++ k) a ≡ value_of s ((c ++ d) ++ k) (renumbered (into i i) a)
    atom k (Int n) t = refl
    atom k (Text n) t = refl
    atom k (Param n) t = refl
    atom k (Fresh n) t = refl
    atom k (Col v col) t = ap (λ (r : Placed). value_at r col) (row-left c d k q i v at (not-true (v == i) t))

-- ---- one literal that names it

module _ (s : Setting) (e : Env) (vs : List Var) (v : Var) (ws : List Var) (lits : List Lit) (i j : ℕ) (at : length e + length vs ≡ i) (in' : j < length lits) (left : list_all (leaves i) (others lits j) ≡ true) where
  -- the other literals, without the variable
  abbrev rest : List Lit
  rest = lits_left i (others lits j)

  pub reads-rest : (c d : Env) (q : Placed) → length c ≡ length vs → Reads s (e ++ (c ++ (q ∷ d))) (e ++ (c ++ d)) (avoids i) (is_not i) (renumbered (into i i)) (into i i)
  reads-rest c d q l =
      subst₂ (λ a b. Reads s a b (avoids i) (is_not i) (renumbered (into i i)) (into i i)) (append_assoc e c (q ∷ d)) (append_assoc e c d)
      (reads-left s (e ++ c) d q i (length-append e c ∙ ap (λ n. length e + n) l ∙ at))

  pub rest-true : (c d : Env) (q : Placed) → length c ≡ length vs → lits_true s (e ++ (c ++ (q ∷ d))) (others lits j) ≡ lits_true s (e ++ (c ++ d)) rest
  rest-true c d q l = lits_with-true s (avoids i) (is_not i) (renumbered (into i i)) (into i i) _ _ (reads-rest c d q l) (others lits j) left

  -- all literals, where the variable has the row q
  whole-true : (c d : Env) (q : Placed) → length c ≡ length vs → lits_true s (e ++ (c ++ (q ∷ d))) lits ≡ (lits_true s (e ++ (c ++ d)) rest && lit_true s (e ++ (c ++ (q ∷ d))) (lit_at lits j))
  whole-true c d q l = at-true s (e ++ (c ++ (q ∷ d))) lits j in' ∙ ap (λ b. b && lit_true s (e ++ (c ++ (q ∷ d))) (lit_at lits j)) (rest-true c d q l)

  -- the literal is true with just one row, wherever the others are: both go
  pub host-once : (k k' : Env → ℕ) → ((a b : Env) → Reads s a b (avoids i) (is_not i) (renumbered (into i i)) (into i i) → k a ≡ k' b) → ((c d : Env) → In c (choices s vs) → In d (choices s ws) → ((q : Placed) → lits_true s (e ++ (c ++ (q ∷ d))) (others lits j) ≡ true) → total (λ q. bit (lit_true s (e ++ (c ++ (q ∷ d))) (lit_at lits j))) (s.rows v) ≡ 1) → host_sum s e k (vs ++ (v ∷ ws)) lits ≡ host_sum s e k' (vs ++ ws) rest
  host-once k k' ks one = host-gone s e k k' vs v ws lits rest cell
    where
      count : (a b : Bool) (n : ℕ) → when (a && b) n ≡ when a (bit b * n)
      count true true n = omega arith
      count true false n = omega arith
      count false b n = refl

      cell : (c d : Env) → In c (choices s vs) → In d (choices s ws) → total (at_row s e k lits c d) (s.rows v) ≡ when (lits_true s (e ++ (c ++ d)) rest) (k' (e ++ (c ++ d)))
      cell c d hc hd =
          let l = choice-length s vs c hc in
          total-same (at_row s e k lits c d) (λ q. when (lits_true s (e ++ (c ++ d)) rest) (bit (lit_true s (e ++ (c ++ (q ∷ d))) (lit_at lits j)) * k' (e ++ (c ++ d)))) (λ q.
          ap₂ when (whole-true c d q l) (ks _ _ (reads-rest c d q l)) ∙ count (lits_true s (e ++ (c ++ d)) rest) (lit_true s (e ++ (c ++ (q ∷ d))) (lit_at lits j)) (k' (e ++ (c ++ d)))) (s.rows v)
          ∙ go (lits_true s (e ++ (c ++ d)) rest) (λ t. one c d hc hd (λ q. rest-true c d q l ∙ t))
        where
          zeros : (ps : List Placed) → total (λ q. 0) ps ≡ 0
          zeros [] = refl
          zeros (p ∷ ps) = omega (arith, zeros ps)

          go : (b : Bool) → (b ≡ true → total (λ q. bit (lit_true s (e ++ (c ++ (q ∷ d))) (lit_at lits j))) (s.rows v) ≡ 1) → total (λ q. when b (bit (lit_true s (e ++ (c ++ (q ∷ d))) (lit_at lits j)) * k' (e ++ (c ++ d)))) (s.rows v) ≡ when b (k' (e ++ (c ++ d)))
          go true h =
              total-times (λ q. bit (lit_true s (e ++ (c ++ (q ∷ d))) (lit_at lits j))) (k' (e ++ (c ++ d))) (s.rows v)
              ∙ ap (λ n. n * k' (e ++ (c ++ d))) (h refl) ∙ omega arith
          go false h = zeros (s.rows v)

  -- with some row: both go from a body
  pub met-some : ((c d : Env) → In c (choices s vs) → In d (choices s ws) → ((q : Placed) → lits_true s (e ++ (c ++ (q ∷ d))) (others lits j) ≡ true) → list_any (λ q. lit_true s (e ++ (c ++ (q ∷ d))) (lit_at lits j)) (s.rows v) ≡ true) → list_any (λ c. lits_true s (e ++ c) lits) (choices s (vs ++ (v ∷ ws))) ≡ list_any (λ c. lits_true s (e ++ c) rest) (choices s (vs ++ ws))
  met-some some =
      any-split s (λ c. lits_true s (e ++ c) lits) vs v ws
      ∙ any-each _ _ (choices s vs) (each-from _ (choices s vs) (λ c hc. any-each _ _ (choices s ws) (each-from _ (choices s ws) (λ d hd. cell c d hc hd))))
      ∙ sym (any-choices_append s (λ c. lits_true s (e ++ c) rest) vs ws)
    where
      under : (b : Bool) (f : Placed → Bool) (ps : List Placed) → (b ≡ true → list_any f ps ≡ true) → list_any (λ q. b && f q) ps ≡ b
      under true f ps h = h refl
      under false f [] h = refl
      under false f (p ∷ ps) h = under false f ps (λ t. cc)

      cell : (c d : Env) → In c (choices s vs) → In d (choices s ws) → list_any (λ p. lits_true s (e ++ (c ++ (p ∷ d))) lits) (s.rows v) ≡ lits_true s (e ++ (c ++ d)) rest
      cell c d hc hd =
          let l = choice-length s vs c hc in
          any-each (λ p. lits_true s (e ++ (c ++ (p ∷ d))) lits) (λ q. lits_true s (e ++ (c ++ d)) rest && lit_true s (e ++ (c ++ (q ∷ d))) (lit_at lits j)) (s.rows v) (each-from _ (s.rows v) (λ q _. whole-true c d q l))
          ∙ under (lits_true s (e ++ (c ++ d)) rest) (λ q. lit_true s (e ++ (c ++ (q ∷ d))) (lit_at lits j)) (s.rows v) (λ t. some c d hc hd (λ q. rest-true c d q l ∙ t))
