-- A variable whose row is, wherever the literals are true, the row of another variable in scope: the other is written for it.
use Rattle.std.proofs.Common.{◌≡◌, ◌≢◌, ℕ, suc, ◌+◌, ◌<◌, true, List, ◌∷◌, ◌++◌, map, length, sym, ap, ◌∙◌, append_assoc, length-append, arith}
use Rattle.std.specs.List.{list_all}
use Rattle.std.proofs.lemmas.List.{get_or_at, length-map}
use Rattle.std.proofs.lemmas.Bool.Decides.{nat_tests}
use Rattle.mig_meaning.specs.declared.states.Placed.{Placed}
use Rattle.mig_meaning.specs.Lists.{total, Each}
use Rattle.mig_meaning.specs.Rows.{no_row, value_at}
use Rattle.mig_meaning.proofs.Within.{each-weaker}
use Rattle.mig_algebra.specs.declared.atoms.Var.{Var}
use Rattle.mig_algebra.specs.declared.atoms.Atom.TheVariants.{Col}
use Rattle.mig_algebra.specs.declared.literals.Lit.{Lit}
use Rattle.mig_algebra.specs.Meaning.{Setting, Env, value_of, row_at, lits_true}
use Rattle.mig_algebra.specs.Rename.{lit_with, lit_all, without, below, is_not}
use Rattle.mig_algebra.proofs.Products.{Picks, picks-length}
use Rattle.mig_algebra.proofs.Truth.{Reads}
use Rattle.mig_algebra.proofs.Without.{any_atom, row-before, row-below}
use Rattle.mig_algebra.proofs.Hosts.{host_sum, host-without, at_row, fixed-row}

-- the row q stands once among the rows, and all others have another value in the column
pub record IsAlone (rows : List Placed) (q : Placed) (col : ℕ) : Type 0 where
  pub before : List Placed
  pub behind : List Placed
  pub parts : rows ≡ before ++ (q ∷ behind)
  pub first : Each (λ (p : Placed). value_at p col ≢ value_at q col) before
  pub last : Each (λ (p : Placed). value_at p col ≢ value_at q col) behind

below-scope : (i x a m : ℕ) → a ≡ i → x < a + suc m → x ≢ i → below i x < a + m
below-scope i x a m e h ne = grind (arith, nat_tests)

-- the variable of number i goes, whose column the literals equate with that of x; the row of x is alone among those of the variable
pub host-merged : (s : Setting) (e : Env) (k k' : Env → ℕ) (vs : List Var) (v : Var) (ws : List Var) (lits : List Lit) (i x col : ℕ) → length e + length vs ≡ i → x < (length e + length vs) + suc (length ws) → x ≢ i → ((c d : Env) → length c ≡ length vs → Picks (map s.rows vs) c → Picks (map s.rows ws) d → IsAlone (s.rows v) (row_at (e ++ (c ++ d)) (below i x)) col) → ((f : Env) → lits_true s f lits ≡ true → value_of s f (Col i col) ≡ value_of s f (Col x col)) → list_all (lit_all any_atom (is_not i)) lits ≡ true → ((c d : Env) (p : Placed) → Reads s (e ++ (c ++ (p ∷ d))) (e ++ (c ++ d)) any_atom (is_not i) (without i (λ n. Col (below i x) n)) (below i) → k (e ++ (c ++ (p ∷ d))) ≡ k' (e ++ (c ++ d))) → host_sum s e k (vs ++ (v ∷ ws)) lits ≡ host_sum s e k' (vs ++ ws) (map (lit_with (without i (λ n. Col (below i x) n)) (below i)) lits)
host-merged s e k k' vs v ws lits i x col at within ne alone equal named ks =
    host-without s e k k' vs v ws lits lits i (λ n. Col (below i x) n) at named ks one
  where
    long : (c : Env) → length c ≡ length vs → length (e ++ c) ≡ i
    long c l = length-append e c ∙ ap (λ n. length e + n) l ∙ at

    own : (c d : Env) (p : Placed) → length c ≡ length vs → row_at (e ++ (c ++ (p ∷ d))) i ≡ p
    own c d p l = ap (λ y. row_at y i) (sym (append_assoc e c (p ∷ d))) ∙ get_or_at (e ++ c) p d no_row i (long c l)

    others : (c d : Env) (p : Placed) → length c ≡ length vs → row_at (e ++ (c ++ (p ∷ d))) x ≡ row_at (e ++ (c ++ d)) (below i x)
    others c d p l =
        ap (λ y. row_at y x) (sym (append_assoc e c (p ∷ d))) ∙ row-below (e ++ c) d p i x (long c l) ne ∙ ap (λ y. row_at y (below i x)) (append_assoc e c d)

    never : (c d : Env) → length c ≡ length vs → (ps : List Placed) → Each (λ (p : Placed). value_at p col ≢ value_at (row_at (e ++ (c ++ d)) (below i x)) col) ps → Each (λ p. lits_true s (e ++ (c ++ (p ∷ d))) lits ≡ true → ⊥) ps
    never c d l ps h =
        each-weaker (λ (p : Placed). value_at p col ≢ value_at (row_at (e ++ (c ++ d)) (below i x)) col) (λ p. lits_true s (e ++ (c ++ (p ∷ d))) lits ≡ true → ⊥)
        (λ p ne t. ne (ap (λ y. value_at y col) (sym (own c d p l)) ∙ equal (e ++ (c ++ (p ∷ d))) t ∙ ap (λ y. value_at y col) (others c d p l))) ps h

    bound : (c d : Env) → length c ≡ length vs → length d ≡ length ws → below i x < length (e ++ (c ++ d))
    bound c d l m =
        let b = below-scope i x (length e + length vs) (length ws) at within ne in
        omega (arith, b, l, m, length-append e (c ++ d), length-append c d)

    one : (c d : Env) → length c ≡ length vs → Picks (map s.rows vs) c → Picks (map s.rows ws) d → (q : Placed) × (total (at_row s e k lits c d) (s.rows v) ≡ at_row s e k lits c d q) × ((r : Env) (n : ℕ) → value_at q n ≡ value_of s ((e ++ (c ++ d)) ++ r) (Col (below i x) n))
    one c d l p p' =
        let a = alone c d l p p' in
        let m = picks-length (map s.rows ws) d p' ∙ length-map ws s.rows in (
          row_at (e ++ (c ++ d)) (below i x),
          ap (total (at_row s e k lits c d)) a.parts
              ∙ fixed-row s e k lits c d (row_at (e ++ (c ++ d)) (below i x)) a.before a.behind (never c d l a.before a.first) (never c d l a.behind a.last),
          λ r n. ap (λ y. value_at y n) (sym (row-before (e ++ (c ++ d)) r (below i x) (bound c d l m))),
        )
