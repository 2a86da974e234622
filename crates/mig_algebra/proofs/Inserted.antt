-- A table with one row more: the host over the table before, and the host with the row's values in place of the variable.
use Rattle.std.proofs.Common.{◌≡◌, ℕ, ◌+◌, true, List, [], ◌∷◌, ◌++◌, map, length, sym, ap, ap₂, ◌∙◌, append_assoc, length-append, subst₂, add-zero, arith}
use Rattle.std.specs.List.{list_all}
use Rattle.mig_schema.specs.declared.values.Value.{Value}
use Rattle.mig_meaning.specs.declared.states.Placed.{Placed}
use Rattle.mig_meaning.specs.Lists.{total}
use Rattle.mig_meaning.specs.Rows.{value_at}
use Rattle.mig_meaning.proofs.Bags.{total-append}
use Rattle.mig_meaning.proofs.Within.{each-weaker}
use Rattle.mig_algebra.specs.declared.atoms.Var.{Var}
use Rattle.mig_algebra.specs.declared.atoms.Atom.{Atom}
use Rattle.mig_algebra.specs.declared.literals.Lit.{Lit}
use Rattle.mig_algebra.specs.Meaning.{Setting, Env, choices, value_of, lits_true, head_of}
use Rattle.mig_algebra.specs.Rename.{lit_with, lit_all, without, below, is_not}
use Rattle.mig_algebra.proofs.Sums.{when, total-same, total-each}
use Rattle.mig_algebra.proofs.Truth.{Reads, lits_with-true, head-reads}
use Rattle.mig_algebra.proofs.Without.{any_atom, all-any_atom, reads-without}
use Rattle.mig_algebra.proofs.Weights.{weigh}
use Rattle.mig_algebra.proofs.Hosts.{host_sum, at_row, choice-lengths, total-choices_append, total-choices_pull}

-- what a host under e counts where its variable in the middle has the row p
abbrev pub row_sum : Setting → Env → (Env → ℕ) → List Var → List Var → List Lit → Placed → ℕ
row_sum s e k vs ws lits p = total (λ c. total (λ d. at_row s e k lits c d p) (choices s ws)) (choices s vs)

-- the sum with that variable outermost
pub host-pull : (s : Setting) (e : Env) (k : Env → ℕ) (vs : List Var) (v : Var) (ws : List Var) (lits : List Lit) → host_sum s e k (vs ++ (v ∷ ws)) lits ≡ total (row_sum s e k vs ws lits) (s.rows v)
host-pull s e k vs v ws lits = total-choices_pull s (λ c. when (lits_true s (e ++ c) lits) (k (e ++ c))) vs v ws

-- a host depends on no more of a variable than its rows
pub host-same_rows : (s : Setting) (e : Env) (k : Env → ℕ) (vs : List Var) (v v' : Var) (ws : List Var) (lits : List Lit) → s.rows v ≡ s.rows v' → host_sum s e k (vs ++ (v ∷ ws)) lits ≡ host_sum s e k (vs ++ (v' ∷ ws)) lits
host-same_rows s e k vs v v' ws lits same =
    host-pull s e k vs v ws lits ∙ ap (total (row_sum s e k vs ws lits)) same ∙ sym (host-pull s e k vs v' ws lits)

-- the row p, of whose columns `to` gives atoms, in place of the variable of number i
pub host-at_row : (s : Setting) (e : Env) (k k' : Env → ℕ) (vs ws : List Var) (lits : List Lit) (i : ℕ) (to : ℕ → Atom) (p : Placed) → length e + length vs ≡ i → list_all (lit_all any_atom (is_not i)) lits ≡ true → ((f : Env) (col : ℕ) → value_at p col ≡ value_of s f (to col)) → ((c d : Env) → Reads s (e ++ (c ++ (p ∷ d))) (e ++ (c ++ d)) any_atom (is_not i) (without i to) (below i) → k (e ++ (c ++ (p ∷ d))) ≡ k' (e ++ (c ++ d))) → row_sum s e k vs ws lits p ≡ host_sum s e k' (vs ++ ws) (map (lit_with (without i to) (below i)) lits)
host-at_row s e k k' vs ws lits i to p at named cols ks =
    total-each _ _ (choices s vs) (each-weaker _ _ outer (choices s vs) (choice-lengths s vs))
    ∙ sym (total-choices_append s (λ c. when (lits_true s (e ++ c) lits') (k' (e ++ c))) vs ws)
  where
    lits' : List Lit
    lits' = map (lit_with (without i to) (below i)) lits

    cell : (c d : Env) → length c ≡ length vs → at_row s e k lits c d p ≡ when (lits_true s (e ++ (c ++ d)) lits') (k' (e ++ (c ++ d)))
    cell c d l =
        let len : length (e ++ c) ≡ i = length-append e c ∙ ap (λ n. length e + n) l ∙ at in
        let r0 = reads-without s (e ++ c) d p i to len (λ f col. cols (((e ++ c) ++ d) ++ f) col) in
        let r = subst₂ (λ x y. Reads s x y any_atom (is_not i) (without i to) (below i)) (append_assoc e c (p ∷ d)) (append_assoc e c d) r0 in
        ap₂ (λ b n. when b n) (lits_with-true s any_atom (is_not i) (without i to) (below i) _ _ r lits named) (ks c d r)

    outer : (c : Env) → length c ≡ length vs → total (λ d. at_row s e k lits c d p) (choices s ws) ≡ total (λ d. when (lits_true s (e ++ (c ++ d)) lits') (k' (e ++ (c ++ d)))) (choices s ws)
    outer c l = total-same _ _ (λ d. cell c d l) (choices s ws)

-- a host over a table with the row p more
pub host-insert : (s : Setting) (e : Env) (k k' : Env → ℕ) (vs : List Var) (v v' : Var) (ws : List Var) (lits : List Lit) (i : ℕ) (to : ℕ → Atom) (p : Placed) → s.rows v ≡ s.rows v' ++ (p ∷ []) → length e + length vs ≡ i → list_all (lit_all any_atom (is_not i)) lits ≡ true → ((f : Env) (col : ℕ) → value_at p col ≡ value_of s f (to col)) → ((c d : Env) → Reads s (e ++ (c ++ (p ∷ d))) (e ++ (c ++ d)) any_atom (is_not i) (without i to) (below i) → k (e ++ (c ++ (p ∷ d))) ≡ k' (e ++ (c ++ d))) → host_sum s e k (vs ++ (v ∷ ws)) lits ≡ host_sum s e k (vs ++ (v' ∷ ws)) lits + host_sum s e k' (vs ++ ws) (map (lit_with (without i to) (below i)) lits)
host-insert s e k k' vs v v' ws lits i to p rows at named cols ks =
    host-pull s e k vs v ws lits
    ∙ ap (total (row_sum s e k vs ws lits)) rows
    ∙ total-append (row_sum s e k vs ws lits) (s.rows v') (p ∷ [])
    ∙ ap₂ (λ m n. m + n) (sym (host-pull s e k vs v' ws lits)) (add-zero (row_sum s e k vs ws lits p) ∙ host-at_row s e k k' vs ws lits i to p at named cols ks)

-- the same of a term
pub weigh-insert : (s : Setting) (w : List Value → ℕ) (vs : List Var) (v v' : Var) (ws : List Var) (lits : List Lit) (head : List Atom) (to : ℕ → Atom) (p : Placed) → s.rows v ≡ s.rows v' ++ (p ∷ []) → list_all (lit_all any_atom (is_not (length vs))) lits ≡ true → ((f : Env) (col : ℕ) → value_at p col ≡ value_of s f (to col)) → weigh s w (vs ++ (v ∷ ws)) lits head ≡ weigh s w (vs ++ (v' ∷ ws)) lits head + weigh s w (vs ++ ws) (map (lit_with (without (length vs) to) (below (length vs))) lits) (map (without (length vs) to) head)
weigh-insert s w vs v v' ws lits head to p rows named cols =
    host-insert s [] (λ c. w (head_of s head c)) (λ c. w (head_of s (map (without (length vs) to) head) c)) vs v v' ws lits (length vs) to p rows (omega arith) named cols
    (λ c d r. ap w (head-reads s any_atom (is_not (length vs)) (without (length vs) to) (below (length vs)) _ _ r head (all-any_atom head)))
