-- Hosts: a term, or a body under an enclosing choice of rows, as one sum.
use Rattle.std.proofs.Common.{◌≡◌, ℕ, ◌+◌, true, List, [], ◌∷◌, ◌++◌, map, sym, ap, ap₂, ◌∙◌, length, append_assoc, subst, subst₂, length-append}
use Rattle.std.specs.List.{list_any, list_all}
use Rattle.std.proofs.lemmas.Bool.{false_from_ne_true}
use Rattle.std.proofs.lemmas.List.{map-append, length-map}
use Rattle.mig_meaning.specs.declared.states.Placed.{Placed}
use Rattle.mig_meaning.specs.Lists.{total, product, Each}
use Rattle.mig_meaning.specs.Rows.{value_at}
use Rattle.mig_algebra.specs.declared.atoms.Var.{Var}
use Rattle.mig_algebra.specs.declared.atoms.Atom.{Atom}
use Rattle.mig_algebra.specs.declared.literals.Lit.{Lit}
use Rattle.mig_algebra.specs.Meaning.{Setting, Env, choices, value_of, lits_true}
use Rattle.mig_algebra.specs.Rename.{lit_with, lit_all, without, below, is_not}
use Rattle.mig_algebra.proofs.Sums.{when, when_one, total-same, total-each, total-one, total-swap}
use Rattle.mig_algebra.proofs.Some.{positive, any_is_positive}
use Rattle.mig_algebra.proofs.Products.{Picks, product_picks, product_lengths, total-product, total-product_append, total-product_pull}
use Rattle.mig_algebra.proofs.Truth.{Reads, lits_with-true}
use Rattle.mig_algebra.proofs.Without.{any_atom, reads-without}

-- ---- choices

-- a choice has one row for each variable
pub choice-lengths : (s : Setting) (us : List Var) → Each (λ c. length c ≡ length us) (choices s us)
choice-lengths s us = subst (λ n. Each (λ c. length c ≡ n) (choices s us)) (length-map us s.rows) (product_lengths (map s.rows us))

-- the choices for some variables, then those for more
pub total-choices_append : (s : Setting) (f : Env → ℕ) (vs ws : List Var) → total f (choices s (vs ++ ws)) ≡ total (λ c. total (λ d. f (c ++ d)) (choices s ws)) (choices s vs)
total-choices_append s f vs ws =
    ap (λ l. total f (product l)) (map-append s.rows vs ws) ∙ total-product_append f (map s.rows vs) (map s.rows ws)

-- the row of a variable in the middle first
pub total-choices_pull : (s : Setting) (f : Env → ℕ) (vs : List Var) (v : Var) (ws : List Var) → total f (choices s (vs ++ (v ∷ ws))) ≡ total (λ p. total (λ c. total (λ d. f (c ++ (p ∷ d))) (choices s ws)) (choices s vs)) (s.rows v)
total-choices_pull s f vs v ws =
    ap (λ l. total f (product l)) (map-append s.rows vs (v ∷ ws)) ∙ total-product_pull f (map s.rows vs) (s.rows v) (map s.rows ws)

-- ---- hosts

-- the sum of k over the choices for a host's variables, under e, that make its literals true
abbrev pub host_sum : Setting → Env → (Env → ℕ) → List Var → List Lit → ℕ
host_sum s e k vars lits = total (λ c. when (lits_true s (e ++ c) lits) (k (e ++ c))) (choices s vars)

-- a body is met where such a sum is above 0
pub met-by_sum : (s : Setting) (e : Env) (vars : List Var) (lits : List Lit) → list_any (λ c. lits_true s (e ++ c) lits) (choices s vars) ≡ positive (host_sum s e (λ _. 1) vars lits)
met-by_sum s e vars lits =
    any_is_positive (λ c. lits_true s (e ++ c) lits) (choices s vars)
    ∙ ap positive (total-same _ _ (λ c. sym (when_one (lits_true s (e ++ c) lits))) (choices s vars))

-- what a choice counts, where a variable in the middle has the row p
abbrev pub at_row : Setting → Env → (Env → ℕ) → List Lit → Env → Env → Placed → ℕ
at_row s e k lits c d p = when (lits_true s (e ++ (c ++ (p ∷ d))) lits) (k (e ++ (c ++ (p ∷ d))))

-- the sum with that variable innermost
pub host-split : (s : Setting) (e : Env) (k : Env → ℕ) (vs : List Var) (v : Var) (ws : List Var) (lits : List Lit) → host_sum s e k (vs ++ (v ∷ ws)) lits ≡ total (λ c. total (λ d. total (at_row s e k lits c d) (s.rows v)) (choices s ws)) (choices s vs)
host-split s e k vs v ws lits =
    total-choices_append s (λ c. when (lits_true s (e ++ c) lits) (k (e ++ c))) vs (v ∷ ws)
    ∙ total-same _ _ (λ c. total-product (λ d. when (lits_true s (e ++ (c ++ d)) lits) (k (e ++ (c ++ d)))) (s.rows v) (map s.rows ws) ∙ total-swap (λ p d. at_row s e k lits c d p) (s.rows v) (choices s ws)) (choices s vs)

-- at each choice for the others, the sum over the variable's rows is what one row gives, of which `to` gives the columns: the variable goes
pub host-without : (s : Setting) (e : Env) (k k' : Env → ℕ) (vs : List Var) (v : Var) (ws : List Var) (lits lits1 : List Lit) (i : ℕ) (to : ℕ → Atom) → length e + length vs ≡ i → list_all (lit_all any_atom (is_not i)) lits1 ≡ true → ((c d : Env) (p : Placed) → Reads s (e ++ (c ++ (p ∷ d))) (e ++ (c ++ d)) any_atom (is_not i) (without i to) (below i) → k (e ++ (c ++ (p ∷ d))) ≡ k' (e ++ (c ++ d))) → ((c d : Env) → length c ≡ length vs → Picks (map s.rows vs) c → Picks (map s.rows ws) d → (q : Placed) × (total (at_row s e k lits c d) (s.rows v) ≡ at_row s e k lits1 c d q) × ((r : Env) (col : ℕ) → value_at q col ≡ value_of s ((e ++ (c ++ d)) ++ r) (to col))) → host_sum s e k (vs ++ (v ∷ ws)) lits ≡ host_sum s e k' (vs ++ ws) (map (lit_with (without i to) (below i)) lits1)
host-without s e k k' vs v ws lits lits1 i to at named ks one =
    host-split s e k vs v ws lits
    ∙ total-each _ _ (choices s vs) (outer (choices s vs) (choice-lengths s vs) (product_picks (map s.rows vs)))
    ∙ sym (total-choices_append s (λ c. when (lits_true s (e ++ c) lits') (k' (e ++ c))) vs ws)
  where
    lits' : List Lit
    lits' = map (lit_with (without i to) (below i)) lits1

    cell : (c d : Env) → length c ≡ length vs → Picks (map s.rows vs) c → Picks (map s.rows ws) d → total (at_row s e k lits c d) (s.rows v) ≡ when (lits_true s (e ++ (c ++ d)) lits') (k' (e ++ (c ++ d)))
    cell c d l p p' =
        let o = one c d l p p' in
        let len : length (e ++ c) ≡ i = length-append e c ∙ ap (λ n. length e + n) l ∙ at in
        let cols = λ (r : Env) (col : ℕ). o.2 r col ∙ ap (λ x. value_of s (x ++ r) (to col)) (sym (append_assoc e c d)) in
        let r0 = reads-without s (e ++ c) d o.0 i to len cols in
        let r = subst₂ (λ x y. Reads s x y any_atom (is_not i) (without i to) (below i)) (append_assoc e c (o.0 ∷ d)) (append_assoc e c d) r0 in
        o.1 ∙ ap₂ (λ b n. when b n) (lits_with-true s any_atom (is_not i) (without i to) (below i) _ _ r lits1 named) (ks c d o.0 r)

    inner : (c : Env) → length c ≡ length vs → Picks (map s.rows vs) c → (ds : List Env) → Each (Picks (map s.rows ws)) ds → Each (λ d. total (at_row s e k lits c d) (s.rows v) ≡ when (lits_true s (e ++ (c ++ d)) lits') (k' (e ++ (c ++ d)))) ds
    inner c l p [] q = tt
    inner c l p (d ∷ ds) q = (cell c d l p q.0, inner c l p ds q.1)

    outer : (cs : List Env) → Each (λ c. length c ≡ length vs) cs → Each (Picks (map s.rows vs)) cs → Each (λ c. total (λ d. total (at_row s e k lits c d) (s.rows v)) (choices s ws) ≡ total (λ d. when (lits_true s (e ++ (c ++ d)) lits') (k' (e ++ (c ++ d)))) (choices s ws)) cs
    outer [] l p = tt
    outer (c ∷ cs) l p = (total-each _ _ (choices s ws) (inner c l.0 p.0 (choices s ws) (product_picks (map s.rows ws))), outer cs l.1 p.1)

-- ---- a variable whose row the literals fix

-- q stands once in the table, and where the literals are true of a row it is q
pub fixed-row : (s : Setting) (e : Env) (k : Env → ℕ) (lits : List Lit) (c d : Env) (q : Placed) (us vs : List Placed) → Each (λ p. lits_true s (e ++ (c ++ (p ∷ d))) lits ≡ true → ⊥) us → Each (λ p. lits_true s (e ++ (c ++ (p ∷ d))) lits ≡ true → ⊥) vs → total (at_row s e k lits c d) (us ++ (q ∷ vs)) ≡ at_row s e k lits c d q
fixed-row s e k lits c d q us vs a b = total-one (at_row s e k lits c d) us q vs (zero-at us a) (zero-at vs b)
  where
    zero-at : (ps : List Placed) → Each (λ p. lits_true s (e ++ (c ++ (p ∷ d))) lits ≡ true → ⊥) ps → Each (λ p. at_row s e k lits c d p ≡ 0) ps
    zero-at [] h = tt
    zero-at (p ∷ ps) h = (ap (λ b. when b (k (e ++ (c ++ (p ∷ d))))) (false_from_ne_true (lits_true s (e ++ (c ++ (p ∷ d))) lits) h.0), zero-at ps h.1)
