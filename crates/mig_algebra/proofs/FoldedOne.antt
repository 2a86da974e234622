-- A view whose old side is one table: a variable over it, anywhere in a host, becomes those of the new side, which come last.
use Rattle.std.proofs.Common.{◌≡◌, ℕ, true, List, [], ◌∷◌, ◌++◌, map, length, refl, sym, ap, ◌∙◌, subst}
use Rattle.std.specs.Prelude.{filter}
use Rattle.mig_schema.specs.declared.values.Value.{Value}
use Rattle.mig_meaning.specs.declared.states.Placed.{Placed}
use Rattle.mig_meaning.specs.Lists.{total, Each}
use Rattle.mig_meaning.specs.Bags.{SameBag}
use Rattle.mig_meaning.proofs.Within.{each-weaker}
use Rattle.mig_algebra.specs.declared.atoms.Var.{Var}
use Rattle.mig_algebra.specs.declared.atoms.Atom.{Atom}
use Rattle.mig_algebra.specs.declared.literals.Lit.{Lit}
use Rattle.mig_algebra.specs.Meaning.{Setting, Env, choices, lits_true, head_of}
use Rattle.mig_algebra.proofs.Sums.{when, when_given, total-each}
use Rattle.mig_algebra.proofs.Weights.{weigh}
use Rattle.mig_algebra.proofs.Hosts.{host_sum, host-split, at_row, choice-lengths, total-choices_append}
use Rattle.mig_algebra.proofs.Folded.{Joins, outputs_of, total-fold}

filter-all : {X : Type 0} (xs : List X) → filter (λ (x : X). true) xs ≡ xs
filter-all [] = refl
filter-all (x ∷ xs) = ap (λ l. x ∷ l) (filter-all xs)

-- what a host under e counts at choices c and d for its own variables before and behind one that went, and y for a side's
abbrev pub parted_at : Setting → Env → (Env → ℕ) → List Lit → Env → Env → Env → ℕ
parted_at s e k lits c d y = when (lits_true s (e ++ ((c ++ d) ++ y)) lits) (k (e ++ ((c ++ d) ++ y)))

-- at a row and a choice that joins, with equal outputs, the same is counted
pub record AlikeOne (s : Setting) (e : Env) (k k' : Env → ℕ) (vs ws : List Var) (lits lits' : List Lit) (out : Placed → List Value) (j : Joins) : Type 0 where
  pub given : (c d y : Env) → length c ≡ length vs → length d ≡ length ws → length y ≡ length j.vars → lits_true s (e ++ ((c ++ d) ++ y)) lits' ≡ true → j.joins y ≡ true
  pub same : (c d : Env) (p : Placed) (y : Env) → length c ≡ length vs → length d ≡ length ws → length y ≡ length j.vars → j.joins y ≡ true → out p ≡ j.outs y → at_row s e k lits c d p ≡ parted_at s e k' lits' c d y

-- where the outputs of the table's rows and those of the join's are equal bags
pub host-fold_one : (s : Setting) (e : Env) (k k' : Env → ℕ) (vs : List Var) (v : Var) (ws : List Var) (lits lits' : List Lit) (out : Placed → List Value) (j : Joins) → SameBag (map out (s.rows v)) (outputs_of s j) → AlikeOne s e k k' vs ws lits lits' out j → host_sum s e k (vs ++ (v ∷ ws)) lits ≡ host_sum s e k' ((vs ++ ws) ++ j.vars) lits'
host-fold_one s e k k' vs v ws lits lits' out j bags h =
    host-split s e k vs v ws lits
    ∙ total-each _ _ (choices s vs) (each-weaker _ _ outer (choices s vs) (choice-lengths s vs))
    ∙ sym (total-choices_append s (λ c. total (λ y. when (lits_true s (e ++ (c ++ y)) lits') (k' (e ++ (c ++ y)))) (choices s j.vars)) vs ws)
    ∙ sym (total-choices_append s (λ c. when (lits_true s (e ++ c) lits') (k' (e ++ c))) (vs ++ ws) j.vars)
  where
    inner : (c d : Env) → length c ≡ length vs → length d ≡ length ws → total (at_row s e k lits c d) (s.rows v) ≡ total (parted_at s e k' lits' c d) (choices s j.vars)
    inner c d l m =
        total-fold (λ (p : Placed). true) out (s.rows v) (λ (p : Placed). Unit {0}) (all (s.rows v)) s j (at_row s e k lits c d) (parted_at s e k' lits' c d) (subst (λ l. SameBag (map out l) (outputs_of s j)) (sym (filter-all (s.rows v))) bags)
        (λ p u. refl) (λ y n. when_given (j.joins y) (lits_true s (e ++ ((c ++ d) ++ y)) lits') (k' (e ++ ((c ++ d) ++ y))) (h.given c d y l m n))
        (λ p y u n t i o. h.same c d p y l m n i o)
      where
        all : (ps : List Placed) → Each (λ (p : Placed). Unit {0}) ps
        all [] = tt
        all (p ∷ ps) = (tt, all ps)

    outer : (c : Env) → length c ≡ length vs → total (λ d. total (at_row s e k lits c d) (s.rows v)) (choices s ws) ≡ total (λ d. total (λ y. when (lits_true s (e ++ ((c ++ d) ++ y)) lits') (k' (e ++ ((c ++ d) ++ y)))) (choices s j.vars)) (choices s ws)
    outer c l = total-each _ _ (choices s ws) (each-weaker _ _ (λ d m. inner c d l m) (choices s ws) (choice-lengths s ws))

-- the same of a term
pub weigh-fold_one : (s : Setting) (w : List Value → ℕ) (vs : List Var) (v : Var) (ws : List Var) (lits lits' : List Lit) (head head' : List Atom) (out : Placed → List Value) (j : Joins) → SameBag (map out (s.rows v)) (outputs_of s j) → AlikeOne s [] (λ c. w (head_of s head c)) (λ c. w (head_of s head' c)) vs ws lits lits' out j → weigh s w (vs ++ (v ∷ ws)) lits head ≡ weigh s w ((vs ++ ws) ++ j.vars) lits' head'
weigh-fold_one s w vs v ws lits lits' head head' out j bags h =
    host-fold_one s [] (λ c. w (head_of s head c)) (λ c. w (head_of s head' c)) vs v ws lits lits' out j bags h
