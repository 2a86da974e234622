-- A view of any number of tables folds in a host whose variables over its old tables stand anywhere.
use Rattle.std.proofs.Common.{◌≡◌, ℕ, List, [], ◌++◌, length, sym, ap, ◌∙◌}
use Rattle.std.proofs.lemmas.List.{map-append}
use Rattle.mig_meaning.specs.Lists.{total, In, Each}
use Rattle.mig_meaning.specs.Bags.{SameBag}
use Rattle.mig_algebra.specs.declared.atoms.Var.{Var}
use Rattle.mig_algebra.specs.declared.atoms.Atom.{Atom}
use Rattle.mig_algebra.specs.declared.literals.Lit.{Lit}
use Rattle.mig_algebra.specs.Meaning.{Setting, Env, choices, lits_true, head_of}
use Rattle.mig_algebra.specs.Tidied.{Slot, slots, numbers_of, vars_of}
use Rattle.mig_schema.specs.declared.values.Value.{Value}
use Rattle.mig_algebra.proofs.Sums.{when}
use Rattle.mig_algebra.proofs.Weights.{weigh}
use Rattle.mig_algebra.proofs.Slots.{Apart, slots-apart}
use Rattle.mig_algebra.proofs.Named.{put_back, choices-put_back, unnamed, reorders-named}
use Rattle.mig_algebra.proofs.Hosts.{host_sum, total-choices_append}
use Rattle.mig_algebra.proofs.Folded.{Joins, outputs_of, Alike, sum-fold, host_at}

-- what a host under e with these variables counts at a choice c for its unnamed variables and one for the named ones
abbrev pub named_at : Setting → Env → (Env → ℕ) → List Var → List Slot → List Lit → Env → Env → ℕ
named_at s e k vars named lits c x =
    when (lits_true s (e ++ put_back (numbers_of (unnamed named (slots (length e) vars) ++ named)) (numbers_of (slots (length e) vars)) (c ++ x)) lits)
    (k (e ++ put_back (numbers_of (unnamed named (slots (length e) vars) ++ named)) (numbers_of (slots (length e) vars)) (c ++ x)))

-- the named variables become those of the other side, which come last
pub host-fold_named : (s : Setting) (e : Env) (vars : List Var) (named : List Slot) (j j' : Joins) (k k' : Env → ℕ) (lits lits' : List Lit) → Each (λ q. In q (slots (length e) vars)) named → Apart named → vars_of named ≡ j.vars → SameBag (outputs_of s j) (outputs_of s j') → Alike (vars_of (unnamed named (slots (length e) vars))) j j' (named_at s e k vars named lits) (host_at s e k' lits') → host_sum s e k vars lits ≡ host_sum s e k' (vars_of (unnamed named (slots (length e) vars)) ++ j'.vars) lits'
host-fold_named s e vars named j j' k k' lits lits' i a olds bags h =
    choices-put_back s (λ c. when (lits_true s (e ++ c) lits) (k (e ++ c))) (length e) vars qs (reorders-named ps named (slots-apart (length e) vars) i a)
    ∙ ap (λ vs. total f (choices s vs)) (map-append (λ (p : Slot). p.var) others named ∙ ap (λ vs. vars_of others ++ vs) olds)
    ∙ total-choices_append s f (vars_of others) j.vars
    ∙ sum-fold s (vars_of others) j j' (named_at s e k vars named lits) (host_at s e k' lits') bags h
    ∙ sym (total-choices_append s (λ c. when (lits_true s (e ++ c) lits') (k' (e ++ c))) (vars_of others) j'.vars)
  where
    ps : List Slot
    ps = slots (length e) vars

    others : List Slot
    others = unnamed named ps

    qs : List Slot
    qs = others ++ named

    f : Env → ℕ
    f d = when (lits_true s (e ++ put_back (numbers_of qs) (numbers_of ps) d) lits) (k (e ++ put_back (numbers_of qs) (numbers_of ps) d))

-- the same of a term
pub weigh-fold_named : (s : Setting) (w : List Value → ℕ) (vars : List Var) (named : List Slot) (j j' : Joins) (lits lits' : List Lit) (head head' : List Atom) → Each (λ q. In q (slots 0 vars)) named → Apart named → vars_of named ≡ j.vars → SameBag (outputs_of s j) (outputs_of s j') → Alike (vars_of (unnamed named (slots 0 vars))) j j' (named_at s [] (λ c. w (head_of s head c)) vars named lits) (host_at s [] (λ c. w (head_of s head' c)) lits') → weigh s w vars lits head ≡ weigh s w (vars_of (unnamed named (slots 0 vars)) ++ j'.vars) lits' head'
weigh-fold_named s w vars named j j' lits lits' head head' i a olds bags h =
    host-fold_named s [] vars named j j' (λ c. w (head_of s head c)) (λ c. w (head_of s head' c)) lits lits' i a olds bags h
