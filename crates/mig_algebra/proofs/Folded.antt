-- A view of any number of tables: variables over its old tables, whose rows join as its old side does, become variables over its new ones.
use Rattle.std.proofs.Common.{◌≡◌, ℕ, Bool, true, List, ◌++◌, map, length, sym, ◌∙◌}
use Rattle.std.specs.Prelude.{filter}
use Rattle.mig_schema.specs.declared.values.Value.{Value}
use Rattle.mig_meaning.specs.Lists.{total, bit, Each}
use Rattle.mig_meaning.specs.Bags.{row_eq, SameBag}
use Rattle.mig_meaning.proofs.Bags.{total-map}
use Rattle.mig_meaning.proofs.Within.{each-weaker}
use Rattle.mig_algebra.specs.declared.atoms.Var.{Var}
use Rattle.mig_algebra.specs.declared.literals.Lit.{Lit}
use Rattle.mig_algebra.specs.Meaning.{Setting, Env, choices, lits_true}
use Rattle.mig_algebra.proofs.Lists.{each-passes}
use Rattle.mig_algebra.proofs.Sums.{when, when_given, total-each, total-filter}
use Rattle.mig_algebra.proofs.Weights.{total-related}
use Rattle.mig_algebra.proofs.Hosts.{choice-lengths, total-choices_append, host_sum}

-- one side of a view: its variables, which choices of rows join, and what these give
pub record Joins : Type 0 where
  pub vars : List Var
  pub joins : Env → Bool
  pub outs : Env → List Value

-- the outputs of the rows that join
abbrev pub outputs_of : Setting → Joins → List (List Value)
outputs_of s j = map j.outs (filter j.joins (choices s j.vars))

-- sums that count only what joins, and the same at equal outputs, where the bags of outputs are equal
pub total-fold : {X : Type 0} (joins : X → Bool) (out : X → List Value) (xs : List X) (P : X → Type 0) → Each P xs → (s : Setting) (j : Joins) (f : X → ℕ) (g : Env → ℕ) → SameBag (map out (filter joins xs)) (outputs_of s j) → ((x : X) → P x → f x ≡ when (joins x) (f x)) → ((y : Env) → length y ≡ length j.vars → g y ≡ when (j.joins y) (g y)) → ((x : X) (y : Env) → P x → length y ≡ length j.vars → joins x ≡ true → j.joins y ≡ true → out x ≡ j.outs y → f x ≡ g y) → total f xs ≡ total g (choices s j.vars)
total-fold joins out xs P all s j f g bags given given' same =
    total-each f (λ x. when (joins x) (f x)) xs (each-weaker P (λ x. f x ≡ when (joins x) (f x)) given xs all)
    ∙ sym (total-filter f joins xs)
    ∙ total-related out j.outs f g (λ x. (joins x ≡ true) × P x) (λ y. (j.joins y ≡ true) × (length y ≡ length j.vars)) (λ x y p q r. same x y p.1 q.1 p.0 q.0 r) (filter joins xs) (filter j.joins (choices s j.vars)) (each-passes joins P xs all) (each-passes j.joins _ (choices s j.vars) (choice-lengths s j.vars))
    (λ r. sym (total-map (λ q. bit (row_eq r q)) out (filter joins xs)) ∙ bags.by r ∙ total-map (λ q. bit (row_eq r q)) j.outs (filter j.joins (choices s j.vars)))
    ∙ total-filter g j.joins (choices s j.vars)
    ∙ sym (total-each g (λ y. when (j.joins y) (g y)) (choices s j.vars) (each-weaker (λ y. length y ≡ length j.vars) (λ y. g y ≡ when (j.joins y) (g y)) given' (choices s j.vars) (choice-lengths s j.vars)))

-- f and g, at a choice for some variables and one for a side's, count only rows that join, and the same at rows with equal outputs
pub record Alike (vs : List Var) (j j' : Joins) (f g : Env → Env → ℕ) : Type 0 where
  pub given : (c x : Env) → length c ≡ length vs → length x ≡ length j.vars → f c x ≡ when (j.joins x) (f c x)
  pub given' : (c y : Env) → length c ≡ length vs → length y ≡ length j'.vars → g c y ≡ when (j'.joins y) (g c y)
  pub same : (c x y : Env) → length c ≡ length vs → length x ≡ length j.vars → length y ≡ length j'.vars → j.joins x ≡ true → j'.joins y ≡ true → j.outs x ≡ j'.outs y → f c x ≡ g c y

-- equal bags of outputs give equal sums
pub sum-fold : (s : Setting) (vs : List Var) (j j' : Joins) (f g : Env → Env → ℕ) → SameBag (outputs_of s j) (outputs_of s j') → Alike vs j j' f g → total (λ c. total (f c) (choices s j.vars)) (choices s vs) ≡ total (λ c. total (g c) (choices s j'.vars)) (choices s vs)
sum-fold s vs j j' f g bags h = total-each _ _ (choices s vs) (each-weaker _ _ each (choices s vs) (choice-lengths s vs))
  where
    each : (c : Env) → length c ≡ length vs → total (f c) (choices s j.vars) ≡ total (g c) (choices s j'.vars)
    each c l =
        total-fold j.joins j.outs (choices s j.vars) (λ x. length x ≡ length j.vars) (choice-lengths s j.vars) s j' (f c) (g c) bags (λ x. h.given c x l) (λ y. h.given' c y l) (λ x y m n t u r. h.same c x y l m n t u r)

-- what a host under e counts at a choice c for some variables and one for a side's
abbrev pub host_at : Setting → Env → (Env → ℕ) → List Lit → Env → Env → ℕ
host_at s e k lits c x = when (lits_true s (e ++ (c ++ x)) lits) (k (e ++ (c ++ x)))

-- literals that give what joins
pub given-by_lits : (s : Setting) (e : Env) (k : Env → ℕ) (lits : List Lit) (joins : Env → Bool) → ((c x : Env) → lits_true s (e ++ (c ++ x)) lits ≡ true → joins x ≡ true) → (c x : Env) → host_at s e k lits c x ≡ when (joins x) (host_at s e k lits c x)
given-by_lits s e k lits joins h c x = when_given (joins x) (lits_true s (e ++ (c ++ x)) lits) (k (e ++ (c ++ x))) (h c x)

-- where both sides of a view have equal bags of outputs, the last variables of a host become those of the other side
pub host-fold : (s : Setting) (e : Env) (vs : List Var) (j j' : Joins) (k k' : Env → ℕ) (lits lits' : List Lit) → SameBag (outputs_of s j) (outputs_of s j') → Alike vs j j' (host_at s e k lits) (host_at s e k' lits') → host_sum s e k (vs ++ j.vars) lits ≡ host_sum s e k' (vs ++ j'.vars) lits'
host-fold s e vs j j' k k' lits lits' bags h =
    total-choices_append s (λ c. when (lits_true s (e ++ c) lits) (k (e ++ c))) vs j.vars
    ∙ sum-fold s vs j j' (host_at s e k lits) (host_at s e k' lits') bags h
    ∙ sym (total-choices_append s (λ c. when (lits_true s (e ++ c) lits') (k' (e ++ c))) vs j'.vars)
