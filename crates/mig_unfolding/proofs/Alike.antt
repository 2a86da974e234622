-- Hosts that together have a host's weights, and what follows of them: they have its bag, and one of them is met as a body exactly where it is.
use Rattle.std.proofs.Common.{◌≡◌, ◌≢◌, ℕ, zero, suc, ◌+◌, ◌-◌, ◌<◌, cond, ◌||◌, List, [], ◌∷◌, ◌++◌, map, length, take, drop, Some, refl, sym, ap, ap₂, ◌∙◌, arith}
use Rattle.std.specs.Prelude.{◌==◌, slice_get}
use Rattle.std.specs.List.{list_any}
use Rattle.std.proofs.lemmas.Bool.{eq-eqb, ne_eqb}
use Rattle.mig_schema.specs.declared.values.Value.{Value}
use Rattle.mig_base.specs.Lists.{numbered}
use Rattle.mig_meaning.specs.Lists.{total}
use Rattle.mig_meaning.specs.States.{IsState}
use Rattle.mig_meaning.proofs.Maps.{any-map}
use Rattle.mig_algebra.specs.declared.atoms.Var.{Var}
use Rattle.mig_algebra.specs.declared.literals.Inner.{Inner}
use Rattle.mig_algebra.specs.declared.terms.Term.{Term}
use Rattle.mig_algebra.specs.Meaning.{Setting, Env, head_of, choices, lits_true}
use Rattle.mig_algebra.specs.Proper.{Sides, schema_of}
use Rattle.mig_algebra.proofs.Sums.{when}
use Rattle.mig_algebra.proofs.Some.{positive, any-same}
use Rattle.mig_algebra.proofs.Hosts.{met-by_sum}
use Rattle.mig_replacing.specs.Places.{Place}
use Rattle.mig_replacing.specs.Reaching.{Reaches, MetAs, is_met}
use Rattle.mig_obligations.specs.Settings.{Moment, stage_of}
use Rattle.mig_unfolding.specs.Hosts.{as_host, as_body, var_before, before_statement}

-- what a host counts at a choice for all its variables and those around
abbrev pub counted : Setting → (List Value → ℕ) → Term → Env → ℕ
counted s w t f = when (lits_true s f t.lits) (w (head_of s t.head f))

-- a host's weight at a choice of rows for all around
abbrev pub host_weight : Setting → Env → (List Value → ℕ) → Term → ℕ
host_weight s e w t = total (λ c. counted s w t (e ++ c)) (choices s t.vars)

-- hosts in place of a host, at a choice of rows for all around: together they have its weights
pub record HostsAlike (s : Setting) (e : Env) (t : Term) (hosts : List Term) : Type 0 where
  pub by : (w : List Value → ℕ) → total (host_weight s e w) hosts ≡ host_weight s e w t

pub alike : (s : Setting) (e : Env) (t : Term) (hosts : List Term) → ((w : List Value → ℕ) → total (host_weight s e w) hosts ≡ host_weight s e w t) → HostsAlike s e t hosts
alike s e t hosts h = record { by = h }

any-positive : {X : Type 0} (f : X → ℕ) (xs : List X) → list_any (λ x. positive (f x)) xs ≡ positive (total f xs)
any-positive f [] = refl
any-positive f (x ∷ xs) = ap (λ b. positive (f x) || b) (any-positive f xs) ∙ go (f x) (total f xs)
  where
    go : (a b : ℕ) → (positive a || positive b) ≡ positive (a + b)
    go zero b = let e : b ≡ 0 + b = omega arith in ap positive e
    go (suc a) b = let e : suc (a + b) ≡ suc a + b = omega arith in ap positive e

-- one of them is met as a body exactly where it is
pub alike-met : (s : Setting) (e : Env) (t : Term) (hosts : List Term) → HostsAlike s e t hosts → list_any (λ h. is_met s e (as_body h)) hosts ≡ is_met s e (as_body t)
alike-met s e t hosts h =
    any-same (λ (x : Term). is_met s e (as_body x)) (λ (x : Term). positive (host_weight s e (λ _. 1) x)) (λ (x : Term). met-by_sum s e x.vars x.lits) hosts
    ∙ any-positive (host_weight s e (λ _. 1)) hosts ∙ ap positive (h.by (λ _. 1)) ∙ sym (met-by_sum s e t.vars t.lits)

-- bodies alike may stand for a body
pub bodies-alike : (s : Setting) (p : Place) (b : Inner) (hosts : List Term) → ((e : Env) → Reaches s p e → HostsAlike s e (as_host b) hosts) → MetAs s p b (map as_body hosts)
bodies-alike s p b hosts h = record { by = λ e r. any-map (is_met s e) as_body (λ (x : Term). is_met s e (as_body x)) (λ x. refl) hosts ∙ alike-met s e (as_host b) hosts (h e r) }

-- ---- a variable among a host's own

-- the items before and behind the one of a number
pub parts-at : {X : Type 0} (xs : List X) (i : ℕ) (x : X) → slice_get xs i ≡ Some x → (xs ≡ take i xs ++ (x ∷ drop (i + 1) xs)) × (length (take i xs) ≡ i)
parts-at [] i x h = cc
parts-at (y ∷ ys) zero x h = let e : y ≡ x = cc in (ap (λ z. z ∷ ys) e, refl)
parts-at (y ∷ ys) (suc i) x h =
    let k = parts-at ys i x h in
    let e : suc (i + 1) ≡ suc i + 1 = omega arith in
    (ap (λ l. y ∷ l) k.0 ∙ ap (λ n. y ∷ (take i ys ++ (x ∷ drop n (y ∷ ys)))) e, ap suc k.1)

past : {X : Type 0} (f : X → X) (a n : ℕ) (xs : List X) → a < n → numbered (λ m x. cond (m == a) (f x) x) n xs ≡ xs
past f a n [] h = refl
past f a n (x ∷ xs) h = ap₂ (λ b l. cond b (f x) x ∷ l) (ne_eqb n a (λ e. absurd (omega (arith, h, e)))) (past f a (n + 1) xs (omega (arith, h)))

changed-at : {X : Type 0} (f : X → X) (n : ℕ) (xs : List X) (i : ℕ) (x : X) → slice_get xs i ≡ Some x → numbered (λ m y. cond (m == n + i) (f y) y) n xs ≡ take i xs ++ (f x ∷ drop (i + 1) xs)
changed-at f n [] i x h = cc
changed-at f n (y ∷ ys) zero x h =
    let e : y ≡ x = cc in
    let k : n ≡ n + 0 = omega arith in
    ap₂ (λ b l. cond b (f y) y ∷ l) (eq-eqb n (n + 0) k) (past f (n + 0) (n + 1) ys (omega arith)) ∙ ap (λ z. f z ∷ ys) e
changed-at f n (y ∷ ys) (suc i) x h =
    let k : n + suc i ≡ (n + 1) + i = omega arith in
    let e : suc (i + 1) ≡ suc i + 1 = omega arith in
    ap₂ (λ b l. cond b (f y) y ∷ l) (ne_eqb n (n + suc i) (λ q. absurd (omega (arith, q))))
    (ap (λ a. numbered (λ m z. cond (m == a) (f z) z) (n + 1) ys) k ∙ changed-at f (n + 1) ys i x h)
    ∙ ap (λ m. y ∷ (take i ys ++ (f x ∷ drop m (y ∷ ys)))) e

-- the variables of the host a statement before
pub before-vars : (t : Term) (v : ℕ) (u : Var) → slice_get t.vars v ≡ Some u → (before_statement v t).vars ≡ take v t.vars ++ (var_before u ∷ drop (v + 1) t.vars)
before-vars t v u h =
    let e : v ≡ 0 + v = omega arith in
    ap (λ a. numbered (λ n (x : Var). cond (n == a) (var_before x) x) 0 t.vars) e ∙ changed-at var_before 0 t.vars v u h

-- a host's own variable of number i, to whose stage a statement leads, from a state over its schema
pub record LedTo (p : Sides) (m : Moment) (t : Term) (i : ℕ) (u : Var) : Type 0 where
  pub own : slice_get t.vars i ≡ Some u
  pub later : u.stage ≢ 0
  pub state : IsState (schema_of p u.side) (stage_of p m u.side (u.stage - 1))
