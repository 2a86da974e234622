-- Rules that give nothing at a term, whatever stands beside it: what need not be tried again.
use Rattle.std.specs.Prelude.{◌≡◌, ℕ, ◌+◌, ◌<◌, Bool, true, false, List, [], ◌++◌, ◌==◌, cond, set, take, drop, length, replicate, slice_get, slice_index_or, Option, Some, None}
use Rattle.std.specs.List.{list_all}
use Rattle.mig_meaning.specs.declared.relating.Invariant.{Invariant}
use Rattle.mig_algebra.specs.declared.terms.Term.{Term}
use Rattle.mig_algebra.specs.Proper.{Sides}
use Rattle.mig_steps.specs.declared.steps.Rule.{Rule}
use Rattle.mig_rules.specs.First.{number_of}
use Rattle.mig_rules.specs.Follow.{by_rule}
use Rattle.mig_rules.specs.Offered.{paths_for, args_for}

-- no rule of a number below q gives anything at a term
pub record IsQuiet (p : Sides) (invs : List Invariant) (q : ℕ) (t : Term) : Type 0 where
  pub by : (r : Rule) → number_of r < q → (n : ℕ) (path args : List ℕ) (later : List Term) → by_rule p invs r n path args t later ≡ None

-- there is a number for each term, up to which it is quiet
pub record AreQuiet (p : Sides) (invs : List Invariant) (qs : List ℕ) (ts : List Term) : Type 0 where
  pub count : length qs ≡ length ts
  pub each : (n : ℕ) (t : Term) → slice_get ts n ≡ Some t → IsQuiet p invs (slice_index_or qs n 0) t

-- whether there is nothing
abbrev pub is_none : {A : Type 0} → Option A → Bool
is_none None = true
is_none (Some x) = false

-- whether a rule gives nothing at a term alone, with what is tried
abbrev pub silent_at : Sides → List Invariant → Rule → Term → (path : List ℕ) → Bool
silent_at p invs r t path = list_all (λ args. is_none (by_rule p invs r 0 path args t [])) (args_for invs r 0 path t [])

abbrev pub silent_in : Sides → List Invariant → Rule → Term → Bool
silent_in p invs r t = list_all (silent_at p invs r t) (paths_for r t)

-- the numbers after a step at term n, where m terms are new, of which nothing is known, and those from number k on stayed
abbrev pub after_step : (n m k : ℕ) → List ℕ → List ℕ
after_step n m k qs = take n qs ++ (replicate m 0 ++ drop k qs)

-- one more for a term, where its number is q
abbrev pub marked : (n q : ℕ) → List ℕ → List ℕ
marked n q qs = cond (slice_index_or qs n 0 == q) (set qs n (q + 1)) qs
