-- The first step taken.
use Rattle.std.specs.Prelude.{◌≡◌, ℕ, ◌+◌, ◌-◌, ◌==◌, cond, List, Option, Some, None}
use Rattle.mig_meaning.specs.declared.relating.Invariant.{Invariant}
use Rattle.mig_algebra.specs.declared.terms.Expr.{Expr}
use Rattle.mig_algebra.specs.Proper.{Sides}
use Rattle.mig_steps.specs.declared.steps.Rule.{Rule}
use Rattle.mig_steps.specs.declared.steps.Step.{Step}
use Rattle.mig_rules.specs.declared.taking.Taken.{Taken}
use Rattle.mig_rules.specs.First.{number_of, IsFirst}
use Rattle.mig_rules.specs.Follow.{follow}
use Rattle.mig_rules.specs.Quiet.{AreQuiet}

-- What taking the first step gives: the step, what it leads to, and numbers for the terms there; nothing where no step follows.
abbrev pub Takes : (p : Sides) (invs : List Invariant) (e : Expr) → Option Taken → Type 0
Takes p invs e None = (t : Step) → follow p invs t e ≡ None
Takes p invs e (Some k) = IsFirst p invs e k.step × (follow p invs k.step e ≡ Some k.next) × AreQuiet p invs k.quiet.items k.next.terms

-- from which number on the terms behind stay after a step at term n of so many: the last rule takes one of them away
abbrev pub stay_from : Rule → (n count : ℕ) → ℕ
stay_from r n count = cond (number_of r == 16) count (n + 1)

-- how many terms are new after a step at term n, where those from number k of `before` on stay, and there are `after` in all
abbrev pub new_terms : (n k before after : ℕ) → ℕ
new_terms n k before after = (after - n) - (before - k)
