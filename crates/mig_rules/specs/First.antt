-- The least step that follows.
use Rattle.std.specs.Prelude.{◌≡◌, ◌⊎◌, ℕ, ◌+◌, ◌<◌, List, [], ◌∷◌, length, drop, slice_get, Option, Some, None}
use Rattle.std.specs.Option.{option_map, option_and_then}
use Rattle.mig_meaning.specs.declared.relating.Invariant.{Invariant}
use Rattle.mig_algebra.specs.declared.terms.Term.{Term}
use Rattle.mig_algebra.specs.declared.terms.Expr.{Expr}
use Rattle.mig_algebra.specs.Proper.{Sides}
use Rattle.mig_listing.specs.Choices.{numbers}
use Rattle.mig_steps.specs.declared.steps.Rule.{Rule}
use Rattle.mig_steps.specs.declared.steps.Rule.TheVariants.{Stage, StageIn, Dead, Same, Implied, Lift, Split, Found, Alone, Inside, Never, Merge, Apart, Lossless, Fold, FoldIn, Rejoin}
use Rattle.mig_steps.specs.declared.steps.Step.{Step}
use Rattle.mig_listing.specs.Orders.{Before}
use Rattle.mig_listing.specs.Finding.{first_some}
use Rattle.mig_rules.specs.Follow.{follow}
use Rattle.mig_rules.specs.Offered.{paths_for, args_for}

-- a rule's number, from 0
abbrev pub number_of : Rule → ℕ
number_of Stage = 0
number_of StageIn = 1
number_of Dead = 2
number_of Same = 3
number_of Implied = 4
number_of Lift = 5
number_of Split = 6
number_of Found = 7
number_of Alone = 8
number_of Inside = 9
number_of Never = 10
number_of Merge = 11
number_of Apart = 12
number_of Lossless = 13
number_of Fold = 14
number_of FoldIn = 15
number_of Rejoin = 16

-- a step stands before another: by the rule's number, the term, the path, the arguments
abbrev pub StepBefore : Step → Step → Type 0
StepBefore s t =
    (number_of s.rule < number_of t.rule)
    ⊎ ((s.rule ≡ t.rule) × ((s.term < t.term)
    ⊎ ((s.term ≡ t.term) × (Before s.path t.path
    ⊎ ((s.path ≡ t.path) × Before s.args t.args)))))

-- a step follows, and none before it does
pub record IsFirst (p : Sides) (invs : List Invariant) (e : Expr) (s : Step) : Type 0 where
  pub leads_to : Expr
  pub follows : follow p invs s e ≡ Some leads_to
  pub least : (t : Step) → StepBefore t s → follow p invs t e ≡ None

-- the least step that follows, or nothing, where none does
abbrev pub FindsFirst : Sides → List Invariant → Expr → Option Step → Type 0
FindsFirst p invs e None = (t : Step) → follow p invs t e ≡ None
FindsFirst p invs e (Some s) = IsFirst p invs e s

-- ---- how it is found

abbrev pub step_of : Rule → ℕ → (path args : List ℕ) → Step
step_of r n path args = record { rule = r; term = n; path = path; args = args }

-- a step, if it follows
abbrev pub tried : Sides → List Invariant → Expr → Rule → ℕ → (path args : List ℕ) → Option Step
tried p invs e r n path args = option_map (λ x. step_of r n path args) (follow p invs (step_of r n path args) e)

-- the terms behind the one of a number
abbrev pub behind : Expr → ℕ → List Term
behind e n = drop (n + 1) e.terms

abbrev pub first_at : Sides → List Invariant → Expr → Rule → ℕ → Term → (path : List ℕ) → Option Step
first_at p invs e r n t path = first_some (tried p invs e r n path) (args_for invs r n path t (behind e n))

abbrev pub first_in : Sides → List Invariant → Expr → Rule → ℕ → Term → Option Step
first_in p invs e r n t = first_some (first_at p invs e r n t) (paths_for r t)

abbrev pub first_of : Sides → List Invariant → Expr → Rule → ℕ → Option Step
first_of p invs e r n = option_and_then (first_in p invs e r n) (slice_get e.terms n)

abbrev pub first_by : Sides → List Invariant → Expr → Rule → Option Step
first_by p invs e r = first_some (first_of p invs e r) (numbers (length e.terms))

-- the rules in order
abbrev pub all_rules : List Rule
all_rules = Stage ∷ (StageIn ∷ (Dead ∷ (Same ∷ (Implied ∷ (Lift ∷ (Split ∷ (Found ∷ (Alone ∷ (Inside ∷ (Never ∷ (Merge ∷ (Apart ∷ (Lossless ∷ (Fold ∷ (FoldIn ∷ (Rejoin ∷ []))))))))))))))))

abbrev pub first_step : Sides → List Invariant → Expr → Option Step
first_step p invs e = first_some (first_by p invs e) all_rules
