-- What a trail keeps: the values that its steps give.
use Rattle.std.specs.Prelude.{◌≡◌, ℕ, ◌<◌, ◌+◌, Bool, List, Option, length, is_none, reverse, slice_index_or, count_by, All}
use Rattle.mig_sat.specs.declared.trail.Trail.TheInside.{Inside}
use Rattle.mig_sat.specs.declared.steps.Step.{Step}
use Rattle.mig_sat.specs.Steps.{Path, value_at, IsFresh}

-- a trail as its contracts see it
abbrev pub path_of : Inside → Path
path_of a = record { size = a.size; steps = reverse a.steps.items }

-- the values are those that the steps give, a variable has at most one step, and steps and free variables make up all
pub record Keeps (values : List (Option Bool)) (steps : List Step) : Type 0 where
  pub values_are : (v : ℕ) (d : Option Bool) → v < length values → slice_index_or values v d ≡ value_at v steps
  pub fresh : IsFresh steps
  pub in_range : All (λ (s : Step). s.lit.var < length values) steps
  pub room : length steps + count_by is_none values ≡ length values

-- a trail keeps the values of its steps, one for each variable
abbrev pub IsKept : Inside → Type 0
IsKept a = (a.size ≡ length a.values.items) × Keeps a.values.items (reverse a.steps.items)
