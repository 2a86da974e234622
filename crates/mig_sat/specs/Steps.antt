-- The steps of a search, the newest first, and when they are right. M is what is searched for, as the models of clauses.
use Rattle.std.specs.Prelude.{◌≡◌, ◌≢◌, ℕ, ◌<◌, ◌==◌, Bool, true, false, not, if◌then◌else◌, List, [], ◌∷◌, Option, Some, None, option_map, reverse, slice_get}
use Rattle.mig_sat.specs.declared.clauses.SatLit.{SatLit}
use Rattle.mig_sat.specs.declared.steps.Step.{Step}
use Rattle.mig_sat.specs.Models.{HoldsLit}

-- the way of a search so far: the number of variables, and the steps
pub record Path : Type 0 where
  pub size : ℕ
  pub steps : List Step

-- what the steps give a variable
abbrev pub value_at : ℕ → List Step → Option Bool
value_at v [] = None
value_at v (s ∷ older) = if v == s.lit.var then Some s.lit.positive else value_at v older

-- the literal of a step, counted from the oldest, 0
abbrev pub lit_at : List Step → ℕ → Option SatLit
lit_at steps k = option_map (λ (s : Step). s.lit) (slice_get (reverse steps) k)

-- each variable below n has a value
abbrev pub HasValuesBelow : List Step → ℕ → Type 0
HasValuesBelow steps n = (v : ℕ) → v < n → value_at v steps ≢ None

-- the steps make the literal false
abbrev pub IsFalse : List Step → SatLit → Type 0
IsFalse steps l = value_at l.var steps ≡ Some (not l.positive)

-- the steps make the literal true, or give its variable no value
abbrev pub IsNotFalse : List Step → SatLit → Type 0
IsNotFalse steps l = value_at l.var steps ≢ Some (not l.positive)

-- the assignment makes the literal of each step true
abbrev pub FollowsAll : List Bool → List Step → Type 0
FollowsAll m [] = Unit {0}
FollowsAll m (s ∷ older) = HoldsLit m s.lit × FollowsAll m older

-- the assignment makes each chosen literal true
abbrev pub FollowsChoices : List Bool → List Step → Type 0
FollowsChoices m [] = Unit {0}
FollowsChoices m (s ∷ older) = (s.chosen ≡ true → HoldsLit m s.lit) × FollowsChoices m older

-- each step is of a variable that no older step gives a value
abbrev pub IsFresh : List Step → Type 0
IsFresh [] = Unit {0}
IsFresh (s ∷ older) = (value_at s.lit.var older ≡ None) × IsFresh older

-- A step is right where it stands. A chosen literal is positive, and each lesser variable has a value.
-- Any other literal is true in each of M that follows the older choices.
pub record IsRightStep (n : ℕ) (M : List Bool → Type 0) (s : Step) (older : List Step) : Type 0 where
  pub in_range : s.lit.var < n
  pub fresh : value_at s.lit.var older ≡ None
  pub chosen : s.chosen ≡ true → (s.lit.positive ≡ true) × HasValuesBelow older s.lit.var
  pub follows : s.chosen ≡ false → (m : List Bool) → M m → FollowsChoices m older → HoldsLit m s.lit

-- each step is right where it stands
abbrev pub IsRight : ℕ → (List Bool → Type 0) → List Step → Type 0
IsRight n M [] = Unit {0}
IsRight n M (s ∷ older) = IsRightStep n M s older × IsRight n M older

-- none of M follows the choices
abbrev pub IsRefuted : (List Bool → Type 0) → List Step → Type 0
IsRefuted M steps = (m : List Bool) → M m → FollowsChoices m steps → ⊥

-- the opposite literal, as one that follows
abbrev pub turned : Step → Step
turned s = record { lit = record { var = s.lit.var; positive = not s.lit.positive }; chosen = false }

-- the steps with the newest choice turned and without those after it, if there is a choice
abbrev pub turned_back : List Step → Option (List Step)
turned_back [] = None
turned_back (s ∷ older) = if s.chosen then Some (turned s ∷ older) else turned_back older
