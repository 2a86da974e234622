-- Properties and orders that a function of the program could test.
use Rattle.std.specs.Prelude.{Bool, IsTrue}

-- the test accepts it
abbrev pub Passes : {A : Type 0} → (A → Bool) → A → Type 0
Passes test x = IsTrue (test x)

-- the test says that x stands before y
abbrev pub Precedes : {A : Type 0} → (A → A → Bool) → A → A → Type 0
Precedes before x y = IsTrue (before x y)
