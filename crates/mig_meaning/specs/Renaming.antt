-- Keys written as others.
use Rattle.std.specs.Prelude.{ℕ, ◌==◌, cond, List, ◌∷◌, map, Option, Some, None}
use Rattle.mig_schema.specs.declared.values.Value.{Value}
use Rattle.mig_schema.specs.declared.values.Value.TheVariants as value
use Rattle.mig_meaning.specs.declared.states.Placed.{Placed}
use Rattle.mig_meaning.specs.declared.states.State.{State}
use Rattle.mig_meaning.specs.Bags.{SameBag}

-- the renaming from one supply to another
abbrev pub renaming : List ℕ → List ℕ → ℕ → ℕ
renaming (k ∷ ks) (l ∷ ls) n = cond (n == k) l (renaming ks ls n)
renaming _ _ n = n

-- nothing is renamed
abbrev pub same : ℕ → ℕ
same k = k

-- a value with its key written as another
abbrev pub renamed : (ℕ → ℕ) → Value → Value
renamed f (value.Int i) = value.Int i
renamed f (value.Text t) = value.Text t
renamed f (value.Key k) = value.Key (f k)

-- a placed row renamed
abbrev pub renamed_row : (ℕ → ℕ) → Placed → Placed
renamed_row f p = record { id = p.id; row = record { values = map (renamed f) p.row.values } }

-- a state renamed
abbrev pub renamed_state : (ℕ → ℕ) → State → State
renamed_state f s = record { tables = map (map (renamed_row f)) s.tables; next = s.next }

-- the rows of an answer renamed
abbrev pub renamed_rows : (ℕ → ℕ) → List (List Value) → List (List Value)
renamed_rows f rs = map (map (renamed f)) rs

-- two answers are the same under a renaming
abbrev pub SameRenamed : (ℕ → ℕ) → List (List Value) → List (List Value) → Type 0
SameRenamed f a b = SameBag (renamed_rows f a) b

-- the same of what two calls answer: both answer rows or neither does
abbrev pub SameReply : (ℕ → ℕ) → Option (List (List Value)) → Option (List (List Value)) → Type 0
SameReply f None None = Unit {0}
SameReply f (Some a) (Some b) = SameRenamed f a b
SameReply f _ _ = ⊥
