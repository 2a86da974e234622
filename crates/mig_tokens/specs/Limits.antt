-- The limits that single tokens and counts pass.
use Rattle.std.specs.Prelude.{ℕ, ◌==◌, nat_le, nat_lt, cond, List, length, Option, Some, None}
use Rattle.mig_schema.specs.declared.limits.Limit.{Limit}
use Rattle.mig_schema.specs.declared.limits.Limit.TheVariants as limit
use Rattle.mig_tokens.specs.Numbers.{magnitude, most_of}

-- the limit that the next thing passes, where n stand before it and so many may be
abbrev pub over : Limit → (most n : ℕ) → Option Limit
over which most n = cond (nat_le most n) (Some which) None

-- the limit that the next thing passes, where there is no room left for it
abbrev pub full : Limit → ℕ → Option Limit
full which room = cond (room == 0) (Some which) None

-- the first that is passed
abbrev pub first_of : Option Limit → Option Limit → Option Limit
first_of None m = m
first_of (Some w) m = Some w

-- a name has at most 32 bytes
abbrev pub name_mark : List ℕ → Option Limit
name_mark v = cond (nat_lt 32 (length v)) (Some limit.Name) None

-- an int is in the range of i64
abbrev pub int_mark : List ℕ → Option Limit
int_mark v = cond (nat_le (magnitude v) (most_of v)) None (Some limit.Int)

-- a text's value has at most 1024 bytes
abbrev pub text_mark : List ℕ → Option Limit
text_mark v = cond (nat_lt 1024 (length v)) (Some limit.Text) None
