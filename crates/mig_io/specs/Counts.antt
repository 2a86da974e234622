-- Counts of calls and of faults, which end at the largest `u64`.
use Rattle.std.specs.Prelude.{Bool, ℕ, ◌+◌, ◌-◌, ◌^◌, ◌≤◌, ◌==◌, min, List}
use Rattle.std.specs.List.{list_any}

-- one more; the largest stays
abbrev pub raised : ℕ → ℕ
raised count = min (count + 1) (2 ^ 64 - 1)

-- the count is greater, or stands at its end
abbrev pub Rose : ℕ → ℕ → Type 0
Rose before now = raised before ≤ now

-- whether the call after this many is listed; calls are numbered from 1
abbrev pub is_listed : List ℕ → ℕ → Bool
is_listed listed calls = list_any (λ number. number == calls + 1) listed
