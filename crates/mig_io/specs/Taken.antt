-- What a sink has taken.
use Rattle.std.specs.Prelude.{◌≡◌, ℕ, List, ◌++◌, take, Option, Some, None}

-- what a sink that tells has taken after these bytes too
abbrev pub and_then : Option (List ℕ) → List ℕ → Option (List ℕ)
and_then None bytes = None
and_then (Some taken) bytes = Some (taken ++ bytes)

-- the sink took the first bytes of the text, and no others
abbrev pub TookFront : Option (List ℕ) → Option (List ℕ) → List ℕ → Type 0
TookFront old new text = (n : ℕ) × (new ≡ and_then old (take n text))
