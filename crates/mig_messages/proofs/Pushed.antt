-- Texts that are written one behind the other.
use Rattle.std.proofs.Common.{◌≡◌, ℕ, List, ◌++◌, ap, ◌∙◌, append_assoc}

-- what stands behind a text that was written stands behind what stood there before it
pub pushed : (old new text rest : List ℕ) → new ≡ old ++ text → new ++ rest ≡ old ++ (text ++ rest)
pushed old new text rest is = ap (λ (t : List ℕ). t ++ rest) is ∙ append_assoc old text rest
