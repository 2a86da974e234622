-- A text read byte by byte.
use Rattle.std.proofs.Common.{◌≡◌, ℕ, List, [], ◌∷◌, ◌++◌, Option, Some, None, refl, ap, append_assoc}
use Rattle.mig_tokens.specs.Tokens.{joined}

-- what was found, behind bytes that were read before
abbrev pub fronted : List ℕ → Option (List ℕ × List ℕ) → Option (List ℕ × List ℕ)
fronted front None = None
fronted front (Some x) = Some (front ++ x.0, x.1)

pub fronted-joined : (front : List ℕ) (b : ℕ) (more : Option (List ℕ × List ℕ)) → fronted front (joined (Some b) more) ≡ fronted (front ++ b ∷ []) more
fronted-joined front b None = refl
fronted-joined front b (Some x) = ap (λ (bs : List ℕ). Some (bs, x.1)) (simp append_assoc)
