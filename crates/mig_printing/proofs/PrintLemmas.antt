-- What stands where a number is out of range, and texts that were appended one after the other.
use Rattle.std.proofs.Common.{◌≡◌, ℕ, List, ◌++◌, None, get_or, slice_get, sym, ap, ◌∙◌, append_assoc}
use Rattle.std.specs.Option.{unwrap_or}
use Rattle.std.proofs.lemmas.Option.{unwrap_or-slice_get}

pub past : {X : Type 0} (xs : List X) (n : ℕ) (d : X) → slice_get xs n ≡ None → get_or xs n d ≡ d
past xs n d e = sym (unwrap_or-slice_get xs n d) ∙ ap (λ o. unwrap_or o d) e

pub behind_two : (before first second a b c : List ℕ) → first ≡ before ++ a → second ≡ first ++ b → second ++ c ≡ before ++ (a ++ (b ++ c))
behind_two before first second a b c e f = ap (λ o. o ++ c) (f ∙ ap (λ o. o ++ b) e) ∙ (append_assoc (before ++ a) b c ∙ append_assoc before a (b ++ c))
