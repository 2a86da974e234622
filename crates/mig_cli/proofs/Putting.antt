-- What sinks took.
use Rattle.std.proofs.Common.{◌≡◌, ℕ, List, length, Option, ap, ◌∙◌, sym, arith}
use Rattle.std.proofs.lemmas.List.{take_all}
use Rattle.mig_io.specs.Taken.{and_then, TookFront}

-- a text that was taken whole is taken to its end
pub whole_front : (old new : Option (List ℕ)) (text : List ℕ) → new ≡ and_then old text → TookFront old new text
whole_front old new text e = (length text, e ∙ ap (λ (t : List ℕ). and_then old t) (sym (take_all (length text) text (omega arith))))
