-- What a sink took, put after put.
use Rattle.std.proofs.Common.{◌≡◌, ℕ, ◌+◌, ◌-◌, List, ◌++◌, Option, Some, None, length, take, drop, sym, ap, ◌∙◌, append_assoc}
use Rattle.std.proofs.Math.Seq.{take-add}
use Rattle.std.proofs.lemmas.List.{take_rest}
use Rattle.mig_io.specs.Taken.{and_then}

-- a front of the text, and then the front of its rest, make one front
pub fronts_join : (old mid new : Option (List ℕ)) (text : List ℕ) (at n : ℕ) → mid ≡ and_then old (take at text) → new ≡ and_then mid (take n (take (length text - at) (drop at text))) → new ≡ and_then old (take (at + n) text)
fronts_join None mid new text at n first then = then ∙ ap (λ o. and_then o (take n (take (length text - at) (drop at text)))) first
fronts_join (Some taken) mid new text at n first then =
    then ∙ ap (λ o. and_then o (take n (take (length text - at) (drop at text)))) first ∙ ap (λ rest. Some ((taken ++ take at text) ++ take n rest)) (take_rest text at) ∙ ap Some (append_assoc taken _ _ ∙ ap (λ more. taken ++ more) (sym (take-add at n text)))
