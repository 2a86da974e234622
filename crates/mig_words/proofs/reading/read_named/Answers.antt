use Rattle.std.proofs.Common.{◌≡◌, ℕ, List, false, true, inr, sym, ◌∙◌}
use Rattle.std.specs.Str.{bytes_eq}
use Rattle.std.proofs.lemmas.Slice.Eq.{bytes_eq-Decides}
use Rattle.mig_words.proofs.Inverting.{migrate, check, run, trial}
use Rattle.mig_words.proofs.Fixed.{no-name}
use Rattle.mig_words.proofs.reading.read_named.Goals as goal

-- what the test finds different is different
differs : (v w x : List ℕ) → false ≡ bytes_eq v x → x ≡ w → v ≡ w → ⊥
differs v w x h e f = let g : false ≡ true = h ∙ (bytes_eq-Decides v x).1 (f ∙ sym e) in cc

pub returns-else-eq-4-clause-fault : goal.returns-else-eq-4-clause-fault
returns-else-eq-4-clause-fault c =
    inr (no-name c.args.name.now c.args.words.now (λ n. elim n [
      | migrate e ↦ differs _ _ _ c.if-eq.ensures c.as_slice.ensures (c.as_slice-name.ensures ∙ e)
      | check e ↦ differs _ _ _ c.if-eq-2.ensures c.as_slice-else-eq.ensures (c.as_slice-name.ensures ∙ e)
      | run e ↦ differs _ _ _ c.if-eq-3.ensures c.as_slice-else-eq-2.ensures (c.as_slice-name.ensures ∙ e)
      | trial e ↦ differs _ _ _ c.if-eq-4.ensures c.as_slice-else-eq-3.ensures (c.as_slice-name.ensures ∙ e)
    ]))
