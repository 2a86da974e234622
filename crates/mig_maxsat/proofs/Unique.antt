-- There is one heaviest model at most that is the first.
use Rattle.std.proofs.Common.{◌≡◌, List, Bool, sym, ◌∙◌, inl, inr, arith}
use Rattle.std.proofs.lemmas.Int.{ints}
use Rattle.mig_sat.proofs.Unique.{total}
use Rattle.mig_maxsat.specs.declared.weighted.Weighted.{Weighted}
use Rattle.mig_maxsat.specs.Heaviest.{weight, IsHeaviest}

-- two heaviest models are the same
pub one_heaviest : (p : Weighted) (a b : List Bool) → IsHeaviest p a → IsHeaviest p b → a ≡ b
one_heaviest p a b f g =
    let le = f.heaviest b g.model in
    let ge = g.heaviest a f.model in
    let same : weight p.weights a ≡ weight p.weights b = omega (arith, ints, le, ge) in
    elim (total a b (f.model.sized ∙ sym g.model.sized)) [
      | inl is ↦ is
      | inr order ↦ elim order [ inl h ↦ absurd (g.first a f.model same h) | inr h ↦ absurd (f.first b g.model (sym same) h) ]
    ]
