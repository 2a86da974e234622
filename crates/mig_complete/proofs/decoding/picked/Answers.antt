use Rattle.std.proofs.Common.{◌+◌, ◌∙◌, refl, arith}
use Rattle.std.proofs.lemmas.Bool.{both_ways, eq-eqb}
use Rattle.mig_sat.specs.Models.{value_of}
use Rattle.mig_complete.proofs.decoding.picked.Goals as goal

pub returns : goal.returns
returns c = λ p h. absurd (both_ways (value_of c.args.values.now (c.args.first + p)) (c.loop-k.invariant p (omega (arith, h.within))) (h.each p h.within ∙ eq-eqb p p refl))
