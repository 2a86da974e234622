use Rattle.std.proofs.Common.{◌≡◌, take, map}
use Rattle.mig_algebra.specs.Tidied.{lit_sorted, lit_arranged}
use Rattle.mig_algebra.proofs.tidying.+tidy_lit.Given as goal

abbrev pub invariant-tidy_lits-loop-lit : goal.invariant-tidy_lits-loop-lit
invariant-tidy_lits-loop-lit l = l.tidied.items ≡ map (λ x. lit_sorted (lit_arranged l.old x)) (take l.lit-index l.lits)
