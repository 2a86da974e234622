use Rattle.std.proofs.Common.{◌≡◌, map, take}
use Rattle.mig_algebra.specs.Tidied.{term_arranged, term_sorted}
use Rattle.mig_algebra.proofs.tidying.tidy_terms.Given as goal

abbrev pub invariant-loop-term : goal.invariant-loop-term
invariant-loop-term l = l.tidied.items ≡ map (λ t. term_sorted (term_arranged t)) (take l.term-index l.terms)
