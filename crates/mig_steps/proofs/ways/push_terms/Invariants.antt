use Rattle.std.proofs.Common.{◌≡◌, ◌++◌, take}
use Rattle.mig_steps.proofs.ways.push_terms.Given as goal

abbrev pub invariant-loop-term : goal.invariant-loop-term
invariant-loop-term l = l.all ≡ l.initial.all ++ take l.term-index l.terms
