use Rattle.std.proofs.Common.{◌≡◌, drop}
use Rattle.mig_meaning.specs.Lists.{total}
use Rattle.mig_steps.specs.Limits.{left, term_count}
use Rattle.mig_steps.proofs.limits.spend_terms.Given as goal

abbrev pub invariant-loop-term : goal.invariant-loop-term
invariant-loop-term l = left l.initial.budget (total term_count l.terms) ≡ left l.budget (total term_count (drop l.term-index l.terms))
