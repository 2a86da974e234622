use Rattle.std.proofs.Common.{[], sym, ◌∙◌}
use Rattle.mig_steps.proofs.Leading.{of-body}
use Rattle.mig_rows.specs.Inside.{inside_in}
use Rattle.mig_rows.proofs.insides.inside_of.Goals as goal

pub returns-in_ok-all-in-Any : goal.returns-in_ok-all-in-Any
returns-in_ok-all-in-Any c = c.in_ok-all-in-Any.ensures ∙ sym (of-body (λ held vars lits. inside_in c.args.invariants.now c.args.scope.now vars) [] c.args.lit.now c.in-Any.held c.in-Any.inner c.in-Any.is)
