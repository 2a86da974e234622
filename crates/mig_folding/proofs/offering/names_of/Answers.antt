use Rattle.std.proofs.Common.{◌≡◌, Some, IfOk, sym, subst}
use Rattle.mig_meaning.specs.declared.relating.Invariant.{Invariant}
use Rattle.mig_folding.specs.Naming.{names_for}
use Rattle.mig_folding.specs.Writing.{host_now}
use Rattle.mig_folding.proofs.offering.names_of.Goals as goal

pub returns-in-Views : goal.returns-in-Views
returns-in-Views c = subst (λ (i : Invariant). IfOk c.names_by.result (λ v. v.items ≡ names_for (host_now c.args.hosting.now) (Some i))) (sym c.in-Views.is) c.names_by.ensures
