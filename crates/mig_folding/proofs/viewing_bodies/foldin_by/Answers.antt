use Rattle.std.proofs.Common.{◌≡◌, IfOk, sym, subst}
use Rattle.mig_meaning.specs.declared.relating.Invariant.{Invariant}
use Rattle.mig_steps.specs.Seeing.{seen}
use Rattle.mig_folding.specs.Foldins.{foldin_by}
use Rattle.mig_folding.proofs.viewing_bodies.foldin_by.Goals as goal

pub returns-in-Views : goal.returns-in-Views
returns-in-Views c = subst (λ (i : Invariant). IfOk c.foldin_views.result (λ o. o ≡ foldin_by c.args.numbers.now (seen c.args.spot.now) i c.args.held c.args.inner.now.vars c.args.inner.now.lits)) (sym c.in-Views.is) c.foldin_views.ensures
