use Rattle.std.proofs.Common.{◌≡◌, IfOk, sym, subst}
use Rattle.mig_meaning.specs.declared.relating.Invariant.{Invariant}
use Rattle.mig_folding.specs.Folds.{by_fold}
use Rattle.mig_folding.proofs.viewing.by_fold.Goals as goal

pub returns-in-Views : goal.returns-in-Views
returns-in-Views c = subst (λ (i : Invariant). IfOk c.fold_at.result (λ o. o ≡ by_fold c.args.numbers.now c.args.term.now i)) (sym c.in-Views.is) c.fold_at.ensures
