use Rattle.std.proofs.Common.{◌∙◌, sym, ap}
use Rattle.mig_classes.specs.Given.{is_given}
use Rattle.mig_classes.proofs.grouping.Groups.gives.Goals as goal

pub returns-in-Cmp : goal.returns-in-Cmp
returns-in-Cmp c = c.given.ensures ∙ ap (is_given c.args.scope.now c.args.self.now.lits.now) (sym c.in-Cmp.is)
