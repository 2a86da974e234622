use Rattle.std.proofs.Common.{sym, ◌∙◌}
use Rattle.mig_classes.proofs.Asking.{any-clash}
use Rattle.mig_classes.proofs.grouping.Groups.clash.Goals as goal

pub returns : goal.returns
returns g c = c.some_clash-found.ensures ∙ sym (any-clash c.args.self.now.lits.now (g.T.PairTest.test c.args.test.now))
