use Rattle.std.proofs.Common.{sym, ◌∙◌}
use Rattle.mig_rows.proofs.FirstNaming.{naming-here, naming-on}
use Rattle.mig_rows.proofs.naming.first_naming.Goals as goal

pub returns-then-not-leaves : goal.returns-then-not-leaves
returns-then-not-leaves c =
    naming-here c.args.var c.args.lits.now c.loop-at.at c.index-lits-at.result c.loop-at-test.true c.index-lits-at.is (sym c.leaves.ensures ∙ c.if-not-leaves.true) c.loop-at.invariant

pub loop-at-preserved : goal.loop-at-preserved
loop-at-preserved c =
    naming-on c.args.var c.args.lits.now c.loop-at.at c.index-lits-at.result c.loop-at-test.true c.index-lits-at.is (sym c.leaves.ensures ∙ c.if-not-leaves.false) c.loop-at.invariant
