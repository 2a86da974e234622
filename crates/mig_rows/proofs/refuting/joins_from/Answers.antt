use Rattle.std.proofs.Common.{sym, ◌∙◌}
use Rattle.mig_rows.proofs.NeverTrue.{none-joined}
use Rattle.mig_rows.proofs.refuting.joins_from.Goals as goal

pub returns-then-not-is_row : goal.returns-then-not-is_row
returns-then-not-is_row c =
    sym (none-joined c.args.side c.args.left c.args.right c.args.scope.now c.args.groups.now.lits.now c.args.x c.args.others.now (sym c.is_row.ensures ∙ c.if-not-is_row.true))
