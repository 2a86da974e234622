use Rattle.std.proofs.Common.{rules, ◌≡◌, ◌∙◌}
use Rattle.std.specs.Prelude.{count_by}
use Rattle.mig_meaning.specs.declared.states.Row.{Row}
use Rattle.mig_meaning.specs.Bags.{row_eq}
use Rattle.mig_meaning.proofs.Bags.{times-count}
use Rattle.mig_meaning.proofs.equal.times.Goals as goal

pub returns : goal.returns
returns c = let counted : c.count.result ≡ count_by (λ (q : Row). row_eq c.args.row.now.values q.values) c.args.rows.now = search rules in counted ∙ times-count c.args.row.now c.args.rows.now
