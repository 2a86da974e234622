use Rattle.std.proofs.Common.{◌∷◌, map}
use Rattle.mig_meaning.proofs.Steps.{flat_map-next}
use Rattle.mig_meaning.proofs.rows.all_before.Goals as goal

pub loop-row-preserved : goal.loop-row-preserved
loop-row-preserved c = flat_map-next (λ x. map (λ e. x ∷ e) c.args.choices.now) c.args.rows.now c.loop-row.row-index c.row-item.result c.loop-row.all.items c.put_before.new.all.items c.loop-row-test.true c.row-item.is c.loop-row.invariant c.in_ok-put_before.ensures
