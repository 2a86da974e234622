use Rattle.std.proofs.Common.{◌∙◌, add-one, ap, rules}
use Rattle.std.specs.List.{flat_map}
use Rattle.mig_listing.specs.Choices as spec
use Rattle.mig_listing.proofs.Choices.{choices-zero, choices-suc}
use Rattle.mig_trees.proofs.choosing.choices.Goals as goal

pub loop-init : goal.loop-init
loop-init c = rw (choices-zero c.args.pool.now) (search rules)

pub loop-preserved : goal.loop-preserved
loop-preserved c = rw (add-one, choices-suc c.loop.counter c.args.pool.now) (c.in_ok-list.ensures ∙ ap (flat_map (spec.longer c.args.pool.now)) (c.as_slice.ensures.value ∙ c.loop.invariant))
