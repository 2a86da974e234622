use Rattle.std.proofs.Common.{get_or, sym, subst, arith}
use Rattle.std.specs.List.{All}
use Rattle.mig_complete.specs.declared.blocks.Pick.{Pick}
use Rattle.mig_complete.specs.Covering.{IsInSizes}
use Rattle.mig_complete.proofs.Sums.{in_sizes}
use Rattle.mig_complete.proofs.coding.block_clause.Goals as goal

pub overflow_add-offset : goal.overflow_add-offset
overflow_add-offset c =
    let sizes = c.args.sizes.now in
    let none : Pick = record { hole = 0; option = 0 } in
    let all : All (IsInSizes sizes) c.as_slice-pick-items.result.now = subst (All (IsInSizes sizes)) (sym c.as_slice-pick-items.ensures) c.requires.picks in
    let p : Pick = get_or c.as_slice-pick-items.result.now c.loop-pick.pick-index none in
    let t = in_sizes sizes p.hole p.option (all c.loop-pick.pick-index none c.loop-pick-test.true) in
    omega (arith, t.1, c.offset.ensures, c.requires.small)
