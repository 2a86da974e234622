use Rattle.std.proofs.Common.{◌≡◌, ◌+◌, ◌++◌, take, get_or, ap, sym, ◌∙◌, arith, append_assoc}
use Rattle.std.proofs.lemmas.List.{take_more}
use Rattle.mig_sketch.specs.Choices.{total}
use Rattle.mig_complete.specs.Coding.{holes, hole}
use Rattle.mig_complete.proofs.Sums.{total_at, total_more, holes_more}
use Rattle.mig_complete.proofs.coding.add_holes.Goals as goal

pub add_hole-requires : goal.add_hole-requires
add_hole-requires c = let at = total_at c.args.sizes.now c.loop-size.size-index c.loop-size-test.true in omega (arith, at, c.count-helpers.ensures, c.loop-size.invariant.first, c.requires)

pub overflow_add-first : goal.overflow_add-first
overflow_add-first c = let at = total_at c.args.sizes.now c.loop-size.size-index c.loop-size-test.true in omega (arith, at, c.loop-size.invariant.first, c.requires)

pub loop-size-preserved : goal.loop-size-preserved
loop-size-preserved c =
    let sizes = c.args.sizes.now in
    let i = c.loop-size.size-index in
    let n = get_or sizes i 0 in
    let more = total_more sizes i c.loop-size-test.true in
    record {
      first = omega (arith, more, c.loop-size.invariant.first);
      clauses =
          c.in_ok-add_hole.ensures
          ∙ (ap (λ t. t ++ hole c.count-helpers.result c.loop-size.first n) c.loop-size.invariant.clauses
          ∙ (append_assoc c.args.clauses.now (holes (total sizes) 0 (take i sizes)) (hole c.count-helpers.result c.loop-size.first n)
          ∙ ap (λ t. c.args.clauses.now ++ t)
          (ap (λ h. holes (total sizes) 0 (take i sizes) ++ hole h c.loop-size.first n) c.count-helpers.ensures
          ∙ (ap (λ v. holes (total sizes) 0 (take i sizes) ++ hole (total sizes) v n) (let e : c.loop-size.first ≡ 0 + total (take i sizes) = omega (arith, c.loop-size.invariant.first) in e)
          ∙ (sym (holes_more (total sizes) 0 (take i sizes) n)
          ∙ ap (holes (total sizes) 0) (sym (take_more sizes i 0 c.loop-size-test.true)))))));
    }
