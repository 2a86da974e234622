use Rattle.std.proofs.Common.{◌≡◌, ◌<◌, [], length, get_or, ◌∙◌, arith}
use Rattle.std.proofs.lemmas.List.{get_or_default, length-set}
use Rattle.mig_storage.proofs.OrderLemmas.{one-closed}
use Rattle.mig_storage.proofs.shelf.Shelf.close_up.Goals as goal

pub loop-t-preserved : goal.loop-t-preserved
loop-t-preserved c =
    let tables = c.loop-t.self-inside.tables.items in
    let t = c.loop-t.t in
    let old = c.index_mut.result.now in
    let within : c.loop-t.t < length c.loop-t.self-inside.tables.items = omega (arith, c.loop-t-test.true, c.loop-t.invariant.count) in
    let here : c.index_mut.result.now ≡ get_or c.loop-t.self-inside.tables.items c.loop-t.t [] = c.index_mut.ensures.value ∙ get_or_default tables t old [] within in
    let one = one-closed tables t old c.close_up.new.self within here c.close_up.ensures in
    record {
      count = length-set tables t c.close_up.new.self ∙ c.loop-t.invariant.count;
      rows = one.0 ∙ c.loop-t.invariant.rows;
      order = λ a. one.1 _ (c.loop-t.invariant.order a);
      next = c.loop-t.invariant.next;
    }
