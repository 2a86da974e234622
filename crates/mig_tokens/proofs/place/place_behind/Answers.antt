use Rattle.std.proofs.Common.{sym, ◌∙◌, arith}
use Rattle.mig_tokens.proofs.PlaceLemmas.{one_byte_more, no_byte_more}
use Rattle.mig_tokens.proofs.place.place_behind.Goals as goal

pub loop-b-preserved : goal.loop-b-preserved
loop-b-preserved c = record {
  so_far = rw c.next_place-next_line.ensures.value (sym (one_byte_more c.args.front.now c.loop-b.b-index (c.loop-b.line, c.loop-b.column) c.loop-b-test.true) ∙ c.loop-b.invariant.so_far);
  lines = omega (arith, c.next_place-next_line.ensures.lines);
  columns = omega (arith, c.next_place-next_line.ensures.columns);
}

pub returns : goal.returns
returns c = sym (no_byte_more c.args.front.now c.loop-b.b-index (c.loop-b.line, c.loop-b.column) (omega arith)) ∙ c.loop-b.invariant.so_far
