use Rattle.std.proofs.Common.{sym, ◌∙◌, arith}
use Rattle.mig_tokens.proofs.PlaceLemmas.{one_token_more, no_token_more}
use Rattle.mig_tokens.proofs.place.behind_tokens.Goals as goal

pub loop-preserved : goal.loop-preserved
loop-preserved c = record {
  so_far = rw c.in_ok-rest.ensures.value (sym (one_token_more c.args.count c.loop.counter c.loop.rest.now c.loop-test.true) ∙ c.loop.invariant.so_far);
  no_longer = omega (arith, c.in_ok-rest.ensures.no_longer);
}

pub returns-clause-value : goal.returns-clause-value
returns-clause-value c = sym (no_token_more c.args.count c.loop.counter c.loop.rest.now c.loop-test.false) ∙ c.loop.invariant.so_far
