use Rattle.std.proofs.Common.{inr}
use Rattle.mig_cli.proofs.Putting.{whole_front}
use Rattle.mig_cli.proofs.ending.finish.Goals as goal

pub returns-in-Err-emit-clause-cut : goal.returns-in-Err-emit-clause-cut
returns-in-Err-emit-clause-cut g c =
    λ _. record {
      answered = whole_front _ _ _ c.in-Ok.ensures.whole;
      reported = inr (c.in-Ok.ensures.whole, c.in-Err-emit.ensures.part);
    }
