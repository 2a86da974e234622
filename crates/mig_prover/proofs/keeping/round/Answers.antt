use Rattle.std.proofs.Common.{◌≡◌, inr, arith, false}
use Rattle.mig_prover.specs.Rounds.{Stays}
use Rattle.mig_prover.proofs.Withouts.{without_shorter, without_same}
use Rattle.mig_prover.proofs.keeping.round.Goals as goal

pub returns : goal.returns
returns c =
    let job = c.args.job.now in
    let program = c.args.program.now in
    let left = c.args.left.now.list in
    let plain = c.in_ok-plain.plain.list in
    let shorter = without_shorter (Stays job program false left) left plain c.in_ok-plain.ensures in
    let same : plain ≡ left = without_same (Stays job program false left) left plain c.in_ok-plain.ensures (omega (arith, shorter, c.len.ensures, c.len-2.ensures)) in
    record { plain = plain; without_plain = c.in_ok-plain.ensures; then_views = inr (same, c.in_ok-next.ensures) }
