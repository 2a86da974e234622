use Rattle.std.proofs.Common.{◌≡◌, length, ap, arith}
use Rattle.mig_prover.proofs.Withouts.{round_shorter, round_same, kept_here, kept_before}
use Rattle.mig_prover.proofs.keeping.kept.Goals as goal

pub returns-then-len : goal.returns-then-len
returns-then-len c =
    let job = c.args.job.now in
    let program = c.args.program.now in
    let left = c.rounds.left.list in
    let next = c.in_ok-next.next.list in
    c.rounds.invariant left (kept_here job program left next c.in_ok-next.ensures (round_same job program left next c.in_ok-next.ensures (omega (arith, c.len.ensures, c.len-in-rounds.ensures))))

pub rounds-smaller : goal.rounds-smaller
rounds-smaller c =
    let shorter = round_shorter c.args.job.now c.args.program.now c.rounds.left.list c.in_ok-next.next.list c.in_ok-next.ensures in
    omega (arith, shorter, c.len.ensures, c.len-in-rounds.ensures)

pub rounds-preserved : goal.rounds-preserved
rounds-preserved c = λ stands k.
    let left = c.rounds.left.list in
    let next = c.in_ok-next.next.list in
    c.rounds.invariant stands (kept_before c.args.job.now c.args.program.now left next stands c.in_ok-next.ensures (λ e. let same : length next ≡ length left = ap length e in omega (arith, same, c.len.ensures, c.len-in-rounds.ensures)) k)
