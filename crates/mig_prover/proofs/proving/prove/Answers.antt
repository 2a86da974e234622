use Rattle.std.proofs.Common.{subst}
use Rattle.mig_invariant.specs.Candidates.{candidates}
use Rattle.mig_prover.specs.Proving.{IsProofFrom}
use Rattle.mig_prover.proofs.CandidatesShaped.{candidates-shaped}
use Rattle.mig_prover.proofs.Sound.{proof-sound}
use Rattle.mig_prover.proofs.proving.prove.Goals as goal

pub returns-clause-sound : goal.returns-clause-sound
returns-clause-sound c =
    let job = c.args.job.now in
    let corr = c.args.corr.now in
    let program = c.args.program.now in
    proof-sound job program (candidates job corr program) c.in_ok-proof.proof
    (candidates-shaped job corr c.requires.kinds program c.requires.typed.program c.requires.new)
    c.requires.functions
    (subst (λ xs. IsProofFrom job program xs c.in_ok-proof.proof) c.in_ok-list.ensures c.in_ok-proof.ensures)
