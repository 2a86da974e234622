use Rattle.mig_prover.proofs.OneProof.{one-proof}
use Rattle.mig_prover.proofs.laws.one_proof.Goals as goal

pub returns : goal.returns
returns c = one-proof
