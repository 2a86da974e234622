use Rattle.mig_certificate.specs.Valid.{IsValid}
use Rattle.mig_prover.specs.declared.proving.Proof.TheVariants.{Closed}
use Rattle.mig_prover.specs.Proving.{IsProof}
use Rattle.mig_search.proofs.Kept.{completion_same, sound_kinds}
use Rattle.mig_search.proofs.Sized.{right_find}
use Rattle.mig_search.proofs.judging.judge.Goals as goal

pub first_failing-requires-clause-functions : goal.first_failing-requires-clause-functions
first_failing-requires-clause-functions c = completion_same c.args.job.now c.args.program.now c.requires.completion

pub prove-requires-clause-functions : goal.prove-requires-clause-functions
prove-requires-clause-functions c = completion_same c.args.job.now c.args.program.now c.requires.completion

pub prove-requires-clause-kinds : goal.prove-requires-clause-kinds
prove-requires-clause-kinds c = sound_kinds c.args.job.now c.args.corr.now c.requires.sound

pub returns-in-Closed-clause-right : goal.returns-in-Closed-clause-right
returns-in-Closed-clause-right c =
    let proof : IsProof c.args.job.now c.args.corr.now c.args.program.now (Closed c.in-Closed.certificate) = rw c.in-Closed.is at c.in_ok-certificate-in-None.ensures.proof in
    let valid : IsValid c.args.job.now c.args.program.now c.in-Closed.certificate = rw c.in-Closed.is at c.in_ok-certificate-in-None.ensures.sound in
    right_find c.args.job.now c.args.corr.now c.args.program.now c.in-Closed.certificate (sound_kinds c.args.job.now c.args.corr.now c.requires.sound) c.requires.completion proof valid
