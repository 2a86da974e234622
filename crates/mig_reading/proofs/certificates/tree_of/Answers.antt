use Rattle.mig_reading.proofs.Answered.{took, failed}
use Rattle.mig_reading.proofs.certificates.tree_of.Goals as goal

pub returns-in-Ok : goal.returns-in-Ok
returns-in-Ok c = took c.args.bytes.now c.in-Ok.tree c.in-Ok.field-0-1.now (rw (c.as_slice.ensures.value, c.in_ok-pieces.ensures) at c.in-Ok.ensures)

pub returns : goal.returns
returns c = failed c.args.bytes.now c.in-Err.e (rw (c.as_slice.ensures.value, c.in_ok-pieces.ensures) at c.in-Err.ensures)
