use Rattle.mig_reading.proofs.LaterLines.{later_is}
use Rattle.mig_reading.proofs.certificates.later_lines.Goals as goal

pub returns : goal.returns
returns c = rw (later_is c.args.invariants c.args.tokens.now c.in_ok-rest.rest.now c.in_ok-rest-2.rest.now c.in_ok-rest.ensures c.in_ok-rest-2.ensures) c.last_lines.ensures
