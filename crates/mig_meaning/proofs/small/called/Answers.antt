use Rattle.mig_meaning.proofs.Steps.{called-past}
use Rattle.mig_meaning.proofs.small.called.Goals as goal

pub returns : goal.returns
returns c = called-past c.args.schema.now c.args.program.now c.args.call.now c.args.keys.now c.args.state.now c.in_ok-twin-in-None.field-0 c.in-None.ensures.value c.in_ok-twin-in-None.ensures
