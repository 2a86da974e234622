use Rattle.mig_meaning.proofs.Steps.{key-past}
use Rattle.mig_meaning.proofs.given.fresh_key.Goals as goal

pub returns-in-None : goal.returns-in-None
returns-in-None c = key-past c.args.given.now.keys.now.keys c.args.n c.in-None.ensures.value
