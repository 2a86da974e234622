use Rattle.std.proofs.Common.{◌∙◌, sym}
use Rattle.mig_calls.specs.Calling.{given_by}
use Rattle.mig_calls.proofs.TypedLemmas.{body-fits}
use Rattle.mig_calls.proofs.calls.call.Goals as goal

pub perform-requires-clause-fits : goal.perform-requires-clause-fits
perform-requires-clause-fits g c =
    body-fits c.args.schema.now (g.S.Store.meaning c.begin.new.self).layout c.args.function.now (given_by c.args.args.now c.args.keys.now)
    (c.requires.layout ∙ sym c.in_ok-begin.ensures.begins.layout) c.requires.given c.requires.typed c.requires.labels c.requires.texts
