use Rattle.std.proofs.Common.{◌∙◌}
use Rattle.mig_folding.proofs.Kept.{counted-lits}
use Rattle.mig_folding.proofs.writing.folded_lits.Goals as goal

pub returns : goal.returns
returns c = c.in_ok-written.ensures ∙ counted-lits c.args.folding.now c.requires c.args.lits.now
