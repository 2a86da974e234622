use Rattle.std.proofs.Common.{◌∙◌}
use Rattle.mig_folding.proofs.Kept.{counted-atoms}
use Rattle.mig_folding.proofs.writing.folded_atoms.Goals as goal

pub returns : goal.returns
returns c = c.from_vec.ensures ∙ c.in_ok-written.ensures ∙ counted-atoms c.args.folding.now c.requires c.args.atoms.now
