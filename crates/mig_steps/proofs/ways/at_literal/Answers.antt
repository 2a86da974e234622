use Rattle.std.proofs.Common.{sym, ap, ◌∙◌}
use Rattle.std.specs.Option.{option_map}
use Rattle.mig_steps.specs.Seeing.{seen}
use Rattle.mig_steps.proofs.Leading.{spot-path}
use Rattle.mig_steps.proofs.ways.at_literal.Goals as goal

pub replaced-requires : goal.replaced-requires
replaced-requires g c = spot-path c.args.term.now c.args.path.now (seen c.in-Some.spot) (sym c.in_ok-found.ensures ∙ ap (option_map seen) c.in-Some.is)
