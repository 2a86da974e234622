use Rattle.std.proofs.Common.{◌∙◌, subst, sym}
use Rattle.std.specs.List.{All}
use Rattle.mig_sketch.specs.Choices.{sizes_of}
use Rattle.mig_complete.specs.Covering.{IsInSizes}
use Rattle.mig_search.specs.Blocking.{is_blocked_by, is_blocked}
use Rattle.mig_search.proofs.Named.{picks_same}
use Rattle.mig_search.proofs.Picked.{picks_in_sizes}
use Rattle.mig_search.proofs.blaming.block_for.Goals as goal

pub returns-clause-block : goal.returns-clause-block
returns-clause-block c = c.in_ok-picks.ensures ∙ picks_same 0 c.args.holes.now (is_blocked_by c.in_ok-names.names) (is_blocked c.args.entry.now) c.args.picks.now c.in_ok-names.ensures

pub returns-clause-picks : goal.returns-clause-picks
returns-clause-picks c = subst (All (IsInSizes (sizes_of c.args.holes.now))) (sym c.in_ok-picks.ensures) (picks_in_sizes c.args.holes.now (is_blocked_by c.in_ok-names.names) c.args.picks.now c.requires.choice)
