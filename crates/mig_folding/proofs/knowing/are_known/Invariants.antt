use Rattle.std.proofs.Common.{◌≡◌, drop}
use Rattle.std.specs.List.{list_all}
use Rattle.mig_steps.specs.Seeing.{seen}
use Rattle.mig_folding.specs.Known.{is_known}
use Rattle.mig_folding.proofs.knowing.are_known.Given as goal

abbrev pub invariant-loop-lit : goal.invariant-loop-lit
invariant-loop-lit l = list_all (is_known (seen l.spot) l.names) l.lits ≡ list_all (is_known (seen l.spot) l.names) (drop l.lit-index l.lits)
