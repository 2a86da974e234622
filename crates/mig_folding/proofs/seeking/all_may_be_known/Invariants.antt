use Rattle.std.proofs.Common.{◌≡◌, drop}
use Rattle.std.specs.List.{list_all}
use Rattle.mig_steps.specs.Seeing.{seen}
use Rattle.mig_folding.specs.Found.{may_be_known}
use Rattle.mig_folding.proofs.seeking.all_may_be_known.Given as goal

abbrev pub invariant-loop-lit : goal.invariant-loop-lit
invariant-loop-lit l = list_all (may_be_known (seen l.spot) l.front) l.lits ≡ list_all (may_be_known (seen l.spot) l.front) (drop l.lit-index l.lits)
