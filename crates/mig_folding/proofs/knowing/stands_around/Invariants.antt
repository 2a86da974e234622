use Rattle.std.proofs.Common.{◌≡◌, map, drop}
use Rattle.std.specs.List.{list_any}
use Rattle.mig_steps.specs.Seeing.{shown}
use Rattle.mig_folding.specs.Known.{stands_in}
use Rattle.mig_folding.proofs.knowing.stands_around.Given as goal

abbrev pub invariant-loop-list : goal.invariant-loop-list
invariant-loop-list l = list_any (stands_in l.count l.lit) (map shown l.lists) ≡ list_any (stands_in l.count l.lit) (map shown (drop l.list-index l.lists))
