use Rattle.std.proofs.Common.{◌≡◌, map, take}
use Rattle.mig_syntax.specs.Naming as spec
use Rattle.mig_syntax.proofs.naming.statements.assigns_of.Given as goal

abbrev pub invariant-loop-assign : goal.invariant-loop-assign
invariant-loop-assign l = l.all.items ≡ map (spec.assign_of l.tables l.params) (take l.assign-index l.assigns)
