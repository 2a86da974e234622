use Rattle.std.proofs.Common.{◌≡◌, map, take}
use Rattle.mig_syntax.specs.Naming as spec
use Rattle.mig_syntax.proofs.naming.conditions.case_of.Given as goal

abbrev pub invariant-loop-cmp : goal.invariant-loop-cmp
invariant-loop-cmp l = l.all.items ≡ map (spec.cmp_of l.tables l.params) (take l.cmp-index l.case)
