use Rattle.std.proofs.Common.{◌≡◌, ◌++◌, map, take}
use Rattle.mig_schema.specs.declared.programs.Op.TheVariants.{Eq}
use Rattle.mig_algebra.specs.declared.literals.Lit.{Cmp}
use Rattle.mig_literals.proofs.settling.push_equals.Given as goal

abbrev pub invariant-loop-other : goal.invariant-loop-other
invariant-loop-other l = l.all.items ≡ l.initial.all.items ++ map (Cmp Eq l.first) (take l.other-index l.rest)
