use Rattle.std.proofs.Common.{◌≡◌, ◌++◌, drop}
use Rattle.std.specs.List.{flat_map}
use Rattle.mig_literals.specs.Same.{first_equal}
use Rattle.mig_literals.proofs.settling.classes_equal.Given as goal

abbrev pub invariant-loop-class : goal.invariant-loop-class
invariant-loop-class l = flat_map first_equal l.class-items ≡ l.all.items ++ flat_map first_equal (drop l.class-index l.class-items)
