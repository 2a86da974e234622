use Rattle.std.proofs.Common.{◌≡◌, [], map, take}
use Rattle.mig_algebra.specs.declared.atoms.Atom.{Atom}
use Rattle.mig_classes.proofs.closing.empty_groups.Given as goal

abbrev pub invariant-loop-atom : goal.invariant-loop-atom
invariant-loop-atom l = l.groups.items ≡ map (λ (a : Atom). []) (take l._atom-index l.atoms)
