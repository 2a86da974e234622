use Rattle.std.proofs.Common.{◌≡◌, map, take}
use Rattle.mig_algebra.proofs.renaming.renamed_atoms.Given as goal

abbrev pub invariant-loop-atom : goal.invariant-loop-atom
invariant-loop-atom g l = l.written.items ≡ map (g.R.Renaming.atom_for l.renaming) (take l.atom-index l.atoms)
