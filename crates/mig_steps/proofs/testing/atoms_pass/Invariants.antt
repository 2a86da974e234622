use Rattle.std.proofs.Common.{◌≡◌, drop}
use Rattle.std.specs.List.{list_all}
use Rattle.mig_steps.proofs.testing.atoms_pass.Given as goal

abbrev pub invariant-loop-atom : goal.invariant-loop-atom
invariant-loop-atom g l = list_all (g.T.Naming.atom_passes l.test) l.atoms ≡ list_all (g.T.Naming.atom_passes l.test) (drop l.atom-index l.atoms)
