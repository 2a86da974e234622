use Rattle.std.proofs.Common.{◌≡◌, drop}
use Rattle.std.specs.List.{list_all}
use Rattle.mig_algebra.specs.Rename.{lit_all}
use Rattle.mig_steps.proofs.testing.+passing.Given as goal

abbrev pub invariant-lits_pass-loop-lit : goal.invariant-lits_pass-loop-lit
invariant-lits_pass-loop-lit g l = list_all (lit_all (g.T.Naming.atom_passes l.test) (g.T.Naming.id_passes l.test)) l.lits ≡ list_all (lit_all (g.T.Naming.atom_passes l.test) (g.T.Naming.id_passes l.test)) (drop l.lit-index l.lits)
