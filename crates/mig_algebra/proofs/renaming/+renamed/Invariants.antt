use Rattle.std.proofs.Common.{◌≡◌, map, take}
use Rattle.mig_algebra.specs.Rename.{lit_with}
use Rattle.mig_algebra.proofs.renaming.+renamed.Given as goal

abbrev pub invariant-renamed_lits-loop-lit : goal.invariant-renamed_lits-loop-lit
invariant-renamed_lits-loop-lit g l = l.written.items ≡ map (lit_with (g.R.Renaming.atom_for l.renaming) (g.R.Renaming.id_for l.renaming)) (take l.lit-index l.lits)
