use Rattle.std.proofs.Common.{◌≡◌, ◌-◌, drop, length}
use Rattle.mig_classes.specs.Classes.{least}
use Rattle.mig_classes.specs.Forests.{IsForest, LeadsTo, atom_of}
use Rattle.mig_classes.proofs.closing.united.Given as goal

abbrev pub invariant-loop-done : goal.invariant-loop-done
invariant-loop-done l = record {
  count : length l.parents.items ≡ length l.atoms;
  forest : IsForest l.parents.items;
  leads : LeadsTo (atom_of l.atoms) (λ k. least (drop (length l.lits - l.done) l.lits) (atom_of l.atoms k)) l.parents.items;
}
