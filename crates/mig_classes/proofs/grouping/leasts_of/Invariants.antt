use Rattle.std.proofs.Common.{◌≡◌, List, map, take, length}
use Rattle.mig_algebra.specs.declared.literals.Lit.{Lit}
use Rattle.mig_classes.specs.Classes.{least}
use Rattle.mig_classes.specs.Forests.{IsForest, LeadsTo, atom_of}
use Rattle.mig_classes.proofs.grouping.leasts_of.Given as goal

abbrev pub invariant-loop-number : goal.invariant-loop-number
invariant-loop-number l = record {
  count : length l.parents.items ≡ length l.atoms;
  forest : IsForest l.parents.items;
  leads : (ls : List Lit) → LeadsTo (atom_of l.atoms) (λ k. least ls (atom_of l.atoms k)) l.fn.parents.items → LeadsTo (atom_of l.atoms) (λ k. least ls (atom_of l.atoms k)) l.parents.items × (l.leasts.items ≡ map (least ls) (take l.number l.atoms));
}
