use Rattle.std.proofs.Common.{◌≡◌, ℕ, ◌≤◌, length}
use Rattle.mig_algebra.specs.declared.atoms.Atom.{Atom}
use Rattle.mig_classes.specs.Forests.{IsForest, LeadsTo}
use Rattle.mig_classes.proofs.forests.root.Given as goal

abbrev pub invariant-loop-at : goal.invariant-loop-at
invariant-loop-at l = record {
  within : l.at ≤ l.number;
  count : length l.parents.items ≡ length l.fn.parents.items;
  forest : IsForest l.parents.items;
  leads : (own least : ℕ → Atom) → LeadsTo own least l.fn.parents.items → LeadsTo own least l.parents.items × (least l.at ≡ least l.number);
}

abbrev pub decreases-loop-at : goal.decreases-loop-at
decreases-loop-at l = l.at
