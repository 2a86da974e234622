use Rattle.std.proofs.Common.{◌≡◌, ◌++◌, take}
use Rattle.std.specs.List.{flat_map}
use Rattle.mig_printing.proofs.parts.put_others.Given as goal

abbrev pub invariant-loop-item : goal.invariant-loop-item
invariant-loop-item g l = l.out ≡ l.fn.out ++ flat_map (λ y. l.separator ++ g.T.Written.text l.schema l.params y) (take l.item-index l.items)
