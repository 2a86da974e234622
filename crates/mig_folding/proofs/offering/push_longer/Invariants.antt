use Rattle.std.proofs.Common.{◌≡◌, ◌++◌, ◌∷◌, map, take}
use Rattle.mig_folding.proofs.offering.push_longer.Given as goal

abbrev pub invariant-loop-list : goal.invariant-loop-list
invariant-loop-list l = l.all.items ≡ l.initial.all.items ++ map (λ p. l.k ∷ p) (take l.list-index l.lists)
