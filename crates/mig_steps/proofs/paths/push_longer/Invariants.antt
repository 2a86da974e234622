use Rattle.std.proofs.Common.{◌≡◌, ◌++◌, ◌∷◌, map, take}
use Rattle.mig_steps.proofs.paths.push_longer.Given as goal

abbrev pub invariant-loop-path : goal.invariant-loop-path
invariant-loop-path l = l.all.items ≡ l.initial.all.items ++ map (λ p. l.at ∷ p) (take l.path-index l.paths)
