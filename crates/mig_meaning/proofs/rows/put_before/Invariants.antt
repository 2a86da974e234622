use Rattle.std.proofs.Common.{◌≡◌, ◌∷◌, ◌++◌, map, take}
use Rattle.mig_meaning.proofs.rows.put_before.Given as goal

abbrev pub invariant-loop-choice : goal.invariant-loop-choice
invariant-loop-choice l = l.all.items ≡ l.initial.all.items ++ map (λ c. l.row ∷ c) (take l.choice-index l.choices)
