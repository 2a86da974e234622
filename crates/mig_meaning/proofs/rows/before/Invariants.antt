use Rattle.std.proofs.Common.{◌≡◌, ◌∷◌, take}
use Rattle.mig_meaning.proofs.rows.before.Given as goal

abbrev pub invariant-loop-placed : goal.invariant-loop-placed
invariant-loop-placed l = l.longer ≡ l.row ∷ take l.placed-index l.placed-items
