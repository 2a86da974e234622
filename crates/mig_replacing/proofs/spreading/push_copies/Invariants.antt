use Rattle.std.proofs.Common.{◌≡◌, ◌++◌, take}
use Rattle.mig_replacing.proofs.spreading.push_copies.Given as goal

abbrev pub invariant-loop-lit : goal.invariant-loop-lit
invariant-loop-lit l = l.all.items ≡ l.fn.all.items ++ take l.lit-index l.lits
