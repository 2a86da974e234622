use Rattle.std.proofs.Common.{◌≡◌, ◌+◌, drop}
use Rattle.mig_meaning.specs.Lists.{place}
use Rattle.mig_folding.proofs.images.place_of.Given as goal

abbrev pub invariant-loop-i : goal.invariant-loop-i
invariant-loop-i l = place l.numbers l.n ≡ l.i + place (drop l.i l.numbers) l.n
