use Rattle.std.proofs.Common.{◌≡◌, ◌+◌, map, drop}
use Rattle.mig_meaning.specs.Lists.{place}
use Rattle.mig_obligations.proofs.forming.place_in.Given as goal

abbrev pub invariant-loop-i : goal.invariant-loop-i
invariant-loop-i l = place (map (λ m. m.table) l.join.more) l.table ≡ l.i + place (map (λ m. m.table) (drop l.i l.join.more)) l.table
