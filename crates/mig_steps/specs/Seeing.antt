-- What the code shows a rule of a literal.
use Rattle.std.specs.Prelude.{map}
use Rattle.mig_steps.specs.declared.spots.Enclosing.{Enclosing}
use Rattle.mig_steps.specs.declared.spots.Spot.{Spot}
use Rattle.mig_steps.specs.Spots.{ListAround, Seen}

-- a list
abbrev pub shown : Enclosing → ListAround
shown e = record { count = e.count; lits = e.lits.now; at = e.at }

-- a literal at its place
abbrev pub seen : Spot → Seen
seen s = record { scope = s.scope; lists = map shown s.lists.items; around = s.around; earlier = s.earlier.now; lit = s.lit.now }
