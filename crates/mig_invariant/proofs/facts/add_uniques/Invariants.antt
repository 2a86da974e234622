use Rattle.std.proofs.Common.{◌≡◌, ◌++◌, take}
use Rattle.mig_invariant.specs.Candidates.{uniques}
use Rattle.mig_invariant.proofs.facts.add_uniques.Given as goal

abbrev pub invariant-loop-c : goal.invariant-loop-c
invariant-loop-c l = l.list.items ≡ l.fn.list.items ++ uniques l.side l.schema (take l.c-index l.columns) l.equalities
