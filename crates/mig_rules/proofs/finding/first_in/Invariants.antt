use Rattle.std.proofs.Common.{◌≡◌, drop}
use Rattle.mig_listing.specs.Finding.{first_some}
use Rattle.mig_rules.specs.First.{first_at}
use Rattle.mig_obligations.specs.Pairs.{sides_of}
use Rattle.mig_rules.proofs.finding.first_in.Given as goal

abbrev pub invariant-loop-path : goal.invariant-loop-path
invariant-loop-path l = first_some (first_at (sides_of l.facts.pair.now) l.facts.invariants.now.list l.expr l.rule l.tail.number l.tail.term.now) l.path-items ≡ first_some (first_at (sides_of l.facts.pair.now) l.facts.invariants.now.list l.expr l.rule l.tail.number l.tail.term.now) (drop l.path-index l.path-items)
