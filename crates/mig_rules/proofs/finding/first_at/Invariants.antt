use Rattle.std.proofs.Common.{◌≡◌, drop}
use Rattle.mig_listing.specs.Finding.{first_some}
use Rattle.mig_rules.specs.First.{tried}
use Rattle.mig_obligations.specs.Pairs.{sides_of}
use Rattle.mig_rules.proofs.finding.first_at.Given as goal

abbrev pub invariant-loop-args : goal.invariant-loop-args
invariant-loop-args l = first_some (tried (sides_of l.facts.pair.now) l.facts.invariants.now.list l.expr l.rule l.tail.number l.path) l.args-items ≡ first_some (tried (sides_of l.facts.pair.now) l.facts.invariants.now.list l.expr l.rule l.tail.number l.path) (drop l.args-index l.args-items)
