use Rattle.std.proofs.Common.{◌≡◌, drop}
use Rattle.mig_listing.specs.Finding.{first_some}
use Rattle.mig_rules.specs.First.{first_by}
use Rattle.mig_rules.specs.Quiet.{AreQuiet}
use Rattle.mig_obligations.specs.Pairs.{sides_of}
use Rattle.mig_rules.proofs.resuming.first_among_quiet.Given as goal

abbrev pub invariant-loop-rule : goal.invariant-loop-rule
invariant-loop-rule l = record {
  first : first_some (first_by (sides_of l.facts.pair.now) l.facts.invariants.now.list l.expr) l.rules ≡ first_some (first_by (sides_of l.facts.pair.now) l.facts.invariants.now.list l.expr) (drop l.rule-index l.rules);
  quiet : AreQuiet (sides_of l.facts.pair.now) l.facts.invariants.now.list l.quiet.items l.expr.terms;
}
