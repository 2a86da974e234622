use Rattle.std.proofs.Common.{◌≡◌, drop}
use Rattle.mig_listing.specs.Finding.{first_some}
use Rattle.mig_rules.specs.First.{first_of}
use Rattle.mig_rules.specs.Quiet.{AreQuiet}
use Rattle.mig_obligations.specs.Pairs.{sides_of}
use Rattle.mig_rules.proofs.resuming.first_by_quiet.Given as goal

abbrev pub invariant-loop-n : goal.invariant-loop-n
invariant-loop-n l = record {
  first : first_some (first_of (sides_of l.facts.pair.now) l.facts.invariants.now.list l.expr l.rule) l.n-items ≡ first_some (first_of (sides_of l.facts.pair.now) l.facts.invariants.now.list l.expr l.rule) (drop l.n-index l.n-items);
  quiet : AreQuiet (sides_of l.facts.pair.now) l.facts.invariants.now.list l.quiet.items l.expr.terms;
}
