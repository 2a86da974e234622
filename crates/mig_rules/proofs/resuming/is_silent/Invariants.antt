use Rattle.std.proofs.Common.{◌≡◌, drop}
use Rattle.std.specs.List.{list_all}
use Rattle.mig_rules.specs.Quiet.{silent_at}
use Rattle.mig_obligations.specs.Pairs.{sides_of}
use Rattle.mig_rules.proofs.resuming.is_silent.Given as goal

abbrev pub invariant-loop-path : goal.invariant-loop-path
invariant-loop-path l = list_all (silent_at (sides_of l.facts.pair.now) l.facts.invariants.now.list l.rule l.term) l.path-items ≡ list_all (silent_at (sides_of l.facts.pair.now) l.facts.invariants.now.list l.rule l.term) (drop l.path-index l.path-items)
