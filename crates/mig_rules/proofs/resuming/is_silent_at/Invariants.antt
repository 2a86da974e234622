use Rattle.std.proofs.Common.{◌≡◌, drop}
use Rattle.std.specs.List.{list_all}
use Rattle.std.specs.Prelude.{[]}
use Rattle.mig_rules.specs.Follow.{by_rule}
use Rattle.mig_rules.specs.Quiet.{is_none}
use Rattle.mig_obligations.specs.Pairs.{sides_of}
use Rattle.mig_rules.proofs.resuming.is_silent_at.Given as goal

abbrev pub invariant-loop-args : goal.invariant-loop-args
invariant-loop-args l = list_all (λ a. is_none (by_rule (sides_of l.facts.pair.now) l.facts.invariants.now.list l.rule 0 l.path a l.term [])) l.args-items ≡ list_all (λ a. is_none (by_rule (sides_of l.facts.pair.now) l.facts.invariants.now.list l.rule 0 l.path a l.term [])) (drop l.args-index l.args-items)
