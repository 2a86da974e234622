use Rattle.std.proofs.Common.{◌≡◌, drop}
use Rattle.std.specs.List.{list_all}
use Rattle.mig_folding.specs.Naming.{may_join}
use Rattle.mig_folding.specs.Writing.{host_now}
use Rattle.mig_folding.proofs.hosting.Hosting.may_all_join.Given as goal

abbrev pub invariant-loop-joined : goal.invariant-loop-joined
invariant-loop-joined l = list_all (may_join (host_now l.self) l.join l.front) l.join.more ≡ list_all (may_join (host_now l.self) l.join l.front) (drop l.joined-index l.join.more)
