use Rattle.std.proofs.Common.{◌≡◌, ◌++◌, drop}
use Rattle.mig_folding.specs.Naming.{args_for}
use Rattle.mig_folding.specs.Writing.{host_now}
use Rattle.mig_folding.proofs.offering.host_args.Given as goal

abbrev pub invariant-loop-k : goal.invariant-loop-k
invariant-loop-k l = args_for l.invariants (host_now l.hosting) l.k-items ≡ l.all.items ++ args_for l.invariants (host_now l.hosting) (drop l.k-index l.k-items)
