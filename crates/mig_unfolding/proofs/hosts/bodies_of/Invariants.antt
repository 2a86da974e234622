use Rattle.std.proofs.Common.{◌≡◌, map, take}
use Rattle.mig_unfolding.specs.Hosts.{as_body}
use Rattle.mig_unfolding.proofs.hosts.bodies_of.Given as goal

abbrev pub invariant-loop-host : goal.invariant-loop-host
invariant-loop-host l = l.bodies.items ≡ map as_body (take l.host-index l.hosts)
