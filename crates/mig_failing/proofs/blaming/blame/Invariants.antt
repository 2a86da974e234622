use Rattle.std.proofs.Common.{take}
use Rattle.mig_listing.specs.Listing.{IsListOf}
use Rattle.mig_listing.specs.Orders.{Less}
use Rattle.mig_failing.specs.Blaming.{IsBlamed}
use Rattle.mig_failing.proofs.blaming.blame.Given as goal

abbrev pub invariant-loop-call : goal.invariant-loop-call
invariant-loop-call l = IsListOf (IsBlamed (take l.call-index l.calls.calls)) Less l.functions
