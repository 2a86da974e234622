use Rattle.std.proofs.Common.{◌≡◌, ◌≤◌, ◌-◌, take, length}
use Rattle.mig_io.specs.Taken.{and_then}
use Rattle.mig_io.proofs.sinks.emit.Given as goal

-- what was put is the text's front
abbrev pub invariant-loop-at : goal.invariant-loop-at
invariant-loop-at g l = record {
  within : l.at ≤ length l.text;
  taken : g.W.Sink.took l.out ≡ and_then (g.W.Sink.took l.fn.out) (take l.at l.text);
  later : g.W.Sink.faults l.fn.out ≤ g.W.Sink.faults l.out;
}

abbrev pub decreases-loop-at : goal.decreases-loop-at
decreases-loop-at g l = length l.text - l.at
