use Rattle.std.proofs.Common.{◌≡◌, ◌++◌, length}
use Rattle.mig_reading.specs.Pieces.{pieces}
use Rattle.mig_reading.proofs.cutting.pieces_of.Given as goal

abbrev pub invariant-loop-rest : goal.invariant-loop-rest
invariant-loop-rest l = l.pieces.items ++ pieces l.rest ≡ pieces l.bytes

abbrev pub decreases-loop-rest : goal.decreases-loop-rest
decreases-loop-rest l = length l.rest
