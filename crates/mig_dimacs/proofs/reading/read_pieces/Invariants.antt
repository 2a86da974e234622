use Rattle.std.proofs.Common.{◌≡◌, take, Some}
use Rattle.mig_dimacs.specs.Texts.{tokens_of}
use Rattle.mig_dimacs.specs.Reading.{fresh}
use Rattle.mig_dimacs.proofs.Running.{run}
use Rattle.mig_dimacs.proofs.reading.read_pieces.Given as goal

abbrev pub invariant-loop-piece : goal.invariant-loop-piece
invariant-loop-piece l = run (tokens_of (take l.piece-index l.pieces)) (Some (fresh l.fn.weighted)) ≡ Some l.reader
