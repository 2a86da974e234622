use Rattle.std.proofs.Common.{◌≡◌, ◌≤◌, ◌+◌, drop}
use Rattle.mig_dimacs.specs.Words.{pieces_of}
use Rattle.mig_dimacs.specs.Reading.{pieces_with}
use Rattle.mig_dimacs.proofs.lexing.pieces.Given as goal

abbrev pub invariant-loop-b : goal.invariant-loop-b
invariant-loop-b l = (l.lexer.line ≤ l.b-index + 1) × (pieces_with l.lexer (drop l.b-index l.bytes) ≡ pieces_of l.bytes)
