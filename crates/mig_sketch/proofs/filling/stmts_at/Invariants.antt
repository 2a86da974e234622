use Rattle.std.proofs.Common.{◌≡◌, take}
use Rattle.mig_sketch.specs.Filling.{stmts_of, picked_parts}
use Rattle.mig_sketch.proofs.filling.stmts_at.Given as goal

abbrev pub invariant-loop-h : goal.invariant-loop-h
invariant-loop-h l = l.list ≡ stmts_of (picked_parts l.function (take l.h l.holes) (take l.h l.picks))
