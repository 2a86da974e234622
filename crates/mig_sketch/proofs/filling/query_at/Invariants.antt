use Rattle.std.proofs.Common.{◌≡◌, drop}
use Rattle.mig_sketch.specs.Filling.{query_of, picked_parts}
use Rattle.mig_sketch.proofs.filling.query_at.Given as goal

abbrev pub invariant-loop-h : goal.invariant-loop-h
invariant-loop-h l = query_of l.other (picked_parts l.function l.holes l.picks) ≡ query_of l.other (picked_parts l.function (drop l.h l.holes) (drop l.h l.picks))
