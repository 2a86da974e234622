use Rattle.std.proofs.Common.{◌≡◌, drop, cond}
use Rattle.mig_tokens.specs.Bytes.{after_gap, after_comment}
use Rattle.mig_tokens.proofs.bytes.after_gap.Given as goal

abbrev pub invariant-loop-i : goal.invariant-loop-i
invariant-loop-i l = cond l.in_comment (after_comment (drop l.i l.bytes)) (after_gap (drop l.i l.bytes)) ≡ after_gap l.bytes
