use Rattle.std.proofs.Common.{◌≡◌, not, map, filter, take}
use Rattle.mig_algebra.specs.Rename.{lit_with}
use Rattle.mig_folding.specs.Folding.{is_inner}
use Rattle.mig_folding.specs.Writing.{fold_now, folded_by, moved_by}
use Rattle.mig_folding.proofs.writing.outer_written.Given as goal

abbrev pub invariant-loop-lit : goal.invariant-loop-lit
invariant-loop-lit l = l.written.items ≡ map (lit_with (folded_by l.folding) (moved_by l.folding)) (filter (λ x. not (is_inner (fold_now l.folding) x)) (take l.lit-index l.lits))
