use Rattle.std.proofs.Common.{◌≡◌, not, filter, drop}
use Rattle.std.specs.List.{list_all}
use Rattle.mig_algebra.specs.Rename.{lit_all}
use Rattle.mig_folding.specs.Folding.{atom_folds, id_folds, is_inner}
use Rattle.mig_folding.specs.Writing.{named_now}
use Rattle.mig_folding.proofs.images.lits_fold.Given as goal

abbrev pub invariant-loop-lit : goal.invariant-loop-lit
invariant-loop-lit l = list_all (lit_all (atom_folds (named_now l.named)) (id_folds (named_now l.named))) (filter (λ x. not (is_inner (named_now l.named) x)) l.lits) ≡ list_all (lit_all (atom_folds (named_now l.named)) (id_folds (named_now l.named))) (filter (λ x. not (is_inner (named_now l.named) x)) (drop l.lit-index l.lits))
