use Rattle.std.proofs.Common.{◌≡◌, drop}
use Rattle.std.specs.List.{list_all}
use Rattle.mig_algebra.specs.Rename.{lit_all, is_not}
use Rattle.mig_classes.specs.Substituted.{column_within}
use Rattle.mig_classes.proofs.allowed.+lit_passes.Given as goal

abbrev pub invariant-lits_pass-loop-lit : goal.invariant-lits_pass-loop-lit
invariant-lits_pass-loop-lit l =
    list_all (lit_all (column_within l.var l.count) (is_not l.var)) l.lits
    ≡ list_all (lit_all (column_within l.var l.count) (is_not l.var)) (drop l.lit-index l.lits)
