use Rattle.std.proofs.Common.{◌≡◌, drop}
use Rattle.std.specs.List.{list_all}
use Rattle.mig_algebra.specs.Scope.{lit_scoped}
use Rattle.mig_algebra.proofs.scoping.+lit_scoped.Given as goal

abbrev pub invariant-lits_scoped-loop-lit : goal.invariant-lits_scoped-loop-lit
invariant-lits_scoped-loop-lit l = list_all (lit_scoped l.count) l.lits ≡ list_all (lit_scoped l.count) (drop l.lit-index l.lits)
