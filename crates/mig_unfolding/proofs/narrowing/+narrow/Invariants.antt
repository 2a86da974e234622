use Rattle.std.proofs.Common.{◌≡◌, ◌++◌, drop}
use Rattle.mig_unfolding.specs.Narrowed.{narrow_list}
use Rattle.mig_unfolding.proofs.narrowing.+narrow.Given as goal

abbrev pub invariant-narrow_list-loop-lit : goal.invariant-narrow_list-loop-lit
invariant-narrow_list-loop-lit l = narrow_list l.newest.var.now l.newest.number l.count l.lits ≡ l.left ++ narrow_list l.newest.var.now l.newest.number l.count (drop l.lit-index l.lits)
