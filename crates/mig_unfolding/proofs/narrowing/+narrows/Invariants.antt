use Rattle.std.proofs.Common.{◌≡◌, drop}
use Rattle.mig_unfolding.specs.Narrowed.{list_narrows}
use Rattle.mig_unfolding.proofs.narrowing.+narrows.Given as goal

abbrev pub invariant-list_narrows-loop-lit : goal.invariant-list_narrows-loop-lit
invariant-list_narrows-loop-lit l = list_narrows l.newest.var.now l.newest.number l.scopes.all l.scopes.seen l.lits ≡ list_narrows l.newest.var.now l.newest.number l.scopes.all l.scopes.seen (drop l.lit-index l.lits)
