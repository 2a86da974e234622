use Rattle.std.proofs.Common.{◌≡◌, ◌++◌, ◌==◌, cond, drop}
use Rattle.mig_base.specs.Lists.{numbered}
use Rattle.mig_algebra.specs.declared.atoms.Var.{Var}
use Rattle.mig_unfolding.specs.Hosts.{var_before}
use Rattle.mig_unfolding.proofs.hosts.vars_before.Given as goal

abbrev pub invariant-loop-i : goal.invariant-loop-i
invariant-loop-i l = numbered (λ n (w : Var). cond (n == l.at) (var_before w) w) 0 l.vars ≡ l.before ++ numbered (λ n (w : Var). cond (n == l.at) (var_before w) w) l.i (drop l.i l.vars)
