use Rattle.std.proofs.Common.{◌≡◌, take, cond}
use Rattle.std.specs.Prelude.{◌==◌}
use Rattle.mig_schema.specs.declared.values.Value.{Value}
use Rattle.mig_base.specs.Lists.{numbered}
use Rattle.mig_meaning.proofs.setting.with_value.Given as goal

abbrev pub invariant-loop-n : goal.invariant-loop-n
invariant-loop-n l = l.values ≡ numbered (λ n (x : Value). cond (n == l.column) l.value x) 0 (take l.n l.before)
