use Rattle.std.proofs.Common.{◌≡◌, take, cond, map}
use Rattle.std.specs.Prelude.{◌==◌}
use Rattle.mig_base.specs.Lists.{numbered}
use Rattle.mig_meaning.specs.Effect.{takes_part, with_value}
use Rattle.mig_meaning.proofs.setting.with_set.Given as goal

abbrev pub invariant-loop-n : goal.invariant-loop-n
invariant-loop-n l = l.after ≡ numbered (λ n rows. cond (n == l.column.table) (map (λ p. cond (takes_part l.tables l.met n p) (with_value l.column.column l.value p) p) rows) rows) 0 (take l.n l.before)
