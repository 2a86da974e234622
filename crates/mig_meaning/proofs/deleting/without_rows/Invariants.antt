use Rattle.std.proofs.Common.{◌≡◌, take, not, cond}
use Rattle.std.specs.Prelude.{◌==◌, filter}
use Rattle.std.specs.List.{list_any}
use Rattle.mig_base.specs.Lists.{numbered}
use Rattle.mig_meaning.specs.Effect.{takes_part}
use Rattle.mig_meaning.proofs.deleting.without_rows.Given as goal

abbrev pub invariant-loop-n : goal.invariant-loop-n
invariant-loop-n l = l.after ≡ numbered (λ n rows. cond (list_any (λ t. t == n) l.listed) (filter (λ p. not (takes_part l.tables l.met n p)) rows) rows) 0 (take l.n l.before)
