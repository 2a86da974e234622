use Rattle.std.proofs.Common.{◌≡◌, ◌++◌, nat_lt, filter, take}
use Rattle.mig_failing.proofs.blaming.push_above.Given as goal

abbrev pub invariant-loop-m : goal.invariant-loop-m
invariant-loop-m l = l.more ≡ l.fn.more ++ filter (λ m. nat_lt l.n m) (take l.m-index l.numbers)
