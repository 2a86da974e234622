use Rattle.std.proofs.Common.{◌≡◌, ◌∷◌, map, take}
use Rattle.mig_algebra.specs.Obligations.{var_of}
use Rattle.mig_obligations.proofs.forming.join_vars.Given as goal

abbrev pub invariant-loop-joined : goal.invariant-loop-joined
invariant-loop-joined l = l.vars.items ≡ var_of l.side l.stage l.join.first ∷ map (var_of l.side l.stage) (map (λ m. m.table) (take l.joined-index l.join.more))
