use Rattle.std.proofs.Common.{◌≡◌, [], ◌∷◌, map, take, drop}
use Rattle.mig_schema.specs.declared.programs.Joined.{Joined}
use Rattle.mig_schema.specs.Joins.{all_join_on}
use Rattle.mig_schema.proofs.joins.all_join_on.Given as goal

abbrev pub invariant-loop-i : goal.invariant-loop-i
invariant-loop-i l = all_join_on l.schema (l.first ∷ map (λ (m : Joined). m.table) (take l.i l.joined)) (drop l.i l.joined) ≡ all_join_on l.schema (l.first ∷ []) l.joined
