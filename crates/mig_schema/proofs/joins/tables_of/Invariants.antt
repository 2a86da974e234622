use Rattle.std.proofs.Common.{◌≡◌, ◌∷◌, map, take}
use Rattle.mig_schema.specs.declared.programs.Joined.{Joined}
use Rattle.mig_schema.proofs.joins.tables_of.Given as goal

abbrev pub invariant-loop-joined : goal.invariant-loop-joined
invariant-loop-joined l = l.tables.items ≡ l.join.first ∷ map (λ (m : Joined). m.table) (take l.joined-index l.joined-items)
