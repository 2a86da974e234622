use Rattle.std.proofs.Common.{◌≡◌, ◌≤◌, ◌++◌, [], map, drop}
use Rattle.std.specs.Prelude.{option_map}
use Rattle.mig_schema.specs.Joins.{leader}
use Rattle.mig_schema.specs.declared.programs.Assign.{Assign}
use Rattle.mig_sketch.specs.Labels.{new_label}
use Rattle.mig_sketch.specs.Leading.{scalars_at}
use Rattle.mig_sketch.proofs.Valued.{left_values}
use Rattle.mig_sketch.proofs.values.class_values.Given as goal

abbrev pub invariant-loop-column : goal.invariant-loop-column
invariant-loop-column l = record {
  leaders : l.leaders.items ≡ map (leader l.tree.more) (map (λ (a : Assign). a.column) l.values);
  few : l.taken ≤ 4;
  values : left_values l.target l.tree (scalars_at l.tree l.led) (new_label l.free l.s) 0 [] l.columns ≡ option_map (λ rest. l.values ++ rest) (left_values l.target l.tree (scalars_at l.tree l.led) (new_label l.free l.s) l.taken (map (λ (a : Assign). a.column) l.values) (drop l.column-index l.columns));
}
