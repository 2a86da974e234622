-- The tables of joined ones.
use Rattle.std.proofs.Common.{◌≡◌, List, map}
use Rattle.std.specs.List.{list_all}
use Rattle.std.proofs.lemmas.List.Folds.{list_all-map}
use Rattle.mig_schema.specs.declared.tables.Schema.{Schema}
use Rattle.mig_schema.specs.declared.programs.Joined.{Joined}
use Rattle.mig_schema.specs.Columns.{has_table}

-- all are in a schema where each of them has one that is
pub joined_there : (s : Schema) (ms : List Joined) → list_all (has_table s) (map (λ (m : Joined). m.table) ms) ≡ list_all (λ (m : Joined). has_table s m.table) ms
joined_there s ms = list_all-map (has_table s) (λ (m : Joined). m.table) ms
