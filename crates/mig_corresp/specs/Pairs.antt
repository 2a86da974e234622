-- The pairs of an old and a new column that may go together.
use Rattle.std.specs.Prelude.{List, map, filter}
use Rattle.std.specs.List.{flat_map}
use Rattle.mig_schema.specs.declared.tables.ColId.{ColId}
use Rattle.mig_schema.specs.declared.jobs.Job.{Job}
use Rattle.mig_schema.specs.Columns.{same_kind, kind_of}
use Rattle.mig_invariant.specs.declared.corresp.ColPair.{ColPair}
use Rattle.mig_invariant.specs.Columns.{all_columns}

-- an old column with each of these new ones that has its kind
abbrev pub pairs_among : Job → List ColId → ColId → List ColPair
pairs_among job targets c = map (λ (d : ColId). record { source = c; target = d }) (filter (λ (d : ColId). same_kind (kind_of job.source c) (kind_of job.target d)) targets)

-- all pairs of an old and a new column of one kind, by old, then by new column
abbrev pub pairs : Job → List ColPair
pairs job = flat_map (pairs_among job (all_columns job.target)) (all_columns job.source)
