-- The images of an old column under a correspondence.
use Rattle.std.specs.Prelude.{Bool, ◌&&◌, List, filter}
use Rattle.std.specs.List.{list_any}
use Rattle.mig_schema.specs.declared.tables.ColId.{ColId}
use Rattle.mig_schema.specs.declared.tables.Schema.{Schema}
use Rattle.mig_schema.specs.Columns.{same_col}
use Rattle.mig_invariant.specs.declared.corresp.ColPair.{ColPair}
use Rattle.mig_invariant.specs.declared.corresp.Corr.{Corr}
use Rattle.mig_invariant.specs.Columns.{all_columns}

-- whether a correspondence has the pair of an old and a new column
abbrev pub is_pair : Corr → (source target : ColId) → Bool
is_pair corr c d = list_any (λ (p : ColPair). same_col p.source c && same_col p.target d) corr.pairs

-- the images of an old column among these new ones
abbrev pub images_among : List ColId → Corr → ColId → List ColId
images_among columns corr c = filter (is_pair corr c) columns

-- the images of an old column, in schema order
abbrev pub images : Schema → Corr → ColId → List ColId
images target corr c = images_among (all_columns target) corr c
