-- A class of a join's columns by its first column.
use Rattle.std.specs.Prelude.{List}
use Rattle.std.specs.List.{find}
use Rattle.std.specs.Option.{unwrap_or}
use Rattle.mig_schema.specs.declared.tables.ColId.{ColId}
use Rattle.mig_schema.specs.declared.tables.Schema.{Schema}
use Rattle.mig_schema.specs.declared.programs.Join.{Join}
use Rattle.mig_schema.specs.Joins.{join_columns, in_one_class}

-- the first column of the join that is in the class of c; c itself where none is
abbrev pub first_of_class : Schema → Join → ColId → ColId
first_of_class s j c = unwrap_or (find (in_one_class j c) (join_columns s j)) c
