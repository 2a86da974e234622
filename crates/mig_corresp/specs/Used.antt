-- Which columns of the old schema a program uses.
use Rattle.std.specs.Prelude.{Bool, not, ◌&&◌, ◌||◌}
use Rattle.std.specs.List.{list_any}
use Rattle.mig_schema.specs.declared.tables.ColId.{ColId}
use Rattle.mig_schema.specs.declared.programs.Body.{Body}
use Rattle.mig_schema.specs.declared.programs.Function.{Function}
use Rattle.mig_schema.specs.declared.jobs.Job.{Job}
use Rattle.mig_schema.specs.Columns.{same_col}
use Rattle.mig_schema.specs.Joins.{tables_of, is_among}
use Rattle.mig_schema.specs.Typed.{Piece, named_columns, pieces_of}
use Rattle.mig_invariant.specs.Columns.{is_key}

-- whether a statement or a query names the column, or inserts into its table
abbrev pub is_used_by : ColId → Piece → Bool
is_used_by c p = list_any (same_col c) (named_columns p) || (p.inserts && is_among c.table (tables_of p.join))

-- whether a statement or the query of a function does
abbrev pub is_used_in : ColId → Body → Bool
is_used_in c body = list_any (is_used_by c) (pieces_of body)

-- whether a function does
abbrev pub is_used : Job → ColId → Bool
is_used job c = list_any (λ (f : Function). is_used_in c f.body) job.program.functions

-- whether an old column must have an image: it is used and no key
abbrev pub must_go : Job → ColId → Bool
must_go job c = is_used job c && not (is_key job.source c)

-- whether a new column must be an image: it is no key
abbrev pub must_come : Job → ColId → Bool
must_come job d = not (is_key job.target d)
