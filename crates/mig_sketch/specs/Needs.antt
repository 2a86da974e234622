-- The columns of which a link tree must hold one each, so that a part can be written over it.
use Rattle.std.specs.Prelude.{Bool, true, false, List, [], ◌∷◌, ◌++◌, map, filter}
use Rattle.std.specs.List.{flat_map}
use Rattle.mig_schema.specs.Joins.{join_columns}
use Rattle.mig_schema.specs.Typed.{item_columns}
use Rattle.mig_schema.specs.declared.jobs.Job.{Job}
use Rattle.mig_schema.specs.declared.programs.Cmp.{Cmp}
use Rattle.mig_schema.specs.declared.programs.Cond.{Cond}
use Rattle.mig_schema.specs.declared.programs.Query.{Query}
use Rattle.mig_schema.specs.declared.programs.Stmt.{Stmt}
use Rattle.mig_schema.specs.declared.programs.Stmt.TheVariants.{Insert, Delete, Set}
use Rattle.mig_schema.specs.declared.tables.ColId.{ColId}
use Rattle.mig_invariant.specs.declared.corresp.Corr.{Corr}
use Rattle.mig_invariant.specs.Columns.{all_columns, columns_within}
use Rattle.mig_invariant.specs.Images.{images}
use Rattle.mig_sketch.specs.declared.plans.Part.{Part}
use Rattle.mig_sketch.specs.declared.plans.Part.TheVariants as part

-- the columns that comparisons name
abbrev pub case_columns : List Cmp → List ColId
case_columns cmps = flat_map (λ (x : Cmp). item_columns x.left ++ item_columns x.right) cmps

-- the columns that a condition names
abbrev pub condition_columns : Cond → List ColId
condition_columns test = flat_map case_columns test.cases

-- whether there is one
abbrev pub has_any : List ColId → Bool
has_any [] = false
has_any (d ∷ ds) = true

-- a query needs an image of each column that it names
abbrev pub query_needs : Job → Corr → Query → List (List ColId)
query_needs job corr q = map (images job.target corr) (q.columns ++ condition_columns q.cond)

-- A delete needs one of each column of its condition, and of each column of its listed tables that has one. A set needs the written column's and those of its condition. An insert needs each image of each column of its joined tables.
abbrev pub stmt_needs : Job → Corr → Stmt → List (List ColId)
stmt_needs job corr (Insert join values) = flat_map (λ c. map (λ d. d ∷ []) (images job.target corr c)) (join_columns job.source join)
stmt_needs job corr (Delete tables join test) = map (images job.target corr) (condition_columns test) ++ filter has_any (map (images job.target corr) (columns_within (all_columns job.source) tables))
stmt_needs job corr (Set column x join test) = map (images job.target corr) (column ∷ condition_columns test)

abbrev pub needs : Job → Corr → Part → List (List ColId)
needs job corr (part.Stmt s) = stmt_needs job corr s
needs job corr (part.Query q) = query_needs job corr q
