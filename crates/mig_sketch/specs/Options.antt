-- The options of a part under a correspondence.
use Rattle.std.specs.Prelude.{◌≡◌, ℕ, List, [], ◌∷◌, map, filter, length, Option, Some, None}
use Rattle.std.specs.List.{flat_map, range_with_len}
use Rattle.mig_schema.specs.Joins.{tables_of, is_among}
use Rattle.mig_schema.specs.declared.jobs.Job.{Job}
use Rattle.mig_schema.specs.declared.programs.Assign.{Assign}
use Rattle.mig_schema.specs.declared.programs.Cond.{Cond}
use Rattle.mig_schema.specs.declared.programs.Join.{Join}
use Rattle.mig_schema.specs.declared.programs.Query.{Query}
use Rattle.mig_schema.specs.declared.programs.Scalar.{Scalar}
use Rattle.mig_schema.specs.declared.programs.Stmt.{Stmt}
use Rattle.mig_schema.specs.declared.programs.Stmt.TheVariants.{Insert, Delete, Set}
use Rattle.mig_schema.specs.declared.tables.ColId.{ColId}
use Rattle.mig_schema.specs.declared.tables.Schema.{Schema}
use Rattle.mig_listing.specs.Choices.{choices}
use Rattle.mig_trees.specs.Answer.{AreTrees}
use Rattle.mig_invariant.specs.declared.corresp.Corr.{Corr}
use Rattle.mig_invariant.specs.Images.{images}
use Rattle.mig_sketch.specs.declared.plans.Part.{Part}
use Rattle.mig_sketch.specs.declared.plans.Part.TheVariants as part
use Rattle.mig_sketch.specs.Moved.{image, condition_by}
use Rattle.mig_sketch.specs.Needs.{needs}
use Rattle.mig_sketch.specs.Values.{carried, insert_values}

-- ---- the options over one tree, with columns written as f says

abbrev pub query_over : (ColId → ColId) → Query → Join → List Part
query_over f q tree = part.Query (record { columns = map f q.columns; join = tree; cond = condition_by f q.cond }) ∷ []

-- the tables of a join by their numbers
abbrev pub rising_tables : Schema → Join → List ℕ
rising_tables s j = filter (λ t. is_among t (tables_of j)) (range_with_len 0 (length s.tables))

-- each nonempty set of a tree's tables, by size, then by the tables' numbers
abbrev pub table_sets : Schema → Join → List (List ℕ)
table_sets s tree = flat_map (λ n. choices n (rising_tables s tree)) (range_with_len 1 4)

abbrev pub delete_from : Join → Cond → (tables : List ℕ) → Part
delete_from tree test tables = part.Stmt (Delete tables tree test)

-- a delete from each set of the tree's tables
abbrev pub delete_over : Schema → (ColId → ColId) → Cond → Join → List Part
delete_over target f test tree = map (delete_from tree (condition_by f test)) (table_sets target tree)

-- the only one of these images; none where there is none, or a second one
abbrev pub only_image : List ColId → Option ColId
only_image [] = None
only_image (d ∷ []) = Some d
only_image (d ∷ e ∷ ds) = None

abbrev pub set_over : (ColId → ColId) → Option ColId → Scalar → Cond → Join → List Part
set_over f None x test tree = []
set_over f (Some d) x test tree = part.Stmt (Set d x tree (condition_by f test)) ∷ []

abbrev pub insert_over : Join → Option (List Assign) → List Part
insert_over tree None = []
insert_over tree (Some values) = part.Stmt (Insert tree values) ∷ []

-- of statement s, where its function does not use these labels
abbrev pub stmt_over : Job → Corr → (free : List ℕ) → (s : ℕ) → Stmt → Join → List Part
stmt_over job corr free s (Insert join values) tree = insert_over tree (insert_values job.target (carried job corr join values) free s tree)
stmt_over job corr free s (Delete tables join test) tree = delete_over job.target (image job.target corr tree) test tree
stmt_over job corr free s (Set column x join test) tree = set_over (image job.target corr tree) (only_image (images job.target corr column)) x test tree

abbrev pub part_over : Job → Corr → (free : List ℕ) → (s : ℕ) → Part → Join → List Part
part_over job corr free s (part.Stmt x) tree = stmt_over job corr free s x tree
part_over job corr free s (part.Query q) tree = query_over (image job.target corr tree) q tree

-- ---- all options

-- those over each link tree that serves what the part needs, in order
pub record AreOptions (job : Job) (corr : Corr) (free : List ℕ) (s : ℕ) (p : Part) (options : List Part) : Type 0 where
  pub trees : List Join
  pub serving : AreTrees job.target (needs job corr p) trees
  pub are : options ≡ flat_map (part_over job corr free s p) trees
