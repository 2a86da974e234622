-- What the functions make over the trees that serve are the options.
use Rattle.std.proofs.Common.{◌≡◌, ℕ, List, [], ◌∷◌, ◌++◌, map, refl, sym, ap, ap₂, ◌∙◌, subst, inr}
use Rattle.std.specs.Prelude.{filter, Option, Some, None}
use Rattle.std.specs.List.{flat_map}
use Rattle.mig_schema.specs.Joins.{join_columns}
use Rattle.mig_schema.specs.declared.jobs.Job.{Job}
use Rattle.mig_schema.specs.declared.programs.Assign.{Assign}
use Rattle.mig_schema.specs.declared.programs.Cond.{Cond}
use Rattle.mig_schema.specs.declared.programs.Join.{Join}
use Rattle.mig_schema.specs.declared.programs.Query.{Query}
use Rattle.mig_schema.specs.declared.programs.Scalar.{Scalar}
use Rattle.mig_schema.specs.declared.programs.Stmt.TheVariants.{Insert, Delete, Set}
use Rattle.mig_schema.specs.declared.tables.ColId.{ColId}
use Rattle.mig_listing.proofs.Members.{in_append_left, in_append_right}
use Rattle.mig_trees.specs.Answer.{AreTrees}
use Rattle.mig_invariant.specs.declared.corresp.Corr.{Corr}
use Rattle.mig_invariant.specs.Columns.{all_columns, columns_within}
use Rattle.mig_invariant.specs.Images.{images}
use Rattle.mig_sketch.specs.declared.images.Imaged.{Imaged}
use Rattle.mig_sketch.specs.declared.plans.Part.{Part}
use Rattle.mig_sketch.specs.declared.plans.Part.TheVariants as part
use Rattle.mig_sketch.specs.Imaging.{imaged, image_sets, looked, single_sets, carried_to}
use Rattle.mig_sketch.specs.Moved.{image, condition_by}
use Rattle.mig_sketch.specs.Needs.{has_any, condition_columns}
use Rattle.mig_sketch.specs.Options.{AreOptions, query_over, delete_over, set_over, insert_over, only_image, table_sets, delete_from}
use Rattle.mig_sketch.specs.Values.{insert_values}
use Rattle.mig_sketch.proofs.Agreeing.{map-agree, condition-agree, flat_map-agree, images_listed, looked_image}

-- the columns that a query names
abbrev query_named : Query → List ColId
query_named q = q.columns ++ condition_columns q.cond

module _ (job : Job) (corr : Corr) (free : List ℕ) (s : ℕ) (trees : List Join) (options : List Part) where
  abbrev listed : List ColId → List Imaged
  listed cs = map (imaged (all_columns job.target) corr) cs

  -- the images of each column of these old tables that has one
  abbrev of_tables : (tables : List ℕ) → List (List ColId)
  of_tables tables = filter has_any (map (images job.target corr) (columns_within (all_columns job.source) tables))

  -- the options of a query
  pub query_are : (q : Query) (list : List Imaged) → list ≡ listed (q.columns ++ condition_columns q.cond)
      → AreTrees job.target (image_sets list) trees
      → options ≡ flat_map (λ tree. query_over (looked list tree) q tree) trees
      → AreOptions job corr free s (part.Query q) options
  query_are q list e = subst (λ is. AreTrees job.target (image_sets is) trees → options ≡ flat_map (λ tree. query_over (looked is tree) q tree) trees → AreOptions job corr free s (part.Query q) options) (sym e) (λ serving are. record {
    trees = trees;
    serving = subst (λ n. AreTrees job.target n trees) (images_listed job.target corr (query_named q)) serving;
    are = are ∙ flat_map-agree (λ tree. query_over (looked (listed (query_named q)) tree) q tree) (λ tree. query_over (image job.target corr tree) q tree) trees same;
  })
    where
      same : (tree : Join) → query_over (looked (listed (query_named q)) tree) q tree ≡ query_over (image job.target corr tree) q tree
      same tree = ap₂ (λ cs test. part.Query (record { columns = cs; join = tree; cond = test }) ∷ [])
          (map-agree (looked (listed (query_named q)) tree) (image job.target corr tree) q.columns (λ c i. looked_image job.target corr (query_named q) tree c (in_append_left q.columns (condition_columns q.cond) c i)))
          (condition-agree (looked (listed (query_named q)) tree) (image job.target corr tree) q.cond (λ c i. looked_image job.target corr (query_named q) tree c (in_append_right q.columns (condition_columns q.cond) c i)))

  -- the options of a delete
  pub delete_are : (tables : List ℕ) (join : Join) (test : Cond) (list : List Imaged) → list ≡ listed (condition_columns test)
      → AreTrees job.target (image_sets list ++ filter has_any (map (images job.target corr) (columns_within (all_columns job.source) tables))) trees
      → options ≡ flat_map (λ tree. delete_over job.target (looked list tree) test tree) trees
      → AreOptions job corr free s (part.Stmt (Delete tables join test)) options
  delete_are tables join test list e = subst (λ is. AreTrees job.target (image_sets is ++ (of_tables tables)) trees → options ≡ flat_map (λ tree. delete_over job.target (looked is tree) test tree) trees → AreOptions job corr free s (part.Stmt (Delete tables join test)) options) (sym e) (λ serving are. record {
    trees = trees;
    serving = subst (λ n. AreTrees job.target (n ++ (of_tables tables)) trees) (images_listed job.target corr (condition_columns test)) serving;
    are = are ∙ flat_map-agree (λ tree. delete_over job.target (looked (listed (condition_columns test)) tree) test tree) (λ tree. delete_over job.target (image job.target corr tree) test tree) trees same;
  })
    where
      same : (tree : Join) → delete_over job.target (looked (listed (condition_columns test)) tree) test tree ≡ delete_over job.target (image job.target corr tree) test tree
      same tree = ap (λ t. map (delete_from tree t) (table_sets job.target tree))
          (condition-agree (looked (listed (condition_columns test)) tree) (image job.target corr tree) test (λ c i. looked_image job.target corr (condition_columns test) tree c i))

  -- the options of a set
  pub set_are : (column : ColId) (x : Scalar) (join : Join) (test : Cond) (list : List Imaged) (own : Option ColId) → list ≡ listed (column ∷ condition_columns test)
      → own ≡ only_image (images job.target corr column)
      → AreTrees job.target (image_sets list) trees
      → options ≡ flat_map (λ tree. set_over (looked list tree) own x test tree) trees
      → AreOptions job corr free s (part.Stmt (Set column x join test)) options
  set_are column x join test list own e d = subst (λ is. AreTrees job.target (image_sets is) trees → options ≡ flat_map (λ tree. set_over (looked is tree) own x test tree) trees → AreOptions job corr free s (part.Stmt (Set column x join test)) options) (sym e) (λ serving are. record {
    trees = trees;
    serving = subst (λ n. AreTrees job.target n trees) (images_listed job.target corr (column ∷ condition_columns test)) serving;
    are = are ∙ flat_map-agree (λ tree. set_over (looked (listed (column ∷ condition_columns test)) tree) own x test tree) (λ tree. set_over (image job.target corr tree) (only_image (images job.target corr column)) x test tree) trees same;
  })
    where
      over : (o : Option ColId) (f g : ColId → ColId) (tree : Join) → condition_by f test ≡ condition_by g test → set_over f o x test tree ≡ set_over g o x test tree
      over None f g tree h = refl
      over (Some y) f g tree h = ap (λ t. part.Stmt (Set y x tree t) ∷ []) h

      same : (tree : Join) → set_over (looked (listed (column ∷ condition_columns test)) tree) own x test tree ≡ set_over (image job.target corr tree) (only_image (images job.target corr column)) x test tree
      same tree =
          over own (looked (listed (column ∷ condition_columns test)) tree) (image job.target corr tree) tree (condition-agree (looked (listed (column ∷ condition_columns test)) tree) (image job.target corr tree) test (λ c i. looked_image job.target corr (column ∷ condition_columns test) tree c (inr i)))
          ∙ ap (λ o. set_over (image job.target corr tree) o x test tree) d

  singles-listed : (cs : List ColId) → flat_map single_sets (listed cs) ≡ flat_map (λ c. map (λ d. d ∷ []) (images job.target corr c)) cs
  singles-listed [] = refl
  singles-listed (c ∷ cs) = ap (λ ds. map (λ d. d ∷ []) (images job.target corr c) ++ ds) (singles-listed cs)

  carried-listed : (join : Join) (values : List Assign) (cs : List ColId) → flat_map (carried_to join values) (listed cs) ≡ flat_map (λ c. carried_to join values (imaged (all_columns job.target) corr c)) cs
  carried-listed join values [] = refl
  carried-listed join values (c ∷ cs) = ap (λ xs. carried_to join values (imaged (all_columns job.target) corr c) ++ xs) (carried-listed join values cs)

  -- the options of an insert
  pub insert_are : (join : Join) (values : List Assign) (list : List Imaged) (given : List Assign) → list ≡ listed (join_columns job.source join)
      → given ≡ flat_map (carried_to join values) list
      → AreTrees job.target (flat_map single_sets list) trees
      → options ≡ flat_map (λ tree. insert_over tree (insert_values job.target given free s tree)) trees
      → AreOptions job corr free s (part.Stmt (Insert join values)) options
  insert_are join values list given e d serving are = record {
    trees = trees;
    serving = subst (λ n. AreTrees job.target n trees) (ap (flat_map single_sets) e ∙ singles-listed (join_columns job.source join)) serving;
    are = are ∙ ap (λ xs. flat_map (λ tree. insert_over tree (insert_values job.target xs free s tree)) trees) (d ∙ ap (flat_map (carried_to join values)) e ∙ carried-listed join values (join_columns job.source join));
  }
