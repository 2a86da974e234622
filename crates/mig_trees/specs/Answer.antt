-- The answer to a need: all link trees that serve it, in order, as joins.
use Rattle.std.specs.Prelude.{List, [], ◌∷◌}
use Rattle.mig_listing.specs.Listing.{IsListOf}
use Rattle.mig_schema.specs.declared.tables.ColId.{ColId}
use Rattle.mig_schema.specs.declared.tables.Schema.{Schema}
use Rattle.mig_schema.specs.declared.programs.Join.{Join}
use Rattle.mig_trees.specs.Trees.{Tree, IsLinkTree, Serves, TreeBefore}
use Rattle.mig_trees.specs.Written.{IsWritten}

-- the joins are the trees written, one by one
abbrev pub AreWritten : Schema → List Tree → List Join → Type 0
AreWritten schema [] [] = Unit {0}
AreWritten schema [] (j ∷ js) = ⊥
AreWritten schema (t ∷ ts) [] = ⊥
AreWritten schema (t ∷ ts) (j ∷ js) = IsWritten schema t j × AreWritten schema ts js

-- a link tree that holds a column of each set
abbrev pub IsServing : Schema → (need : List (List ColId)) → Tree → Type 0
IsServing schema need t = IsLinkTree schema t × Serves need t.tables

-- the joins are all link trees that hold a column of each set, in order
pub record AreTrees (schema : Schema) (need : List (List ColId)) (joins : List Join) : Type 0 where
  pub trees : List Tree
  pub listed : IsListOf (IsServing schema need) TreeBefore trees
  pub written : AreWritten schema trees joins
