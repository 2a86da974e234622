-- What holds of each join that is listed for a need over a typed schema.
use Rattle.std.specs.Prelude.{◌≡◌, ℕ, ◌≤◌, true, false, List, [], ◌∷◌, length}
use Rattle.mig_listing.specs.Listing.{IsIn}
use Rattle.mig_schema.specs.Columns.{has_table, has_column}
use Rattle.mig_schema.specs.Joins.{tables_of, all_join_on}
use Rattle.mig_schema.specs.Typed.{stands_twice}
use Rattle.mig_schema.specs.declared.tables.ColId.{ColId}
use Rattle.mig_schema.specs.declared.tables.Schema.{Schema}
use Rattle.mig_schema.specs.declared.programs.Join.{Join}
use Rattle.mig_schema.specs.declared.programs.Joined.{Joined}
use Rattle.mig_trees.specs.Trees.{Serves}

pub record IsListedJoin (schema : Schema) (need : List (List ColId)) (join : Join) : Type 0 where
  -- at most four different tables of the schema
  pub few : length (tables_of join) ≤ 4
  pub known : (t : ℕ) → IsIn t (tables_of join) → has_table schema t ≡ true
  pub once : stands_twice (tables_of join) ≡ false
  -- each equality has a column of an earlier table left and one of its own table right, of one kind, and the schema has both
  pub shaped : all_join_on schema (join.first ∷ []) join.more ≡ true
  pub ends : (m : Joined) → IsIn m join.more → (has_column schema m.left ≡ true) × (has_column schema m.right ≡ true)
  -- the tables hold a column of each set
  pub serves : Serves need (tables_of join)
