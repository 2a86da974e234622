-- Choices of rows that are made table after table, and what they may begin with.
use Rattle.std.specs.Prelude.{◌≡◌, ℕ, Bool, true, List, [], ◌∷◌, ◌++◌, map, filter}
use Rattle.std.specs.List.{flat_map}
use Rattle.mig_schema.specs.declared.programs.Joined.{Joined}
use Rattle.mig_schema.specs.declared.programs.Join.{Join}
use Rattle.mig_schema.specs.declared.programs.Cmp.{Cmp}
use Rattle.mig_schema.specs.Joins.{tables_of}
use Rattle.mig_meaning.specs.declared.states.Placed.{Placed}
use Rattle.mig_meaning.specs.declared.states.State.{State}
use Rattle.mig_meaning.specs.Conditions.{Given, cases_true}
use Rattle.mig_meaning.specs.Lists.{In, product}
use Rattle.mig_meaning.specs.Rows.{JoinRow, column_in, meets, rows_of, value_at}
use Rattle.mig_meaning.specs.Values.{value_eq}

-- the rows of the joined table that meet its equality with a choice of rows of earlier tables
abbrev pub partners : State → List ℕ → Joined → JoinRow → List Placed
partners s earlier m c = filter (λ (p : Placed). value_eq (value_at p m.right.column) (column_in earlier c m.left)) (rows_of s m.table)

-- each choice with each of its partners
abbrev pub grown : State → List ℕ → Joined → List JoinRow → List JoinRow
grown s earlier m choices = flat_map (λ c. map (λ (p : Placed). c ++ p ∷ []) (partners s earlier m c)) choices

-- table after table
abbrev pub grown_all : State → List ℕ → List Joined → List JoinRow → List JoinRow
grown_all s earlier [] choices = choices
grown_all s earlier (m ∷ ms) choices = grown_all s (earlier ++ m.table ∷ []) ms (grown s earlier m choices)

-- rows of the first table, in order, among which is that of each join row which meets the condition
pub record IsCover (g : Given) (s : State) (join : Join) (cases : List (List Cmp)) (rows : List Placed) : Type 0 where
  pub test : Placed → Bool
  pub part : rows ≡ filter test (rows_of s join.first)
  pub covers : (p : Placed) (d : JoinRow) → In (p ∷ d) (product (map (rows_of s) (tables_of join))) → meets (tables_of join) join.more (p ∷ d) ≡ true → cases_true g (tables_of join) (p ∷ d) cases ≡ true → test p ≡ true
