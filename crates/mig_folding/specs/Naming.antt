-- Which variables are tried for a fold: the numbers that may stand first, and all arguments of a host.
use Rattle.std.specs.Prelude.{ℕ, nat_lt, Bool, not, ◌&&◌, ◌||◌, List, [], length, take, slice_get, Option, Some, None}
use Rattle.std.specs.List.{list_all}
use Rattle.mig_schema.specs.declared.tables.ColId.{ColId}
use Rattle.mig_schema.specs.declared.programs.Join.{Join}
use Rattle.mig_schema.specs.declared.programs.Joined.{Joined}
use Rattle.mig_schema.specs.declared.programs.Op.TheVariants.{Eq}
use Rattle.mig_schema.specs.Joins.{tables_of}
use Rattle.mig_meaning.specs.declared.relating.View.{View}
use Rattle.mig_meaning.specs.declared.relating.Invariant.{Invariant}
use Rattle.mig_meaning.specs.declared.relating.Invariant.TheVariants.{Views, Unique, Apart, Within}
use Rattle.mig_meaning.specs.Lists.{place}
use Rattle.mig_algebra.specs.declared.atoms.Var.{Var}
use Rattle.mig_algebra.specs.declared.literals.Lit.{Lit}
use Rattle.mig_classes.specs.Given.{given}
use Rattle.mig_listing.specs.Choices.{numbers}
use Rattle.mig_listing.specs.Chosen.{each, chosen}
use Rattle.mig_folding.specs.Folding.{are_named, column_of}

-- a host: the number of its first variable, its variables, those in scope in it, and the plain literals of it and around it
pub record Host : Type 0 where
  pub base : ℕ
  pub vars : List Var
  pub scope : List Var
  pub known : List Lit

-- whether the table of a column is among the first n of a join
abbrev pub is_reached : Join → (n : ℕ) → ColId → Bool
is_reached j n c = nat_lt (place (tables_of j) c.table) n

-- whether an equality of a join is given, where both its tables have a variable already
abbrev pub may_join : Host → Join → List ℕ → Joined → Bool
may_join h j xs m = not (is_reached j (length xs) m.left && is_reached j (length xs) m.right) || given h.scope h.known Eq (column_of j xs m.left) (column_of j xs m.right)

-- whether these numbers may be the first of those that name variables for a join's tables: they name variables for its first tables, and the equalities between these tables are given
abbrev pub may_name : Host → Join → List ℕ → Bool
may_name h j xs = are_named h.base h.vars xs (take (length xs) (tables_of j)) && list_all (may_join h j xs) j.more

-- the variables that are tried for a view
abbrev pub names_by : Host → View → List (List ℕ)
names_by h source = chosen (may_name h source.join) (length h.scope) (length (tables_of source.join)) []

-- for an invariant, if it is there, and a view
abbrev pub names_for : Host → Option Invariant → List (List ℕ)
names_for h (Some (Views source target)) = names_by h source
names_for h (Some (Unique side column)) = []
names_for h (Some (Apart side left right)) = []
names_for h (Some (Within side left right)) = []
names_for h None = []

-- each of these invariants before the variables that are tried for it
abbrev pub args_for : List Invariant → Host → (ks : List ℕ) → List (List ℕ)
args_for invs h ks = each ks (λ k. names_for h (slice_get invs k))

-- and all of them so
abbrev pub host_args : List Invariant → Host → List (List ℕ)
host_args invs h = args_for invs h (numbers (length invs))
