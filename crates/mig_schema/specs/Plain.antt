-- Plain jobs: one table is renamed with its columns, and hints say how.
use Rattle.std.specs.Prelude.{◌≡◌, ◌==◌, Bool, true, false, not, ◌&&◌, length}
use Rattle.std.specs.List.{list_any, list_all, count_by}
use Rattle.std.specs.Str.{bytes_eq}
use Rattle.mig_schema.specs.declared.tables.Column.{Column}
use Rattle.mig_schema.specs.declared.tables.Kind.TheVariants as kind
use Rattle.mig_schema.specs.declared.tables.Schema.{Schema}
use Rattle.mig_schema.specs.declared.programs.Scalar.{Scalar}
use Rattle.mig_schema.specs.declared.programs.Scalar.TheVariants as scalar
use Rattle.mig_schema.specs.declared.programs.Cond.{Cond}
use Rattle.mig_schema.specs.declared.programs.Stmt.{Stmt}
use Rattle.mig_schema.specs.declared.programs.Stmt.TheVariants.{Insert, Delete, Set}
use Rattle.mig_schema.specs.declared.programs.Body.{Body}
use Rattle.mig_schema.specs.declared.programs.Body.TheVariants as body
use Rattle.mig_schema.specs.declared.jobs.Hint.{Hint}
use Rattle.mig_schema.specs.declared.jobs.Job.{Job}
use Rattle.mig_schema.specs.Columns.{table_at, columns_of, columns_in, same_col, same_kind}

-- whether a schema is one table without links and without a column of kind key
abbrev pub is_one_table : Schema → Bool
is_one_table s = length s.tables == 1 && (length s.links == 0 && not (list_any (λ (c : Column). same_kind c.kind kind.Key) (columns_of s 0)))

-- whether the two tables have different names
abbrev pub is_renamed : Job → Bool
is_renamed j = not (bytes_eq (table_at j.source 0).name (table_at j.target 0).name)

-- whether each old column is the left end of exactly one hint
abbrev pub all_leave : Job → Bool
all_leave j = list_all (λ c. count_by (λ (h : Hint). same_col h.source c) j.hints == 1) (columns_in j.source 0)

-- whether each new column is the right end of exactly one hint
abbrev pub all_arrive : Job → Bool
all_arrive j = list_all (λ c. count_by (λ (h : Hint). same_col h.target c) j.hints == 1) (columns_in j.target 0)

-- whether each hint has weight 100
abbrev pub all_heavy : Job → Bool
all_heavy j = list_all (λ (h : Hint). h.weight == 100) j.hints

-- whether a scalar is a parameter
abbrev pub is_param : Scalar → Bool
is_param (scalar.Param p) = true
is_param (scalar.Int i) = false
is_param (scalar.Text t) = false
is_param (scalar.Fresh n) = false

-- whether a statement is an insert whose values are parameters
abbrev pub inserts_params : Stmt → Bool
inserts_params (Insert join values) = list_all (λ a. is_param a.value) values
inserts_params (Delete tables join test) = false
inserts_params (Set column x join test) = false

-- whether a condition is that of a text without `where`: one case, which is empty
abbrev pub is_no_where : Cond → Bool
is_no_where test = length test.cases == 1 && list_all (λ case. length case == 0) test.cases

-- whether an update is one such insert, or a query has no `where`
abbrev pub is_plain_body : Body → Bool
is_plain_body (body.Update stmts) = length stmts == 1 && list_all inserts_params stmts
is_plain_body (body.Query q) = is_no_where q.cond

-- a job that renames one table
pub record IsPlain (j : Job) : Type 0 where
  pub source : is_one_table j.source ≡ true
  pub target : is_one_table j.target ≡ true
  pub renamed : is_renamed j ≡ true
  pub leave : all_leave j ≡ true
  pub arrive : all_arrive j ≡ true
  pub heavy : all_heavy j ≡ true
  pub bodies : list_all (λ f. is_plain_body f.body) j.program.functions ≡ true
