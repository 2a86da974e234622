-- Worked runs: what the definitions compute.
use Rattle.std.specs.Prelude.{ℕ, List, [], ◌∷◌, pos, ◌≡◌, Option, Some, None, map}
use Rattle.mig_schema.specs.declared.values.Value.{Value}
use Rattle.mig_schema.specs.declared.values.Value.TheVariants as value
use Rattle.mig_schema.specs.declared.tables.Kind.TheVariants as kind
use Rattle.mig_schema.specs.declared.tables.ColId.{ColId}
use Rattle.mig_schema.specs.declared.tables.Column.{Column}
use Rattle.mig_schema.specs.declared.programs.Join.{Join}
use Rattle.mig_schema.specs.declared.programs.Scalar.TheVariants as scalar
use Rattle.mig_schema.specs.declared.programs.Item.TheVariants as item
use Rattle.mig_schema.specs.declared.programs.Op.TheVariants as op
use Rattle.mig_schema.specs.declared.tables.Schema.{Schema}
use Rattle.mig_schema.specs.declared.programs.Stmt.{Stmt}
use Rattle.mig_schema.specs.declared.programs.Stmt.TheVariants.{Insert, Delete, Set}
use Rattle.mig_schema.specs.declared.programs.Body.TheVariants as body
use Rattle.mig_schema.specs.declared.programs.Program.{Program}
use Rattle.mig_schema.specs.declared.programs.Function.{Function}
use Rattle.mig_schema.specs.declared.programs.Cmp.{Cmp}
use Rattle.mig_schema.specs.declared.programs.Body.{Body}
use Rattle.mig_meaning.specs.declared.states.Placed.{Placed}
use Rattle.mig_meaning.specs.declared.calling.Invocation.{Invocation}
use Rattle.mig_meaning.specs.Rows.{empty_state, join_rows}
use Rattle.mig_meaning.specs.Run.{run, Outcome}

abbrev int_column : Column
int_column = record { name = []; kind = kind.Int }

abbrev key_column : Column
key_column = record { name = []; kind = kind.Key }

abbrev col : ℕ → ℕ → ColId
col t c = record { table = t; column = c }

-- person { k: key, age: int } and job { owner: key, pay: int }, joined by k = owner
abbrev schema : Schema
schema = record {
  tables = record { name = []; columns = key_column ∷ (int_column ∷ []) } ∷ (record { name = []; columns = key_column ∷ (int_column ∷ []) } ∷ []);
  links = [];
}

abbrev both : Join
both = record { first = 0; more = record { table = 1; left = col 0 0; right = col 1 0 } ∷ [] }

-- add(age, pay): one new person with one new job, by one fresh key
abbrev add : Stmt
add = Insert both (record { column = col 1 0; value = scalar.Fresh 0 } ∷ (record { column = col 0 1; value = scalar.Param 0 } ∷ (record { column = col 1 1; value = scalar.Param 1 } ∷ [])))

-- raise(pay): the pay of the jobs of persons of 30 and less
abbrev raise : Stmt
raise = Set (col 1 1) (scalar.Param 0) both (record { cases = (record { op = op.Le; left = item.Col (col 0 1); right = item.Scalar (scalar.Int (pos 30)) } ∷ []) ∷ [] })

-- leave(age): the jobs, and not the persons, of that age
abbrev leave : Stmt
leave = Delete (1 ∷ []) both (record { cases = (record { op = op.Eq; left = item.Col (col 0 1); right = item.Scalar (scalar.Param 0) } ∷ []) ∷ [] })

-- all ages with pays
abbrev program : Program
program = record {
  functions =
      record { name = []; params = []; body = body.Update (add ∷ []) }
      ∷ (record { name = []; params = []; body = body.Update (raise ∷ []) }
      ∷ (record { name = []; params = []; body = body.Update (leave ∷ []) }
      ∷ (record { name = []; params = []; body = body.Query (record { columns = col 0 1 ∷ (col 1 1 ∷ []); join = both; cond = record { cases = [] ∷ [] } }) } ∷ [])));
}

abbrev int : ℕ → Value
int n = value.Int (pos n)

abbrev call : ℕ → List Value → Invocation
call f args = record { function = f; args = record { values = args } }

abbrev supply : List ℕ
supply = 0 ∷ (1 ∷ (2 ∷ (3 ∷ (4 ∷ (5 ∷ (6 ∷ (7 ∷ (8 ∷ (9 ∷ (10 ∷ (11 ∷ (12 ∷ (13 ∷ (14 ∷ (15 ∷ (16 ∷ (17 ∷ [])))))))))))))))))

abbrev replies : List Outcome → List (Option (List (List Value)))
replies os = map (λ (o : Outcome). o.reply) os

-- two persons are added, the younger one's pay is raised, the query sees both
abbrev pub SetRun : Type 0
SetRun = replies (run schema program (empty_state schema) (call 0 (int 20 ∷ (int 5 ∷ [])) ∷ (call 0 (int 40 ∷ (int 6 ∷ [])) ∷ (call 1 (int 9 ∷ []) ∷ (call 3 [] ∷ [])))) supply) ≡ None ∷ (None ∷ (None ∷ (Some ((int 20 ∷ (int 9 ∷ [])) ∷ ((int 40 ∷ (int 6 ∷ [])) ∷ [])) ∷ [])))

abbrev pair : ℕ → ℕ → ℕ → Placed
pair id k n = record { id = id; row = record { values = value.Key k ∷ (int n ∷ []) } }

-- the state after two adds and leave(20): ids go on over all tables, the second call has the key 16
abbrev pub DeleteRun : Type 0
DeleteRun = map (λ (o : Outcome). o.state) (run schema program (empty_state schema) (call 0 (int 20 ∷ (int 5 ∷ [])) ∷ (call 0 (int 40 ∷ (int 6 ∷ [])) ∷ (call 2 (int 20 ∷ []) ∷ []))) supply) ≡ record { tables = (pair 0 0 20 ∷ []) ∷ ((pair 1 0 5 ∷ []) ∷ []); next = 2 } ∷ (record { tables = (pair 0 0 20 ∷ (pair 2 16 40 ∷ [])) ∷ ((pair 1 0 5 ∷ (pair 3 16 6 ∷ [])) ∷ []); next = 4 } ∷ (record { tables = (pair 0 0 20 ∷ (pair 2 16 40 ∷ [])) ∷ ((pair 3 16 6 ∷ []) ∷ []); next = 4 } ∷ []))

-- ---- table A { id: int, x: int } and table B { id: int, y: int }
abbrev ab : Schema
ab = record {
  tables = record { name = []; columns = int_column ∷ (int_column ∷ []) } ∷ (record { name = []; columns = int_column ∷ (int_column ∷ []) } ∷ []);
  links = [];
}

abbrev alone : ℕ → Join
alone t = record { first = t; more = [] }

abbrev by_id : Join
by_id = record { first = 0; more = record { table = 1; left = col 0 0; right = col 1 0 } ∷ [] }

abbrev insert_into : ℕ → Stmt
insert_into t = Insert (alone t) (record { column = col t 0; value = scalar.Param 0 } ∷ (record { column = col t 1; value = scalar.Param 1 } ∷ []))

abbrev x_is : ℕ → Cmp
x_is n = record { op = op.Eq; left = item.Col (col 0 1); right = item.Scalar (scalar.Int (pos n)) }

abbrev getting : ℕ → List (List Cmp) → Body
getting t cases = body.Query (record { columns = col t 1 ∷ []; join = alone t; cond = record { cases = cases } })

abbrev function : Body → Function
function b = record { name = []; params = []; body = b }

abbrev two_tables : Program
two_tables = record {
  functions =
      function (body.Update (insert_into 0 ∷ []))
      ∷ (function (body.Update (insert_into 1 ∷ []))
      ∷ (function (body.Update (Delete (0 ∷ (1 ∷ [])) by_id (record { cases = (record { op = op.Eq; left = item.Col (col 0 0); right = item.Scalar (scalar.Param 0) } ∷ []) ∷ [] }) ∷ []))
      ∷ (function (getting 0 ([] ∷ []))
      ∷ (function (getting 1 ([] ∷ []))
      ∷ (function (getting 0 ((x_is 5 ∷ []) ∷ ((x_is 5 ∷ []) ∷ ((x_is 7 ∷ []) ∷ []))))
      ∷ (function (getting 0 []) ∷ []))))));
}

abbrev nums : ℕ → ℕ → List Value
nums a b = int a ∷ (int b ∷ [])

-- both listed tables are tested on the state before the delete: B loses its rows though A has lost its own
abbrev pub BothTablesRun : Type 0
BothTablesRun = replies (run ab two_tables (empty_state ab) (call 0 (nums 1 5) ∷ (call 1 (nums 1 6) ∷ (call 1 (nums 1 7) ∷ (call 1 (nums 2 8) ∷ (call 2 (int 1 ∷ []) ∷ (call 3 [] ∷ (call 4 [] ∷ []))))))) []) ≡ None ∷ (None ∷ (None ∷ (None ∷ (None ∷ (Some [] ∷ (Some ((int 8 ∷ []) ∷ []) ∷ []))))))

-- two rows alike are two rows; a row that meets two cases stands once; no case is no row
abbrev pub CasesRun : Type 0
CasesRun = replies (run ab two_tables (empty_state ab) (call 0 (nums 1 5) ∷ (call 0 (nums 1 5) ∷ (call 0 (nums 2 6) ∷ (call 0 (nums 3 7) ∷ (call 5 [] ∷ (call 6 [] ∷ [])))))) []) ≡ None ∷ (None ∷ (None ∷ (None ∷ (Some ((int 5 ∷ []) ∷ ((int 5 ∷ []) ∷ ((int 7 ∷ []) ∷ []))) ∷ (Some [] ∷ [])))))

-- the first table is the slowest
abbrev pub ProductOrder : Type 0
ProductOrder = join_rows (record { tables = (pair 0 1 1 ∷ (pair 1 2 1 ∷ [])) ∷ ((pair 2 1 1 ∷ (pair 3 2 1 ∷ [])) ∷ []); next = 4 }) (record { first = 0; more = record { table = 1; left = col 0 1; right = col 1 1 } ∷ [] }) ≡ (pair 0 1 1 ∷ (pair 2 1 1 ∷ [])) ∷ ((pair 0 1 1 ∷ (pair 3 2 1 ∷ [])) ∷ ((pair 1 2 1 ∷ (pair 2 1 1 ∷ [])) ∷ ((pair 1 2 1 ∷ (pair 3 2 1 ∷ [])) ∷ [])))
