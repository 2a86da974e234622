-- Programs that the grammar can say, so that what is printed of them is read as the same program.
use Rattle.std.specs.Prelude.{◌≡◌, ◌⊎◌, ℕ, ◌≤◌, ◌<◌, ◌^◌, true, false, List, [], ◌∷◌, length}
use Rattle.std.specs.List.{AllByRecursion}
use Rattle.std.specs.Str.{is_utf8}
use Rattle.mig_schema.specs.declared.programs.Assign.{Assign}
use Rattle.mig_schema.specs.declared.programs.Body.{Body}
use Rattle.mig_schema.specs.declared.programs.Body.TheVariants as body
use Rattle.mig_schema.specs.declared.programs.Cmp.{Cmp}
use Rattle.mig_schema.specs.declared.programs.Function.{Function}
use Rattle.mig_schema.specs.declared.programs.Item.{Item}
use Rattle.mig_schema.specs.declared.programs.Item.TheVariants as item
use Rattle.mig_schema.specs.declared.programs.Param.{Param}
use Rattle.mig_schema.specs.declared.programs.Program.{Program}
use Rattle.mig_schema.specs.declared.programs.Scalar.{Scalar}
use Rattle.mig_schema.specs.declared.programs.Scalar.TheVariants as scalar
use Rattle.mig_schema.specs.declared.programs.Stmt.{Stmt}
use Rattle.mig_schema.specs.declared.programs.Stmt.TheVariants.{Insert, Delete, Set}
use Rattle.mig_schema.specs.declared.tables.Column.{Column}
use Rattle.mig_schema.specs.declared.tables.ColId.{ColId}
use Rattle.mig_schema.specs.declared.tables.Schema.{Schema}
use Rattle.mig_schema.specs.declared.tables.Table.{Table}
use Rattle.mig_schema.specs.Typed.{IsTypedSchema, IsTypedProgram}
use Rattle.mig_tokens.specs.Bytes.{is_letter, is_name_byte, first_is}
use Rattle.mig_tokens.specs.Forms.{AllOfSome}
use Rattle.mig_tokens.specs.Words.{is_reserved}
use Rattle.mig_grammar.specs.Shapes.{is_param_kind}
use Rattle.mig_schema.specs.Within.{IsProgramWithin}

-- a letter or an underscore, and then letters, digits and underscores; at most 32 bytes, and not reserved
pub record IsNameText (w : List ℕ) : Type 0 where
  pub begins : first_is is_letter w ≡ true
  pub each : AllByRecursion (λ (b : ℕ). is_name_byte b ≡ true) w
  pub short : length w ≤ 32
  pub free : is_reserved w ≡ false

-- ---- schemas

-- its names are names, and it has fewer than 2^32 columns
pub record IsNamedTable (t : Table) : Type 0 where
  pub name : IsNameText t.name
  pub columns : AllByRecursion (λ (c : Column). IsNameText c.name) t.columns
  pub few : length t.columns < 2 ^ 32

-- its names are names, and it has fewer than 2^32 tables
pub record IsNamedSchema (s : Schema) : Type 0 where
  pub tables : AllByRecursion IsNamedTable s.tables
  pub few : length s.tables < 2 ^ 32

-- ---- scalars and conditions

-- a text is UTF-8; a fresh key is no scalar of the grammar
abbrev pub IsSpelledScalar : Scalar → Type 0
IsSpelledScalar (scalar.Param p) = Unit {0}
IsSpelledScalar (scalar.Int i) = Unit {0}
IsSpelledScalar (scalar.Text t) = is_utf8 t ≡ true
IsSpelledScalar (scalar.Fresh n) = ⊥

-- a value may be a fresh key
abbrev pub IsSpelledValue : Scalar → Type 0
IsSpelledValue (scalar.Fresh n) = Unit {0}
IsSpelledValue (scalar.Param p) = Unit {0}
IsSpelledValue (scalar.Int i) = Unit {0}
IsSpelledValue (scalar.Text t) = is_utf8 t ≡ true

abbrev pub IsSpelledItem : Item → Type 0
IsSpelledItem (item.Col c) = Unit {0}
IsSpelledItem (item.Scalar x) = IsSpelledScalar x

abbrev pub IsSpelledCmp : Cmp → Type 0
IsSpelledCmp c = IsSpelledItem c.left × IsSpelledItem c.right

-- one empty case, or cases with comparisons
abbrev pub AreSpelledCases : List (List Cmp) → Type 0
AreSpelledCases cases = (cases ≡ [] ∷ []) ⊎ AllOfSome (AllOfSome IsSpelledCmp) cases

-- ---- functions

-- an insert has a value, and a delete a table
abbrev pub IsSpelledStmt : Stmt → Type 0
IsSpelledStmt (Insert join values) = AllOfSome (λ (a : Assign). IsSpelledValue a.value) values
IsSpelledStmt (Delete tables join cond) = AllOfSome (λ (t : ℕ). Unit {0}) tables × AreSpelledCases cond.cases
IsSpelledStmt (Set column x join cond) = IsSpelledScalar x × AreSpelledCases cond.cases

-- an update has a statement, and a query a column
abbrev pub IsSpelledBody : Body → Type 0
IsSpelledBody (body.Update stmts) = AllOfSome IsSpelledStmt stmts
IsSpelledBody (body.Query q) = AllOfSome (λ (c : ColId). Unit {0}) q.columns × AreSpelledCases q.cond.cases

-- its name and those of its parameters are names, and no parameter is of kind key
pub record IsSpelledFunction (f : Function) : Type 0 where
  pub name : IsNameText f.name
  pub params : AllByRecursion (λ (p : Param). IsNameText p.name × (is_param_kind p.kind ≡ true)) f.params
  pub body : IsSpelledBody f.body

-- the grammar says this program over the schema: it is typed, within the limits, and has the grammar's shapes and names
pub record IsPrintable (s : Schema) (p : Program) : Type 0 where
  pub names : IsNamedSchema s
  pub schema : IsTypedSchema s
  pub typed : IsTypedProgram s p
  pub within : IsProgramWithin p
  pub functions : AllByRecursion IsSpelledFunction p.functions
