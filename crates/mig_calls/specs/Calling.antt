-- What a call asks for and what it answers.
use Rattle.std.specs.Prelude.{◌≤◌, List, length}
use Rattle.mig_schema.specs.declared.programs.Scalar.{Scalar}
use Rattle.mig_schema.specs.declared.programs.Scalar.TheVariants as scalar
use Rattle.mig_schema.specs.declared.programs.Body.{Body}
use Rattle.mig_schema.specs.declared.programs.Body.TheVariants as body
use Rattle.mig_schema.specs.declared.programs.Function.{Function}
use Rattle.mig_schema.specs.declared.values.Value.{Value}
use Rattle.mig_schema.specs.Typed.{Piece, pieces_of, scalars_of}
use Rattle.mig_meaning.specs.declared.calling.Args.{Args}
use Rattle.mig_meaning.specs.declared.calling.Keys.{Keys}
use Rattle.mig_meaning.specs.declared.calling.Reply.{Reply}
use Rattle.mig_meaning.specs.declared.calling.Reply.TheVariants.{Done, Rows}
use Rattle.mig_meaning.specs.Conditions.{Given}
use Rattle.mig_meaning.specs.Lists.{Each}
use Rattle.mig_storage.specs.Layout.{IsShort}

-- what a call with these arguments and keys is given
abbrev pub given_by : Args → Keys → Given
given_by args keys = record { args = args.values; keys = keys.keys }

-- a literal text has at most 65,535 bytes
abbrev pub IsShortScalar : Scalar → Type 0
IsShortScalar (scalar.Param p) = Unit {0}
IsShortScalar (scalar.Int i) = Unit {0}
IsShortScalar (scalar.Text t) = length t ≤ 65535
IsShortScalar (scalar.Fresh n) = Unit {0}

-- the texts of the arguments, and those that the function names, have at most 65,535 bytes
pub record HasShortTexts (f : Function) (args : List Value) : Type 0 where
  pub arguments : Each IsShort args
  pub literals : Each (λ (p : Piece). Each IsShortScalar (scalars_of p)) (pieces_of f.body)

-- an update answers that it is done, a query answers rows
abbrev pub IsReplyOf : Body → Reply → Type 0
IsReplyOf (body.Update stmts) Done = Unit {0}
IsReplyOf (body.Update stmts) (Rows a) = ⊥
IsReplyOf (body.Query q) Done = ⊥
IsReplyOf (body.Query q) (Rows a) = Unit {0}
