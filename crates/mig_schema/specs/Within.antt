-- The limits of the grammar, said of functions with their numbers.
use Rattle.std.specs.Prelude.{◌≤◌, ◌<◌, ◌^◌, ℤ, pos, negsuc, length}
use Rattle.std.specs.List.{AllByRecursion}
use Rattle.mig_schema.specs.declared.programs.Function.{Function}
use Rattle.mig_schema.specs.declared.programs.Program.{Program}
use Rattle.mig_schema.specs.declared.programs.Scalar.{Scalar}
use Rattle.mig_schema.specs.declared.programs.Scalar.TheVariants as scalar
use Rattle.mig_schema.specs.Joins.{tables_of}
use Rattle.mig_schema.specs.Typed.{Piece, pieces_of, scalars_of}

-- an int is in the range of i64
abbrev pub FitsInt : ℤ → Type 0
FitsInt (pos n) = n < 2 ^ 63
FitsInt (negsuc n) = n < 2 ^ 63

-- a text has at most 1024 bytes, and the label of a fresh key is at most 15
abbrev pub FitsScalar : Scalar → Type 0
FitsScalar (scalar.Param p) = Unit {0}
FitsScalar (scalar.Int i) = FitsInt i
FitsScalar (scalar.Text t) = length t ≤ 1024
FitsScalar (scalar.Fresh n) = n ≤ 15

-- a join has at most 4 tables, a query selects at most 16 columns, and a condition has at most 16 comparisons
pub record IsPieceWithin (p : Piece) : Type 0 where
  pub joined : length (tables_of p.join) ≤ 4
  pub selected : length p.selected ≤ 16
  pub compared : length p.compared ≤ 16
  pub scalars : AllByRecursion FitsScalar (scalars_of p)

-- a function has at most 8 parameters, and an update at most 4 statements
pub record IsWithin (f : Function) : Type 0 where
  pub params : length f.params ≤ 8
  pub statements : length (pieces_of f.body) ≤ 4
  pub pieces : AllByRecursion IsPieceWithin (pieces_of f.body)

-- a program has at most 32 functions
pub record IsProgramWithin (p : Program) : Type 0 where
  pub functions : length p.functions ≤ 32
  pub each : AllByRecursion IsWithin p.functions
