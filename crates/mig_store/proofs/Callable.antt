-- A program within the limits of the language may be called.
use Rattle.std.proofs.Common.{◌≡◌, ◌*◌, ◌≤◌, Bool, true, List, [], ◌∷◌, map, length, refl, arith}
use Rattle.std.specs.List.{AllByRecursion, list_all}
use Rattle.std.proofs.lemmas.Bool.{and_from, lt-ltb}
use Rattle.std.proofs.lemmas.List.{length-map}
use Rattle.mig_schema.specs.declared.programs.Body.{Body}
use Rattle.mig_schema.specs.declared.programs.Body.TheVariants as body
use Rattle.mig_schema.specs.declared.programs.Function.{Function}
use Rattle.mig_schema.specs.declared.programs.Program.{Program}
use Rattle.mig_schema.specs.declared.programs.Scalar.{Scalar}
use Rattle.mig_schema.specs.declared.programs.Scalar.TheVariants as scalar
use Rattle.mig_schema.specs.declared.programs.Stmt.{Stmt}
use Rattle.mig_schema.specs.declared.programs.Stmt.TheVariants.{Insert, Delete, Set}
use Rattle.mig_schema.specs.Typed.{Piece, piece_of, pieces_of, scalars_of}
use Rattle.mig_schema.specs.Within.{FitsScalar, IsPieceWithin, IsProgramWithin, IsWithin}
use Rattle.mig_meaning.specs.Lists.{Each, total}
use Rattle.mig_meaning.specs.States.{label_fits}
use Rattle.mig_calls.specs.Calling.{IsShortScalar}
use Rattle.mig_calls.specs.Rows.{rows_added, rows_added_by}
use Rattle.mig_store.specs.Runs.{IsCallable}

pub each-weakly : {X : Type 0} (P Q : X → Type 0) → ((x : X) → P x → Q x) → (xs : List X) → AllByRecursion P xs → Each Q xs
each-weakly P Q one [] h = tt
each-weakly P Q one (x ∷ xs) h = (one x h.0, each-weakly P Q one xs h.1)

all-tested : {X : Type 0} (P : X → Type 0) (test : X → Bool) → ((x : X) → P x → test x ≡ true) → (xs : List X) → AllByRecursion P xs → list_all test xs ≡ true
all-tested P test one [] h = refl
all-tested P test one (x ∷ xs) h = and_from (test x) (list_all test xs) (one x h.0) (all-tested P test one xs h.1)

label-fits : (x : Scalar) → FitsScalar x → label_fits x ≡ true
label-fits (scalar.Param p) h = refl
label-fits (scalar.Int i) h = refl
label-fits (scalar.Text t) h = refl
label-fits (scalar.Fresh n) h = lt-ltb n 16 (omega (arith, h))

short-scalar : (x : Scalar) → FitsScalar x → IsShortScalar x
short-scalar (scalar.Param p) h = tt
short-scalar (scalar.Int i) h = tt
short-scalar (scalar.Text t) h = omega (arith, h)
short-scalar (scalar.Fresh n) h = tt

-- ---- rows
few-of : (t : Stmt) → IsPieceWithin (piece_of t) → rows_added t ≤ 4
few-of (Insert join values) h = h.joined
few-of (Delete listed join test) h = omega arith
few-of (Set column x join test) h = omega arith

few-of-all : (ts : List Stmt) → AllByRecursion IsPieceWithin (map piece_of ts) → total rows_added ts ≤ 4 * length ts
few-of-all [] h = omega arith
few-of-all (t ∷ ts) h =
    let one = few-of t h.0 in
    let more = few-of-all ts h.1 in
    omega (arith, one, more)

few-added : (b : Body) → length (pieces_of b) ≤ 4 → AllByRecursion IsPieceWithin (pieces_of b) → rows_added_by b ≤ 17
few-added (body.Update stmts) few h =
    let count : length (map piece_of stmts) ≡ length stmts = length-map stmts piece_of in
    let all = few-of-all stmts h in
    omega (arith, count, few, all)
few-added (body.Query q) few h = omega arith

callable-function : (f : Function) → IsWithin f → IsCallable f
callable-function f h = record {
  labels = all-tested IsPieceWithin (λ p. list_all label_fits (scalars_of p)) (λ p w. all-tested FitsScalar label_fits label-fits (scalars_of p) w.scalars) (pieces_of f.body) h.pieces;
  rows = few-added f.body h.statements h.pieces;
  literals = each-weakly IsPieceWithin (λ (p : Piece). Each IsShortScalar (scalars_of p)) (λ p w. each-weakly FitsScalar IsShortScalar short-scalar (scalars_of p) w.scalars) (pieces_of f.body) h.pieces;
}

pub callable : (p : Program) → IsProgramWithin p → Each IsCallable p.functions
callable p h = each-weakly IsWithin IsCallable callable-function p.functions h.each
