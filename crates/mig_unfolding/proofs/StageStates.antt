-- Each stage of a moment is a state: the first statements of a typed function are those of a typed function.
use Rattle.std.proofs.Common.{◌≡◌, ℕ, zero, suc, true, List, [], ◌∷◌, map, take, refl, subst}
use Rattle.std.specs.List.{list_all, AllByRecursion}
use Rattle.std.proofs.lemmas.Bool.{and_parts, and_from}
use Rattle.mig_schema.specs.declared.faults.Side.{Side}
use Rattle.mig_schema.specs.declared.faults.Side.TheVariants.{Old, New}
use Rattle.mig_schema.specs.declared.tables.Schema.{Schema}
use Rattle.mig_schema.specs.declared.programs.Stmt.{Stmt}
use Rattle.mig_schema.specs.declared.programs.Body.{Body}
use Rattle.mig_schema.specs.declared.programs.Body.TheVariants as body
use Rattle.mig_schema.specs.declared.programs.Function.{Function}
use Rattle.mig_schema.specs.Typed.{Piece, piece_of, pieces_of, scalars_of, IsTypedPiece, IsTypedFunction}
use Rattle.mig_meaning.specs.declared.states.State.{State}
use Rattle.mig_meaning.specs.declared.relating.Invariant.{Invariant}
use Rattle.mig_meaning.specs.Conditions.{Given}
use Rattle.mig_meaning.specs.Calls.{IsGivenTo, fit}
use Rattle.mig_meaning.specs.Effect.{after_all}
use Rattle.mig_meaning.specs.States.{label_fits, labels_fit, IsState}
use Rattle.mig_meaning.proofs.TypedWrites.{state-law}
use Rattle.mig_algebra.specs.Proper.{Sides, schema_of}
use Rattle.mig_obligations.specs.Fitting.{IsFit}
use Rattle.mig_obligations.specs.Settings.{Moment, IsMoment, statements, stage_of}

-- a function with its first statements alone
abbrev first_of : Function → ℕ → Function
first_of f j = record { name = f.name; params = f.params; body = body.Update (take j (statements f.body)) }

module _ (schema : Schema) (f : Function) where
  piece-again : (j : ℕ) (q : Piece) → IsTypedPiece schema f q → IsTypedPiece schema (first_of f j) q
  piece-again j q h = record { tables = h.tables; columns = h.columns; once = h.once; shape = h.shape; params = h.params; joined = h.joined; kinds = h.kinds; orders = h.orders; cover = h.cover }

  typed-take : (n j : ℕ) (stmts : List Stmt) → AllByRecursion (IsTypedPiece schema f) (map piece_of stmts) → AllByRecursion (IsTypedPiece schema (first_of f n)) (map piece_of (take j stmts))
  typed-take n zero stmts h = tt
  typed-take n (suc j) [] h = tt
  typed-take n (suc j) (x ∷ xs) h = (piece-again n (piece_of x) h.0, typed-take n j xs h.1)

  label-take : (j : ℕ) (stmts : List Stmt) → list_all (λ (q : Piece). list_all label_fits (scalars_of q)) (map piece_of stmts) ≡ true → list_all (λ (q : Piece). list_all label_fits (scalars_of q)) (map piece_of (take j stmts)) ≡ true
  label-take zero stmts h = refl
  label-take (suc j) [] h = refl
  label-take (suc j) (x ∷ xs) h =
      let k = and_parts (list_all label_fits (scalars_of (piece_of x))) (list_all (λ (q : Piece). list_all label_fits (scalars_of q)) (map piece_of xs)) h in
      and_from (list_all label_fits (scalars_of (piece_of x))) (list_all (λ (q : Piece). list_all label_fits (scalars_of q)) (map piece_of (take j xs))) k.0 (label-take j xs k.1)

typed-first : (schema : Schema) (f : Function) (j : ℕ) (b : Body) → AllByRecursion (IsTypedPiece schema f) (pieces_of b) → AllByRecursion (IsTypedPiece schema (first_of f j)) (map piece_of (take j (statements b)))
typed-first schema f j (body.Update stmts) h = typed-take schema f j j stmts h
typed-first schema f j (body.Query q) h = typed-take schema f j j [] tt

labels-first : (schema : Schema) (f : Function) (j : ℕ) (b : Body) → list_all (λ (q : Piece). list_all label_fits (scalars_of q)) (pieces_of b) ≡ true → list_all (λ (q : Piece). list_all label_fits (scalars_of q)) (map piece_of (take j (statements b))) ≡ true
labels-first schema f j (body.Update stmts) h = label-take schema f j stmts h
labels-first schema f j (body.Query q) h = label-take schema f j [] refl

-- after the first statements of a typed function
first-state : (schema : Schema) (f : Function) (g : Given) (j : ℕ) (s : State) → IsTypedFunction schema f → labels_fit f ≡ true → IsGivenTo f g → IsState schema s → IsState schema (after_all schema g (take j (statements f.body)) s)
first-state schema f g j s typed labels given st =
    state-law schema (first_of f j) g s (record { params = typed.params; pieces = typed-first schema f j f.body typed.pieces }) (labels-first schema f j f.body labels)
    (record { sixteen = given.sixteen; different = given.different; args = given.args }) st

pub stage-state : (p : Sides) (invs : List Invariant) → IsFit p invs → (m : Moment) → IsMoment p invs m → (side : Side) (j : ℕ) → IsState (schema_of p side) (stage_of p m side j)
stage-state p invs is m at Old j = first-state p.source p.source_fn m.given j m.old is.source is.source_labels at.setting.given at.setting.source
stage-state p invs is m at New j =
    first-state p.target p.target_fn m.given j m.new is.target is.target_labels
    (record { sixteen = at.setting.given.sixteen; different = at.setting.given.different; args = subst (λ ps. fit ps m.given.args ≡ true) is.same.params at.setting.given.args }) at.setting.target
