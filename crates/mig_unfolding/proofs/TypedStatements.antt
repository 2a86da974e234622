-- The statements of a fit pair's functions are typed, and write columns that are there.
use Rattle.std.proofs.Common.{◌≡◌, ◌≢◌, ℕ, zero, suc, ◌-◌, true, false, cond, List, [], ◌∷◌, ◌++◌, map, Some, None, refl, sym, ap, ◌∙◌, inl, inr, ◌⊎◌, subst}
use Rattle.std.specs.Prelude.{◌==◌, slice_get}
use Rattle.std.specs.List.{list_all, AllByRecursion}
use Rattle.std.proofs.lemmas.Bool.{cases_Bool, and_parts, eqb-false}
use Rattle.mig_schema.specs.declared.tables.Schema.{Schema}
use Rattle.mig_schema.specs.declared.faults.Side.{Side}
use Rattle.mig_schema.specs.declared.faults.Side.TheVariants.{Old, New}
use Rattle.mig_schema.specs.declared.programs.Assign.{Assign}
use Rattle.mig_schema.specs.declared.programs.Stmt.{Stmt}
use Rattle.mig_schema.specs.declared.programs.Body.{Body}
use Rattle.mig_schema.specs.declared.programs.Body.TheVariants as body
use Rattle.mig_schema.specs.declared.programs.Function.{Function}
use Rattle.mig_schema.specs.Columns.{has_column}
use Rattle.mig_schema.specs.Typed.{Piece, piece_of, pieces_of, scalars_of, used_columns, named_columns, unknown_column, IsTypedPiece}
use Rattle.mig_meaning.specs.declared.relating.Invariant.{Invariant}
use Rattle.mig_meaning.specs.Lists.{Each}
use Rattle.mig_meaning.specs.States.{label_fits}
use Rattle.mig_algebra.specs.declared.atoms.Var.{Var}
use Rattle.mig_algebra.specs.Proper.{Sides}
use Rattle.mig_algebra.proofs.Lists.{each-left, each-right}
use Rattle.mig_algebra.proofs.Ranges.{none-fails, each-image}
use Rattle.mig_obligations.specs.Fitting.{IsFit}
use Rattle.mig_obligations.specs.Settings.{statements}
use Rattle.mig_unfolding.specs.Stages.{statements_at, last_statement}
use Rattle.mig_unfolding.proofs.ProperHosts.{TypedFor}

-- what holds of each image holds of an item's
typed-get : {X Y : Type 0} (P : Y → Type 0) (f : X → Y) (xs : List X) (i : ℕ) (x : X) → AllByRecursion P (map f xs) → slice_get xs i ≡ Some x → P (f x)
typed-get P f [] i x a h = cc
typed-get P f (y ∷ ys) zero x a h = let e : y ≡ x = cc in subst (λ z. P (f z)) e a.0
typed-get P f (y ∷ ys) (suc i) x a h = typed-get P f ys i x a.1 h

-- the assignments of a typed piece are to columns in range
pub written-in-range : (s : Schema) (p : Piece) → unknown_column s p ≡ false → Each (λ (a : Assign). has_column s a.column ≡ true) p.written
written-in-range s p h =
    each-image (λ c. has_column s c ≡ true) (λ (a : Assign). a.column) p.written
    (each-right (λ c. has_column s c ≡ true) p.selected (map (λ (a : Assign). a.column) p.written)
    (each-left (λ c. has_column s c ≡ true) (p.selected ++ map (λ (a : Assign). a.column) p.written) _
    (each-right (λ c. has_column s c ≡ true) _ (used_columns p) (none-fails (has_column s) (named_columns p) h))))

-- a statement of a typed body is typed
typed-statement : (s : Schema) (f : Function) (b : Body) (i : ℕ) (stmt : Stmt) → AllByRecursion (IsTypedPiece s f) (pieces_of b) → slice_get (statements b) i ≡ Some stmt → IsTypedPiece s f (piece_of stmt)
typed-statement s f (body.Update stmts) i stmt a h = typed-get (IsTypedPiece s f) piece_of stmts i stmt a h
typed-statement s f (body.Query q) i stmt a h = cc

-- its labels are a call's
labelled : (b : Body) (i : ℕ) (stmt : Stmt) → list_all (λ (q : Piece). list_all label_fits (scalars_of q)) (pieces_of b) ≡ true → slice_get (statements b) i ≡ Some stmt → list_all label_fits (scalars_of (piece_of stmt)) ≡ true
labelled (body.Update stmts) i stmt a h = images stmts i stmt a h
  where
    images : (xs : List Stmt) (j : ℕ) (y : Stmt) → list_all (λ (q : Piece). list_all label_fits (scalars_of q)) (map piece_of xs) ≡ true → slice_get xs j ≡ Some y → list_all label_fits (scalars_of (piece_of y)) ≡ true
    images [] j y k g = cc
    images (x ∷ xs) zero y k g = let e : x ≡ y = cc in ap (λ z. list_all label_fits (scalars_of (piece_of z))) (sym e) ∙ (and_parts (list_all label_fits (scalars_of (piece_of x))) (list_all (λ (q : Piece). list_all label_fits (scalars_of q)) (map piece_of xs)) k).0
    images (x ∷ xs) (suc j) y k g = images xs j y (and_parts (list_all label_fits (scalars_of (piece_of x))) (list_all (λ (q : Piece). list_all label_fits (scalars_of q)) (map piece_of xs)) k).1 g
labelled (body.Query q) i stmt a h = cc

-- a statement of a side's function
pub typed-for : (p : Sides) (invs : List Invariant) → IsFit p invs → (side : Side) (j : ℕ) (stmt : Stmt) → slice_get (statements_at p side) j ≡ Some stmt → (f : Function) × TypedFor p f side stmt
typed-for p invs fit Old j stmt h = (
  p.source_fn,
  record {
    source = refl;
    target = fit.same.params;
    typed = typed-statement p.source p.source_fn p.source_fn.body j stmt fit.source.pieces h;
    labels = labelled p.source_fn.body j stmt fit.source_labels h;
  },
)
typed-for p invs fit New j stmt h = (
  p.target_fn,
  record {
    source = sym fit.same.params;
    target = refl;
    typed = typed-statement p.target p.target_fn p.target_fn.body j stmt fit.target.pieces h;
    labels = labelled p.target_fn.body j stmt fit.target_labels h;
  },
)

-- the statement that leads to a variable's stage is one of its side's function
pub last-get : (p : Sides) (u : Var) (stmt : Stmt) → last_statement p u ≡ Some stmt → (u.stage ≢ 0) × (slice_get (statements_at p u.side) (u.stage - 1) ≡ Some stmt)
last-get p u stmt h = go (cases_Bool (u.stage == 0))
  where
    go : ((u.stage == 0) ≡ true) ⊎ ((u.stage == 0) ≡ false) → (u.stage ≢ 0) × (slice_get (statements_at p u.side) (u.stage - 1) ≡ Some stmt)
    go (inl e) = let bad : None ≡ Some stmt = sym (ap (λ b. cond b None (slice_get (statements_at p u.side) (u.stage - 1))) e) ∙ h in cc
    go (inr e) = (eqb-false u.stage 0 e, sym (ap (λ b. cond b None (slice_get (statements_at p u.side) (u.stage - 1))) e) ∙ h)
