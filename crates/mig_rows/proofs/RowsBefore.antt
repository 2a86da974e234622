-- Variables that range over a table before the call.
use Rattle.std.proofs.Common.{◌≡◌, ℕ, ◌<◌, true, ◌&&◌, List, Option, Some, None, length, refl, sym, ap, ap₂, ◌∙◌}
use Rattle.std.specs.Prelude.{◌==◌, slice_get}
use Rattle.std.proofs.lemmas.Bool.{and_parts, eqb-true}
use Rattle.mig_schema.specs.declared.faults.Side.{Side}
use Rattle.mig_schema.specs.declared.faults.Side.TheVariants.{Old, New}
use Rattle.mig_schema.specs.declared.tables.ColId.{ColId}
use Rattle.mig_algebra.specs.declared.atoms.Var.{Var}
use Rattle.mig_algebra.specs.Proper.{same_side}
use Rattle.mig_steps.proofs.Options.{get-within}
use Rattle.mig_rows.specs.Ranging.{ranges_over, is_row, are_rows, is_start}

pub one-side : (a b : Side) → same_side a b ≡ true → a ≡ b
one-side Old Old h = refl
one-side New New h = refl
one-side Old New h = cc
one-side New Old h = cc

-- what a variable ranges over
pub ranges : (side : Side) (t : ℕ) (v : Var) → ranges_over side t v ≡ true → (v.side ≡ side) × (v.table ≡ t) × (v.stage ≡ 0)
ranges side t v h =
    let k = and_parts (same_side v.side side) (v.table == t && v.stage == 0) h in
    let l = and_parts (v.table == t) (v.stage == 0) k.1 in
    (one-side v.side side k.0, eqb-true v.table t l.0, eqb-true v.stage 0 l.1)

-- two variables over one table are equal
pub one-var : (side : Side) (t : ℕ) (v w : Var) → ranges_over side t v ≡ true → ranges_over side t w ≡ true → w ≡ v
one-var side t v w h k =
    let a = ranges side t v h in
    let b = ranges side t w k in
    ap₂ (λ (x : Side) (y : ℕ). record { side = x; table = y; stage = w.stage }) (b.0 ∙ sym a.0) (b.1 ∙ sym a.1)
    ∙ ap (λ (z : ℕ). record { side = v.side; table = v.table; stage = z }) (b.2 ∙ sym a.2)

-- such a variable is there
pub row-found : (side : Side) (t : ℕ) (o : Option Var) → is_row side t o ≡ true → (v : Var) × (o ≡ Some v) × (ranges_over side t v ≡ true)
row-found side t None h = cc
row-found side t (Some v) h = (v, refl, h)

pub row-within : (side : Side) (t : ℕ) (vars : List Var) (i : ℕ) → is_row side t (slice_get vars i) ≡ true → i < length vars
row-within side t vars i h = let r = row-found side t (slice_get vars i) h in get-within vars i r.0 r.1

-- and of rows from before the call
pub row-start : (side : Side) (t : ℕ) (o : Option Var) → is_row side t o ≡ true → is_start o ≡ true
row-start side t None h = cc
row-start side t (Some v) h = (and_parts (v.table == t) (v.stage == 0) (and_parts (same_side v.side side) (v.table == t && v.stage == 0) h).1).1

-- both of two variables
pub rows-parts : (side : Side) (c d : ColId) (x y : ℕ) (vars : List Var) → are_rows side c d x y vars ≡ true → (is_row side c.table (slice_get vars x) ≡ true) × (is_row side d.table (slice_get vars y) ≡ true)
rows-parts side c d x y vars h = and_parts (is_row side c.table (slice_get vars x)) (is_row side d.table (slice_get vars y)) h
