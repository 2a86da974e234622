-- A list that contradicts itself, or that an invariant refutes, is true at no choice of rows.
use Rattle.std.proofs.Common.{◌≡◌, ℕ, true, false, not, ◌&&◌, ◌||◌, List, [], ◌∷◌, length, refl, sym, ap, ap₂, ◌∙◌, ⊎_elim}
use Rattle.std.specs.Prelude.{◌==◌, slice_get}
use Rattle.std.specs.List.{list_all, list_any}
use Rattle.std.proofs.lemmas.Bool.{and_parts, or_cases, both_ways, eq-eqb}
use Rattle.mig_schema.specs.declared.faults.Side.{Side}
use Rattle.mig_schema.specs.declared.tables.ColId.{ColId}
use Rattle.mig_meaning.specs.declared.relating.Invariant.{Invariant}
use Rattle.mig_meaning.specs.declared.relating.Invariant.TheVariants.{Views, Unique, Apart, Within}
use Rattle.mig_meaning.specs.Holds.{IsUnique, IsApart, state_of, Holds}
use Rattle.mig_meaning.specs.Lists.{In}
use Rattle.mig_meaning.specs.Renaming.{same}
use Rattle.mig_meaning.specs.Rows.{rows_of, value_at}
use Rattle.mig_meaning.specs.Values.{value_eq}
use Rattle.mig_meaning.proofs.Bags.{value_eq-refl}
use Rattle.mig_algebra.specs.declared.atoms.Var.{Var}
use Rattle.mig_algebra.specs.declared.atoms.Atom.TheVariants.{Col}
use Rattle.mig_algebra.specs.declared.literals.Lit.{Lit, Cmp, Other, Any'}
use Rattle.mig_algebra.specs.Meaning.{Env, row_at, choices, lits_true}
use Rattle.mig_algebra.specs.Proper.{Sides}
use Rattle.mig_algebra.proofs.Members.{any-in}
use Rattle.mig_classes.specs.Classes.{one_class}
use Rattle.mig_classes.specs.Given.{contradictory}
use Rattle.mig_classes.specs.Keys.{labels_within}
use Rattle.mig_classes.proofs.Classed.{one_class-value}
use Rattle.mig_classes.proofs.Contradicted.{contradictory-false, true-in}
use Rattle.mig_listing.specs.Choices.{numbers}
use Rattle.mig_obligations.specs.Settings.{Moment, setting_of, IsMoment}
use Rattle.mig_steps.proofs.Moments.{keys-fresh}
use Rattle.mig_rows.specs.Never.{joins, joins_some, parts_joined, refutes, is_never}
use Rattle.mig_rows.specs.Ranging.{is_row, are_rows}
use Rattle.mig_rows.proofs.Held.{row-held, member-held}
use Rattle.mig_rows.proofs.RowsBefore.{rows-parts}

-- a variable that does not range over the table of the first column is joined with none
pub none-joined : (side : Side) (c d : ColId) (scope : List Var) (lits : List Lit) (x : ℕ) (ys : List ℕ) → is_row side c.table (slice_get scope x) ≡ false → list_any (joins side c d scope lits x) ys ≡ false
none-joined side c d scope lits x [] h = refl
none-joined side c d scope lits x (y ∷ ys) h =
    ap₂ (λ a b. a || b) (ap (λ a. (a && is_row side d.table (slice_get scope y)) && one_class lits (Col x c.column) (Col y d.column)) h) (none-joined side c d scope lits x ys h)

module _ (p : Sides) (invs : List Invariant) (m : Moment) (at : IsMoment p invs m) (scope : List Var) (e : Env) (choice : In e (choices (setting_of p m) scope)) (lits : List Lit) (truth : lits_true (setting_of p m) e lits ≡ true) where
  -- variables that are joined have rows of the two tables with equal values
  joined : (side : Side) (c d : ColId) (x y : ℕ) → joins side c d scope lits x y ≡ true → In (row_at e x) (rows_of (state_of side m.old m.new) c.table) × In (row_at e y) (rows_of (state_of side m.old m.new) d.table) × (value_eq (value_at (row_at e x) c.column) (value_at (row_at e y) d.column) ≡ true)
  joined side c d x y h =
      let a = and_parts (are_rows side c d x y scope) (one_class lits (Col x c.column) (Col y d.column)) h in
      let r = rows-parts side c d x y scope a.0 in (
        row-held p invs m at side c.table scope e x choice r.0,
        row-held p invs m at side d.table scope e y choice r.1,
        ap (λ v. value_eq v (value_at (row_at e y) d.column)) (one_class-value (setting_of p m) e lits (Col x c.column) (Col y d.column) truth a.1) ∙ value_eq-refl (value_at (row_at e y) d.column),
      )

  -- columns that are apart have no equal values
  apart-not : (side : Side) (c d : ColId) → IsApart (state_of side m.old m.new) c d → joins_some side c d scope lits ≡ true → ⊥
  apart-not side c d apart h =
      let x = any-in (λ x. list_any (joins side c d scope lits x) (numbers (length scope))) (numbers (length scope)) h in
      let y = any-in (joins side c d scope lits x.0) (numbers (length scope)) x.2 in
      let j = joined side c d x.0 y.0 y.2 in
      both_ways (value_eq (value_at (row_at e x.0) c.column) (value_at (row_at e y.0) d.column)) (apart (row_at e x.0) (row_at e y.0) j.0 j.1) j.2

  -- rows that differ have not one value in a unique column
  parted-not : (side : Side) (c : ColId) → IsUnique (state_of side m.old m.new) c → (l : Lit) → In l lits → parts_joined side c scope lits l ≡ true → ⊥
  parted-not side c unique (Cmp op a b) i h = cc
  parted-not side c unique (Any' held vars n row) i h = cc
  parted-not side c unique (Other x y) i h =
      let j = joined side c c x y h in
      let one : (row_at e x).id ≡ (row_at e y).id = unique (row_at e x) (row_at e y) j.0 j.1 j.2 in
      let said : not ((row_at e x).id == (row_at e y).id) ≡ true = true-in (setting_of p m) e (Other x y) lits truth i in
      let bad : false ≡ true = ap not (sym (eq-eqb (row_at e x).id (row_at e y).id one)) ∙ said in
      cc

  refuted : (i : Invariant) → Holds same m.old m.new i → refutes scope lits i ≡ true → ⊥
  refuted (Views source target) holds h = cc
  refuted (Within side c d) holds h = cc
  refuted (Apart side c d) holds h = apart-not side c d holds h
  refuted (Unique side c) holds h = let k = any-in (parts_joined side c scope lits) lits h in parted-not side c holds k.0 k.1 k.2

  pub never-true : list_all (labels_within (length (setting_of p m).given.keys)) lits ≡ true → is_never invs scope lits ≡ true → ⊥
  never-true labels h =
      ⊎_elim (λ k. both_ways (lits_true (setting_of p m) e lits) (contradictory-false (setting_of p m) scope e lits (keys-fresh p invs m at) choice labels k) truth)
      (λ k. let i = any-in (refutes scope lits) invs k in refuted i.0 (member-held p invs m at i.0 i.1) i.2)
      (or_cases (contradictory scope lits) (list_any (refutes scope lits) invs) h)
