-- What invariants say of the rows of variables, at each moment of a call.
use Rattle.std.proofs.Common.{◌≡◌, ℕ, zero, suc, true, List, [], ◌∷◌, Some, refl, sym, ap, ap₂, ◌∙◌, subst, inl, inr}
use Rattle.std.specs.Prelude.{slice_get}
use Rattle.mig_schema.specs.declared.faults.Side.{Side}
use Rattle.mig_schema.specs.declared.faults.Side.TheVariants.{Old, New}
use Rattle.mig_schema.specs.declared.tables.ColId.{ColId}
use Rattle.mig_meaning.specs.declared.states.Placed.{Placed}
use Rattle.mig_meaning.specs.declared.states.State.{State}
use Rattle.mig_meaning.specs.declared.relating.Invariant.{Invariant}
use Rattle.mig_meaning.specs.declared.relating.Invariant.TheVariants.{Unique, Apart, Within}
use Rattle.mig_meaning.specs.Holds.{IsUnique, IsApart, IsWithin, state_of, Holds, AllHold}
use Rattle.mig_meaning.specs.Lists.{In}
use Rattle.mig_meaning.specs.Renaming.{same}
use Rattle.mig_meaning.specs.Rows.{rows_of, value_at}
use Rattle.mig_meaning.specs.Values.{value_eq}
use Rattle.mig_meaning.specs.States.{Rising}
use Rattle.mig_algebra.specs.declared.atoms.Var.{Var}
use Rattle.mig_algebra.specs.Meaning.{Env, row_at, choices}
use Rattle.mig_algebra.specs.Proper.{Sides}
use Rattle.mig_classes.proofs.FreshKeys.{choice-row}
use Rattle.mig_obligations.specs.Settings.{Moment, stage_of, setting_of, IsMoment}
use Rattle.mig_rows.specs.Ranging.{ranges_over, is_row}
use Rattle.mig_rows.proofs.Distinct.{Distinct, distinct-rows}
use Rattle.mig_rows.proofs.RowsBefore.{ranges, row-found}

holds-in : (old new : State) (is : List Invariant) (k : ℕ) (i : Invariant) → AllHold same old new is → slice_get is k ≡ Some i → Holds same old new i
holds-in old new [] k i a h = cc
holds-in old new (j ∷ js) zero i a h = let e : j ≡ i = cc in subst (Holds same old new) e a.0
holds-in old new (j ∷ js) (suc k) i a h = holds-in old new js k i a.1 h

holds-member : (old new : State) (is : List Invariant) (i : Invariant) → AllHold same old new is → In i is → Holds same old new i
holds-member old new [] i a h = absurd h
holds-member old new (j ∷ js) i a (inl e) = subst (Holds same old new) (sym e) a.0
holds-member old new (j ∷ js) i a (inr h) = holds-member old new js i a.1 h

module _ (p : Sides) (invs : List Invariant) (m : Moment) (at : IsMoment p invs m) where
  -- a listed invariant holds
  holds-at : (k : ℕ) (i : Invariant) → slice_get invs k ≡ Some i → Holds same m.old m.new i
  holds-at k i h = holds-in m.old m.new invs k i at.facts.hold h

  -- so does one that is known to be among them
  pub member-held : (i : Invariant) → In i invs → Holds same m.old m.new i
  member-held i h = holds-member m.old m.new invs i at.facts.hold h

  -- before the first statement
  stage-zero : (side : Side) → stage_of p m side 0 ≡ state_of side m.old m.new
  stage-zero Old = refl
  stage-zero New = refl

  first-rows : (side : Side) (t : ℕ) (v : Var) → ranges_over side t v ≡ true → (setting_of p m).rows v ≡ rows_of (state_of side m.old m.new) t
  first-rows side t v h =
      let r = ranges side t v h in
      ap (λ j. rows_of (stage_of p m v.side j) v.table) r.2
      ∙ ap (λ st. rows_of st v.table) (stage-zero v.side)
      ∙ ap₂ (λ (d : Side) n. rows_of (state_of d m.old m.new) n) r.0 r.1

  rising : (side : Side) (t : ℕ) → Rising (rows_of (state_of side m.old m.new) t)
  rising Old t = (at.setting.source.each t).rising
  rising New t = (at.setting.target.each t).rising

  -- at each choice the row of such a variable is one of its table
  pub row-held : (side : Side) (t : ℕ) (scope : List Var) (e : Env) (x : ℕ) → In e (choices (setting_of p m) scope) → is_row side t (slice_get scope x) ≡ true → In (row_at e x) (rows_of (state_of side m.old m.new) t)
  row-held side t scope e x i h =
      let r = row-found side t (slice_get scope x) h in
      subst (In (row_at e x)) (first-rows side t r.0 r.2) (choice-row (setting_of p m) scope e x r.0 i r.1)

  -- rows of tables of which two columns are apart have no equal values there
  pub apart-held : (k : ℕ) (side : Side) (c d : ColId) → slice_get invs k ≡ Some (Apart side c d) → IsApart (state_of side m.old m.new) c d
  apart-held k side c d h = holds-at k (Apart side c d) h

  -- a column that is unique tells the rows of its table apart
  pub distinct-held : (k : ℕ) (side : Side) (c : ColId) → slice_get invs k ≡ Some (Unique side c) → (v : Var) → ranges_over side c.table v ≡ true → Distinct c.column ((setting_of p m).rows v)
  distinct-held k side c h v r =
      let unique : IsUnique (state_of side m.old m.new) c = holds-at k (Unique side c) h in
      subst (Distinct c.column) (sym (first-rows side c.table v r))
      (distinct-rows c.column (rows_of (state_of side m.old m.new) c.table) (rising side c.table) (λ p q i j. unique p q i j))

  -- each row of a table that is within another one has a row there with its value
  pub within-held : (k : ℕ) (side : Side) (c d : ColId) → slice_get invs k ≡ Some (Within side c d) → (u v : Var) → ranges_over side c.table u ≡ true → ranges_over side d.table v ≡ true → (r : Placed) → In r ((setting_of p m).rows u) → (q : Placed) × In q ((setting_of p m).rows v) × (value_eq (value_at r c.column) (value_at q d.column) ≡ true)
  within-held k side c d h u v ru rv r i =
      let within : IsWithin (state_of side m.old m.new) c d = holds-at k (Within side c d) h in
      let w = within r (subst (In r) (first-rows side c.table u ru) i) in
      (w.0, subst (In w.0) (sym (first-rows side d.table v rv)) w.1, w.2)
