-- What a state has that fits a layout.
use Rattle.std.proofs.Common.{◌≡◌, ℕ, true, List, [], ◌∷◌, map, length, Result, Ok, Err, OnOk, OnErr, refl, sym, ap, ap₂, ◌∙◌, subst}
use Rattle.std.proofs.lemmas.List.{length-map}
use Rattle.mig_schema.specs.declared.tables.Column.{Column}
use Rattle.mig_schema.specs.declared.tables.Kind.{Kind}
use Rattle.mig_schema.specs.declared.tables.Schema.{Schema}
use Rattle.mig_schema.specs.declared.tables.Table.{Table}
use Rattle.mig_schema.specs.Columns.{columns_of}
use Rattle.mig_meaning.specs.declared.states.Placed.{Placed}
use Rattle.mig_meaning.specs.declared.states.State.{State}
use Rattle.mig_meaning.specs.Lists.{Each}
use Rattle.mig_meaning.specs.Rows.{empty_state, rows_of}
use Rattle.mig_meaning.specs.States.{Rising, IsState}
use Rattle.mig_meaning.proofs.StateLaw.{empty-state}
use Rattle.mig_meaning.proofs.Within.{each-weaker}
use Rattle.mig_storage.specs.Layout.{Layout, layout_of, kinds_at, of_kinds}
use Rattle.mig_storage.specs.Meaning.{FitsLayout}
use Rattle.mig_storage.proofs.StateLemmas.{row_fits-kinds, kinds_at-schema}

-- a schema with this layout
schema_with : Layout → Schema
schema_with layout = record { tables = map (λ (ks : List Kind). record { name = []; columns = map (λ (k : Kind). record { name = []; kind = k }) ks }) layout; links = [] }

layout-with : (layout : Layout) → layout_of (schema_with layout) ≡ layout
unfolding schema_with
layout-with layout = go layout
  where
    kinds : (ks : List Kind) → map (λ (c : Column). c.kind) (map (λ (k : Kind). record { name = []; kind = k }) ks) ≡ ks
    kinds [] = refl
    kinds (k ∷ ks) = ap (λ rest. k ∷ rest) (kinds ks)

    go : (l : Layout) → map (λ (t : Table). map (λ (c : Column). c.kind) t.columns) (map (λ (ks : List Kind). record { name = []; columns = map (λ (k : Kind). record { name = []; kind = k }) ks }) l) ≡ l
    go [] = refl
    go (ks ∷ l) = ap₂ (λ x y. x ∷ y) (kinds ks) (go l)

fits-some : (layout : Layout) (s : State) → FitsLayout layout s → IsState (schema_with layout) s
fits-some layout s fits = fits (schema_with layout) (layout-with layout)

pub fits-count : (layout : Layout) (s : State) → FitsLayout layout s → length s.tables ≡ length layout
fits-count layout s fits =
    (fits-some layout s fits).count ∙ (sym (length-map (schema_with layout).tables (λ (t : Table). map (λ (c : Column). c.kind) t.columns)) ∙ ap length (layout-with layout))

pub fits-rising : (layout : Layout) (s : State) (t : ℕ) → FitsLayout layout s → Rising (rows_of s t)
fits-rising layout s t fits = ((fits-some layout s fits).each t).rising

pub fits-kinds : (layout : Layout) (s : State) (t : ℕ) → FitsLayout layout s → Each (λ (p : Placed). of_kinds (kinds_at layout t) p.row.values ≡ true) (rows_of s t)
fits-kinds layout s t fits =
    each-weaker _ _ (λ (p : Placed) h. ap (λ ks. of_kinds ks p.row.values) kinds ∙ (sym (row_fits-kinds (columns_of (schema_with layout) t) p.row.values) ∙ h)) (rows_of s t) ((fits-some layout s fits).each t).fitting
  where
    kinds : kinds_at layout t ≡ map (λ (c : Column). c.kind) (columns_of (schema_with layout) t)
    kinds = ap (λ l. kinds_at l t) (sym (layout-with layout)) ∙ kinds_at-schema (schema_with layout) t

-- the state with no rows is the same for all schemas with as many tables
empty-layout : (schema : Schema) → empty_state schema ≡ record { tables = map (λ (ks : List Kind). []) (layout_of schema); next = 0 }
empty-layout schema = ap (λ (ts : List (List Placed)). record { tables = ts; next = 0 }) (go schema.tables)
  where
    go : (ts : List Table) → map {B = List Placed} (λ (t : Table). []) ts ≡ map {B = List Placed} (λ (ks : List Kind). []) (map (λ (t : Table). map (λ (c : Column). c.kind) t.columns) ts)
    go [] = refl
    go (t ∷ ts) = ap (λ rest. [] ∷ rest) (go ts)

pub fits-empty : (schema : Schema) → FitsLayout (layout_of schema) (empty_state schema)
fits-empty schema other same =
    let one : empty_state other ≡ empty_state schema = empty-layout other ∙ (ap (λ (l : Layout). record { tables = map {B = List Placed} (λ (ks : List Kind). []) l; next = 0 }) same ∙ sym (empty-layout schema)) in
    subst (IsState other) one (empty-state other)

pub empty-count : (schema : Schema) → length (empty_state schema).tables ≡ length (layout_of schema)
empty-count schema = fits-count (layout_of schema) (empty_state schema) (fits-empty schema)

-- a change that is made or not
pub made_or_not : {T E : Type 0} (P : State → Type 0) (answer : Result T E) (old new changed : State) → OnOk answer (new ≡ changed) → OnErr answer (new ≡ old) → P old → P changed → P new
made_or_not P (Ok x) old new changed ok err before after = subst P (sym ok) after
made_or_not P (Err x) old new changed ok err before after = subst P (sym err) before
