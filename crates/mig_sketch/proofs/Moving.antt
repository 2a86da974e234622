-- Statements and queries with other columns are typed, where each column stands in the tree and keeps its kind.
use Rattle.std.proofs.Common.{◌≡◌, ℕ, Bool, true, false, not, List, [], ◌∷◌, ◌++◌, map, refl, sym, ap, ap₂, ◌∙◌, subst, inl, inr, arith}
use Rattle.std.specs.Prelude.{◌&&◌}
use Rattle.std.specs.List.{list_any, flat_map, AllByRecursion}
use Rattle.std.proofs.lemmas.List.{length-map}
use Rattle.mig_listing.specs.Listing.{IsIn}
use Rattle.mig_listing.proofs.Members.{in_append, in_append_left, in_append_right, in_flat_map, from_flat_map, in_map}
use Rattle.mig_schema.specs.Columns.{has_column, kind_of, same_kind}
use Rattle.mig_schema.specs.Joins.{tables_of, is_among}
use Rattle.mig_schema.specs.Typed.{Piece, IsTypedPiece, all_cmps, item_columns, item_scalars, item_kind, scalar_kind, is_order, names_no_param, used_columns, scalars_of, stands_twice}
use Rattle.mig_schema.specs.Within.{IsPieceWithin, FitsScalar}
use Rattle.mig_schema.specs.declared.jobs.Job.{Job}
use Rattle.mig_schema.specs.declared.programs.Assign.{Assign}
use Rattle.mig_schema.specs.declared.programs.Cmp.{Cmp}
use Rattle.mig_schema.specs.declared.programs.Cond.{Cond}
use Rattle.mig_schema.specs.declared.programs.Function.{Function}
use Rattle.mig_schema.specs.declared.programs.Item.{Item}
use Rattle.mig_schema.specs.declared.programs.Item.TheVariants as item
use Rattle.mig_schema.specs.declared.programs.Join.{Join}
use Rattle.mig_schema.specs.declared.tables.ColId.{ColId}
use Rattle.mig_schema.specs.declared.tables.Kind.TheVariants as kind
use Rattle.mig_trees.specs.Listed.{IsListedJoin}
use Rattle.mig_sketch.specs.Moved.{item_by, cmp_by, condition_by}
use Rattle.mig_sketch.specs.Needs.{condition_columns}
use Rattle.mig_sketch.proofs.Pieces.{piece_typed}
use Rattle.mig_sketch.proofs.Placed.{IsAt}
use Rattle.mig_sketch.proofs.Tests.{none_from, none_to, not_true, or_right_false, or_false, flat_map-flat_map}

-- ---- conditions with other columns

-- the comparisons of all cases, one by one
pub cmps-by : (to : ColId → ColId) (test : Cond) → all_cmps (condition_by to test) ≡ map (cmp_by to) (all_cmps test)
cmps-by to test = cases test.cases
  where
    append : (xs ys : List Cmp) → map (cmp_by to) (xs ++ ys) ≡ map (cmp_by to) xs ++ map (cmp_by to) ys
    append [] ys = refl
    append (x ∷ xs) ys = ap (λ zs. cmp_by to x ∷ zs) (append xs ys)

    cases : (xs : List (List Cmp)) → flat_map (λ case. case) (map (λ case. map (cmp_by to) case) xs) ≡ map (cmp_by to) (flat_map (λ case. case) xs)
    cases [] = refl
    cases (x ∷ xs) = ap (λ ys. map (cmp_by to) x ++ ys) (cases xs) ∙ sym (append x (flat_map (λ case. case) xs))

-- the columns of both sides of a comparison
abbrev pub cmp_columns : Cmp → List ColId
cmp_columns x = item_columns x.left ++ item_columns x.right

-- and of all comparisons of a condition
pub condition-columns : (test : Cond) → flat_map cmp_columns (all_cmps test) ≡ condition_columns test
condition-columns test = flat_map-flat_map cmp_columns (λ case. case) test.cases

-- ---- a piece with other columns

module _ (job : Job) (f : Function) (need : List (List ColId)) (tree : Join) (listed : IsListedJoin job.target need tree) (old : Piece) (typed : IsTypedPiece job.source f old) (to : ColId → ColId)
    (at : (c : ColId) → IsIn c (old.selected ++ flat_map cmp_columns old.compared) → IsAt job tree c (to c)) where
  -- the piece over the tree, with these listed tables and written values
  abbrev pub moved : List ℕ → List Assign → Piece
  moved tables written = record { join = tree; listed = tables; selected = map to old.selected; written = written; compared = map (cmp_by to) old.compared; inserts = false }

  -- ---- columns

  -- a column stands in the tree, and the new schema has it
  abbrev pub IsPlaced : ColId → Type 0
  IsPlaced d = (has_column job.target d ≡ true) × (is_among d.table (tables_of tree) ≡ true)

  placed : (c : ColId) → IsIn c (old.selected ++ flat_map cmp_columns old.compared) → IsPlaced (to c)
  placed c i = let h = at c i in (h.known, h.joined)

  side_placed : (x : Item) → ((c : ColId) → IsIn c (item_columns x) → IsPlaced (to c)) → (d : ColId) → IsIn d (item_columns (item_by to x)) → IsPlaced d
  side_placed (item.Col c) h d i = elim i [ inl e ↦ subst IsPlaced (sym e) (h c (inl refl)) | inr j ↦ absurd j ]
  side_placed (item.Scalar v) h d i = absurd i

  in_compared : (x : Cmp) (c : ColId) → IsIn x old.compared → IsIn c (cmp_columns x) → IsIn c (old.selected ++ flat_map cmp_columns old.compared)
  in_compared x c i j = in_append_right old.selected (flat_map cmp_columns old.compared) c (from_flat_map cmp_columns old.compared x c i j)

  left_at : (x : Cmp) → IsIn x old.compared → (c : ColId) → IsIn c (item_columns x.left) → IsAt job tree c (to c)
  left_at x i c j = at c (in_compared x c i (in_append_left (item_columns x.left) (item_columns x.right) c j))

  right_at : (x : Cmp) → IsIn x old.compared → (c : ColId) → IsIn c (item_columns x.right) → IsAt job tree c (to c)
  right_at x i c j = at c (in_compared x c i (in_append_right (item_columns x.left) (item_columns x.right) c j))

  compared_placed : (d : ColId) → IsIn d (flat_map cmp_columns (map (cmp_by to) old.compared)) → IsPlaced d
  compared_placed d i =
      let one = in_flat_map cmp_columns (map (cmp_by to) old.compared) d i in
      let of = in_map (cmp_by to) old.compared one.0 one.1 in
      let here = subst (λ (y : Cmp). IsIn d (cmp_columns y)) of.2 one.2 in
      elim (in_append (item_columns (item_by to (of.0).left)) (item_columns (item_by to (of.0).right)) d here) [
        | inl j ↦ side_placed (of.0).left (λ c k. let h = left_at of.0 of.1 c k in (h.known, h.joined)) d j
        | inr j ↦ side_placed (of.0).right (λ c k. let h = right_at of.0 of.1 c k in (h.known, h.joined)) d j
      ]

  -- ---- kinds and scalars

  side-kind : (x : Item) → ((c : ColId) → IsIn c (item_columns x) → IsAt job tree c (to c)) → item_kind job.target f (item_by to x) ≡ item_kind job.source f x
  side-kind (item.Col c) h = (h c (inl refl)).kind
  side-kind (item.Scalar v) h = refl

  side-scalars : (x : Item) → item_scalars (item_by to x) ≡ item_scalars x
  side-scalars (item.Col c) = refl
  side-scalars (item.Scalar v) = refl

  cmps-scalars : (xs : List Cmp) → flat_map (λ (x : Cmp). item_scalars x.left ++ item_scalars x.right) (map (cmp_by to) xs) ≡ flat_map (λ (x : Cmp). item_scalars x.left ++ item_scalars x.right) xs
  cmps-scalars [] = refl
  cmps-scalars (x ∷ xs) = ap₂ (λ here rest. here ++ rest) (ap₂ (λ l r. l ++ r) (side-scalars x.left) (side-scalars x.right)) (cmps-scalars xs)

  -- whether the kinds of the sides differ
  abbrev differ : Cmp → Bool
  differ x = not (same_kind (item_kind job.source f x.left) (item_kind job.source f x.right))

  abbrev moved_differ : Cmp → Bool
  moved_differ x = not (same_kind (item_kind job.target f x.left) (item_kind job.target f x.right))

  compared_kinds : list_any moved_differ (map (cmp_by to) old.compared) ≡ false
  compared_kinds = none_from moved_differ (map (cmp_by to) old.compared) (λ y i.
      let of = in_map (cmp_by to) old.compared y i in
      ap moved_differ of.2
      ∙ ap₂ (λ a b. not (same_kind a b)) (side-kind (of.0).left (left_at of.0 of.1)) (side-kind (of.0).right (right_at of.0 of.1))
      ∙ none_to differ old.compared of.0 (or_right_false (list_any (λ (a : Assign). not (same_kind (kind_of job.source a.column) (scalar_kind f a.value))) old.written) (list_any differ old.compared) typed.kinds) of.1)

  abbrev unordered : Cmp → Bool
  unordered x = is_order x.op && not (same_kind (item_kind job.source f x.left) kind.Int && same_kind (item_kind job.source f x.right) kind.Int)

  abbrev moved_unordered : Cmp → Bool
  moved_unordered x = is_order x.op && not (same_kind (item_kind job.target f x.left) kind.Int && same_kind (item_kind job.target f x.right) kind.Int)

  compared_orders : list_any moved_unordered (map (cmp_by to) old.compared) ≡ false
  compared_orders = none_from moved_unordered (map (cmp_by to) old.compared) (λ y i.
      let of = in_map (cmp_by to) old.compared y i in
      ap moved_unordered of.2
      ∙ ap₂ (λ a b. is_order (of.0).op && not (same_kind a kind.Int && same_kind b kind.Int)) (side-kind (of.0).left (left_at of.0 of.1)) (side-kind (of.0).right (right_at of.0 of.1))
      ∙ none_to unordered old.compared of.0 typed.orders of.1)

  -- ---- the piece

  module _ (tables : List ℕ) (written : List Assign) (values : map (λ (a : Assign). a.value) written ≡ map (λ (a : Assign). a.value) old.written)
      (writes : (a : Assign) → IsIn a written → IsPlaced a.column × (same_kind (kind_of job.target a.column) (scalar_kind f a.value) ≡ true))
      (lists : (t : ℕ) → IsIn t tables → is_among t (tables_of tree) ≡ true) (once : stands_twice tables ≡ false) where
    used : (d : ColId) → IsIn d (used_columns (moved tables written)) → IsPlaced d
    used d i = elim (in_append (map to old.selected ++ map (λ (a : Assign). a.column) written) (flat_map cmp_columns (map (cmp_by to) old.compared)) d i) [
      | inl j ↦ elim (in_append (map to old.selected) (map (λ (a : Assign). a.column) written) d j) [
        | inl k ↦ let of = in_map to old.selected d k in subst IsPlaced (sym of.2) (placed of.0 (in_append_left old.selected (flat_map cmp_columns old.compared) of.0 of.1))
        | inr k ↦ let of = in_map (λ (a : Assign). a.column) written d k in subst IsPlaced (sym of.2) (writes of.0 of.1).0
      ]
      | inr j ↦ compared_placed d j
    ]

    scalars-same : scalars_of (moved tables written) ≡ scalars_of old
    scalars-same = ap₂ (λ a b. a ++ b) values (cmps-scalars old.compared)

    pub moved_typed : IsTypedPiece job.target f (moved tables written)
    moved_typed = piece_typed job.target f need (moved tables written) listed used lists once
        (ap (list_any (names_no_param f)) scalars-same ∙ typed.params)
        (or_false (list_any (λ (a : Assign). not (same_kind (kind_of job.target a.column) (scalar_kind f a.value))) written) (list_any moved_differ (map (cmp_by to) old.compared))
        (none_from (λ (a : Assign). not (same_kind (kind_of job.target a.column) (scalar_kind f a.value))) written (λ a i. not_true (same_kind (kind_of job.target a.column) (scalar_kind f a.value)) (writes a i).1))
        compared_kinds)
        compared_orders
        refl

    pub moved_within : IsPieceWithin old → IsPieceWithin (moved tables written)
    moved_within w = record {
      joined = listed.few;
      selected = let e = length-map old.selected to in let h = w.selected in omega (arith, e, h);
      compared = let e = length-map old.compared (cmp_by to) in let h = w.compared in omega (arith, e, h);
      scalars = subst (AllByRecursion FitsScalar) (sym scalars-same) w.scalars;
    }
