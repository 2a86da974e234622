-- The columns, tables and scalars of a piece, tested part by part.
use Rattle.std.proofs.Common.{◌≡◌, ℕ, Bool, true, false, not, ◌||◌, List, [], ◌∷◌, ◌++◌, map, refl, sym, ap, ◌∙◌}
use Rattle.std.specs.List.{list_any, flat_map}
use Rattle.std.proofs.lemmas.List.Folds.{list_any-append}
use Rattle.mig_schema.specs.declared.tables.ColId.{ColId}
use Rattle.mig_schema.specs.declared.tables.Schema.{Schema}
use Rattle.mig_schema.specs.declared.programs.Join.{Join}
use Rattle.mig_schema.specs.declared.programs.Joined.{Joined}
use Rattle.mig_schema.specs.declared.programs.Assign.{Assign}
use Rattle.mig_schema.specs.declared.programs.Scalar.{Scalar}
use Rattle.mig_schema.specs.declared.programs.Cmp.{Cmp}
use Rattle.mig_schema.specs.declared.programs.Function.{Function}
use Rattle.mig_schema.specs.Columns.{columns_in, has_table}
use Rattle.mig_schema.specs.Joins.{join_columns, tables_of, is_among}
use Rattle.mig_schema.specs.Typed.{Piece, item_columns, item_scalars, used_columns, scalars_of, named_columns, unknown_table, not_joined, unknown_parameter, names_no_param}
use Rattle.mig_schema.proofs.Anys.{any-map}
use Rattle.mig_typing.proofs.Anys.{any-flat_map, any-same}

or-false : (b : Bool) → (b || false) ≡ b
or-false true = refl
or-false false = refl

module _ (q : ColId → Bool) (p : Piece) where
  pub used : list_any q (used_columns p)
      ≡ ((list_any q p.selected || list_any (λ (a : Assign). q a.column) p.written) || list_any (λ (c : Cmp). list_any q (item_columns c.left) || list_any q (item_columns c.right)) p.compared)
  used =
      list_any-append q (p.selected ++ map (λ (a : Assign). a.column) p.written) (flat_map (λ (c : Cmp). item_columns c.left ++ item_columns c.right) p.compared)
      ∙ ap (λ b. b || list_any q (flat_map (λ (c : Cmp). item_columns c.left ++ item_columns c.right) p.compared))
      (list_any-append q p.selected (map (λ (a : Assign). a.column) p.written) ∙ ap (λ b. list_any q p.selected || b) (any-map q (λ (a : Assign). a.column) p.written))
      ∙ ap (λ b. (list_any q p.selected || list_any (λ (a : Assign). q a.column) p.written) || b)
      (any-flat_map q (λ (c : Cmp). item_columns c.left ++ item_columns c.right) p.compared
      ∙ any-same (λ (c : Cmp). list_any q (item_columns c.left ++ item_columns c.right)) (λ c. list_any q (item_columns c.left) || list_any q (item_columns c.right)) p.compared (λ c. list_any-append q (item_columns c.left) (item_columns c.right)))

  pub named : list_any q (named_columns p) ≡ (list_any (λ (m : Joined). q m.left || q m.right) p.join.more || list_any q (used_columns p))
  named =
      list_any-append q (flat_map (λ (m : Joined). m.left ∷ m.right ∷ []) p.join.more) (used_columns p)
      ∙ ap (λ b. b || list_any q (used_columns p))
      (any-flat_map q (λ (m : Joined). m.left ∷ m.right ∷ []) p.join.more
      ∙ any-same (λ (m : Joined). q m.left || (q m.right || false)) (λ m. q m.left || q m.right) p.join.more (λ m. ap (λ b. q m.left || b) (or-false (q m.right))))

module _ (s : Schema) (p : Piece) where
  pub unknown : unknown_table s p
      ≡ ((((not (has_table s p.join.first) || list_any (λ (m : Joined). not (has_table s m.table)) p.join.more)) || list_any (λ t. not (has_table s t)) p.listed) || list_any (λ (c : ColId). not (has_table s c.table)) (named_columns p))
  unknown =
      list_any-append (λ t. not (has_table s t)) (tables_of p.join ++ p.listed) (map (λ (c : ColId). c.table) (named_columns p))
      ∙ ap (λ b. list_any (λ t. not (has_table s t)) (tables_of p.join ++ p.listed) || b) (any-map (λ t. not (has_table s t)) (λ (c : ColId). c.table) (named_columns p))
      ∙ ap (λ b. b || list_any (λ (c : ColId). not (has_table s c.table)) (named_columns p))
      (list_any-append (λ t. not (has_table s t)) (tables_of p.join) p.listed
      ∙ ap (λ b. (not (has_table s p.join.first) || b) || list_any (λ t. not (has_table s t)) p.listed) (any-map (λ t. not (has_table s t)) (λ (m : Joined). m.table) p.join.more))

-- a table outside the join is a listed one or that of a used column
pub outside : (p : Piece) → not_joined p ≡ (list_any (λ t. not (is_among t (tables_of p.join))) p.listed || list_any (λ (c : ColId). not (is_among c.table (tables_of p.join))) (used_columns p))
outside p =
    list_any-append (λ t. not (is_among t (tables_of p.join))) p.listed (map (λ (c : ColId). c.table) (used_columns p))
    ∙ ap (λ b. list_any (λ t. not (is_among t (tables_of p.join))) p.listed || b) (any-map (λ t. not (is_among t (tables_of p.join))) (λ (c : ColId). c.table) (used_columns p))

-- a scalar that names no parameter is written or compared
pub unnamed : (f : Function) (p : Piece) → unknown_parameter f p
    ≡ (list_any (λ (a : Assign). names_no_param f a.value) p.written || list_any (λ (c : Cmp). list_any (names_no_param f) (item_scalars c.left) || list_any (names_no_param f) (item_scalars c.right)) p.compared)
unnamed f p =
    list_any-append (names_no_param f) (map (λ (a : Assign). a.value) p.written) (flat_map (λ (c : Cmp). item_scalars c.left ++ item_scalars c.right) p.compared)
    ∙ ap (λ b. b || list_any (names_no_param f) (flat_map (λ (c : Cmp). item_scalars c.left ++ item_scalars c.right) p.compared)) (any-map (names_no_param f) (λ (a : Assign). a.value) p.written)
    ∙ ap (λ b. list_any (λ (a : Assign). names_no_param f a.value) p.written || b)
    (any-flat_map (names_no_param f) (λ (c : Cmp). item_scalars c.left ++ item_scalars c.right) p.compared
    ∙ any-same (λ (c : Cmp). list_any (names_no_param f) (item_scalars c.left ++ item_scalars c.right)) (λ c. list_any (names_no_param f) (item_scalars c.left) || list_any (names_no_param f) (item_scalars c.right)) p.compared
    (λ c. list_any-append (names_no_param f) (item_scalars c.left) (item_scalars c.right)))

-- a test of the columns of a join, table by table
pub joined : (q : ColId → Bool) (s : Schema) (j : Join) → list_any q (join_columns s j) ≡ (list_any q (columns_in s j.first) || list_any (λ (m : Joined). list_any q (columns_in s m.table)) j.more)
joined q s j =
    any-flat_map q (columns_in s) (tables_of j)
    ∙ ap (λ b. list_any q (columns_in s j.first) || b) (any-map (λ t. list_any q (columns_in s t)) (λ (m : Joined). m.table) j.more)

-- the comparisons of a condition, case by case
pub in_cases : (q : Cmp → Bool) (cases : List (List Cmp)) → list_any q (flat_map (λ case. case) cases) ≡ list_any (λ case. list_any q case) cases
in_cases q cases = any-flat_map q (λ case. case) cases
