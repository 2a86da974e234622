-- The values of an insert, one column of the tree more.
use Rattle.std.proofs.Common.{◌≡◌, ℕ, ◌+◌, ◌<◌, ◌≤◌, Bool, true, false, List, [], ◌∷◌, ◌++◌, map, drop, length, get_or, sym, ap, ◌∙◌, subst}
use Rattle.std.specs.Prelude.{Option, Some, None, option_map}
use Rattle.std.specs.List.{list_any}
use Rattle.std.proofs.lemmas.List.{drop_more, map-append}
use Rattle.mig_schema.specs.Columns.{same_col}
use Rattle.mig_schema.specs.Joins.{leader, in_one_class}
use Rattle.mig_schema.specs.declared.programs.Assign.{Assign}
use Rattle.mig_schema.specs.declared.programs.Join.{Join}
use Rattle.mig_schema.specs.declared.programs.Scalar.{Scalar}
use Rattle.mig_schema.specs.declared.tables.ColId.{ColId}
use Rattle.mig_schema.specs.declared.tables.Schema.{Schema}
use Rattle.mig_schema.proofs.Anys.{any-map}
use Rattle.mig_invariant.specs.Columns.{is_key}
use Rattle.mig_sketch.specs.Labels.{new_label}
use Rattle.mig_sketch.specs.Leading.{scalars_led, scalars_at}
use Rattle.mig_sketch.specs.Values.{class_value, taken_after}
use Rattle.mig_sketch.proofs.Valued.{left_values, step-seen, step-none, step-new, taken-few}

-- the columns of values
abbrev pub columns_of : List Assign → List ColId
columns_of values = map (λ (a : Assign). a.column) values

-- the column of this number
abbrev pub at_number : List ColId → ℕ → ColId
at_number columns i = get_or columns i (record { table = 0; column = 0 })

module _ (target : Schema) (tree : Join) (given : List Assign) (free : List ℕ) (s : ℕ) (columns : List ColId) where
  -- what is left of the columns, where the values of these are there
  abbrev pub left_of : (taken : ℕ) → List Assign → ℕ → Option (List Assign)
  left_of taken values k = left_values target tree (scalars_at tree given) (new_label free s) taken (columns_of values) (drop k columns)

  -- these values and what is left are all values
  abbrev pub AreLeft : (taken : ℕ) → List Assign → ℕ → Type 0
  AreLeft taken values k = left_values target tree (scalars_at tree given) (new_label free s) 0 [] columns ≡ option_map (λ rest. values ++ rest) (left_of taken values k)

  module _ (i : ℕ) (lt : i < length columns) (values : List Assign) (leaders : List ColId) (own : ColId) (are : leaders ≡ map (leader tree.more) (columns_of values)) (is : own ≡ leader tree.more (at_number columns i)) where
    -- whether the class of the column has a value is told by the leaders
    seen-is : (b : Bool) → list_any (λ l. same_col l own) leaders ≡ b → list_any (λ c. in_one_class tree c (at_number columns i)) (columns_of values) ≡ b
    seen-is b e =
        sym (any-map (λ l. same_col l (leader tree.more (at_number columns i))) (leader tree.more) (columns_of values))
        ∙ ap (list_any (λ l. same_col l (leader tree.more (at_number columns i)))) (sym are)
        ∙ ap (λ o. list_any (λ l. same_col l o) leaders) (sym is)
        ∙ e

    here : (taken : ℕ) → left_of taken values i ≡ left_values target tree (scalars_at tree given) (new_label free s) taken (columns_of values) (at_number columns i ∷ drop (i + 1) columns)
    here taken = ap (left_values target tree (scalars_at tree given) (new_label free s) taken (columns_of values)) (drop_more columns i (record { table = 0; column = 0 }) lt)

    value-is : (taken : ℕ) (o : Option Scalar) → class_value (is_key target (at_number columns i)) (new_label free s taken) (scalars_led own given) ≡ o → class_value (is_key target (at_number columns i)) (new_label free s taken) (scalars_at tree given (at_number columns i)) ≡ o
    value-is taken o e = ap (λ l. class_value (is_key target (at_number columns i)) (new_label free s taken) (scalars_led l given)) (sym is) ∙ e

    -- the class has its value
    pub seen_on : (taken : ℕ) → list_any (λ l. same_col l own) leaders ≡ true → AreLeft taken values i → AreLeft taken values (i + 1)
    seen_on taken e left =
        left
        ∙ ap (option_map (λ rest. values ++ rest))
        (here taken ∙ step-seen target tree (scalars_at tree given) (new_label free s) taken (columns_of values) (drop (i + 1) columns) (at_number columns i) (seen-is true e))

    -- the class can have none
    pub none_left : (taken : ℕ) → list_any (λ l. same_col l own) leaders ≡ false → class_value (is_key target (at_number columns i)) (new_label free s taken) (scalars_led own given) ≡ None → AreLeft taken values i
        → left_values target tree (scalars_at tree given) (new_label free s) 0 [] columns ≡ None
    none_left taken e v left =
        left
        ∙ ap (option_map (λ rest. values ++ rest))
        (here taken ∙ step-none target tree (scalars_at tree given) (new_label free s) taken (columns_of values) (drop (i + 1) columns) (at_number columns i) (seen-is false e) (value-is taken None v))

    -- the class has a value from now on
    module _ (taken after : ℕ) (x : Scalar) (new : List Assign) (e : list_any (λ l. same_col l own) leaders ≡ false) (v : class_value (is_key target (at_number columns i)) (new_label free s taken) (scalars_led own given) ≡ Some x) (added : new ≡ values ++ record { column = at_number columns i; value = x } ∷ []) (more : after ≡ taken_after taken (scalars_led own given)) where
      columns-more : columns_of new ≡ columns_of values ++ at_number columns i ∷ []
      columns-more = ap columns_of added ∙ map-append (λ (a : Assign). a.column) values (record { column = at_number columns i; value = x } ∷ [])

      pub new_leaders : (led : List ColId) → led ≡ leaders ++ own ∷ [] → led ≡ map (leader tree.more) (columns_of new)
      new_leaders led d =
          d
          ∙ ap (λ ls. ls ++ own ∷ []) are
          ∙ ap (λ (o : ColId). map (leader tree.more) (columns_of values) ++ o ∷ []) is
          ∙ sym (ap (map (leader tree.more)) columns-more ∙ map-append (leader tree.more) (columns_of values) (at_number columns i ∷ []))

      pub new_few : taken ≤ 4 → after ≤ 4
      new_few le = subst (λ n. n ≤ 4) (sym more) (taken-few (is_key target (at_number columns i)) free s taken (scalars_led own given) x le v)

      pub new_on : AreLeft taken values i → AreLeft after new (i + 1)
      new_on left =
          left
          ∙ ap (option_map (λ rest. values ++ rest)) (here taken)
          ∙ step-new target tree (scalars_at tree given) (new_label free s) values taken (columns_of values) (drop (i + 1) columns) (at_number columns i) x (seen-is false e) (value-is taken (Some x) v)
          ∙ ap (λ (xs : List Assign). option_map (λ rest. xs ++ rest) (left_values target tree (scalars_at tree given) (new_label free s) (taken_after taken (scalars_at tree given (at_number columns i))) (columns_of values ++ at_number columns i ∷ []) (drop (i + 1) columns))) (sym added)
          ∙ ap (λ cs. option_map (λ rest. new ++ rest) (left_values target tree (scalars_at tree given) (new_label free s) (taken_after taken (scalars_at tree given (at_number columns i))) cs (drop (i + 1) columns))) (sym columns-more)
          ∙ ap (λ n. option_map (λ rest. new ++ rest) (left_of n new (i + 1))) (ap (λ l. taken_after taken (scalars_led l given)) (sym is) ∙ sym more)
