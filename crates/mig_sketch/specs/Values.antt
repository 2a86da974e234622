-- The values of an insert over a tree: one for each class of the tree's columns.
use Rattle.std.specs.Prelude.{ℕ, ◌+◌, ◌==◌, Bool, false, cond, List, [], ◌∷◌, ◌++◌, map, filter, Option, Some, None, option_map}
use Rattle.std.specs.List.{list_any, list_all, flat_map}
use Rattle.std.specs.Option.{option_and_then}
use Rattle.std.specs.Ordering.{int_eq}
use Rattle.std.specs.Str.{bytes_eq}
use Rattle.mig_schema.specs.Joins.{join_columns, in_one_class}
use Rattle.mig_schema.specs.declared.jobs.Job.{Job}
use Rattle.mig_schema.specs.declared.programs.Assign.{Assign}
use Rattle.mig_schema.specs.declared.programs.Join.{Join}
use Rattle.mig_schema.specs.declared.programs.Scalar.{Scalar}
use Rattle.mig_schema.specs.declared.programs.Scalar.TheVariants as scalar
use Rattle.mig_schema.specs.declared.tables.ColId.{ColId}
use Rattle.mig_schema.specs.declared.tables.Schema.{Schema}
use Rattle.mig_invariant.specs.declared.corresp.Corr.{Corr}
use Rattle.mig_invariant.specs.Columns.{is_key}
use Rattle.mig_invariant.specs.Images.{images}
use Rattle.mig_sketch.specs.Labels.{new_label}

-- ---- what the old insert gives to new columns

-- a scalar for each of these columns
abbrev pub for_each : List ColId → Scalar → List Assign
for_each ds x = map (λ d. record { column = d; value = x }) ds

-- what a value gives to the images of an old column: its scalar, where it is for the column's class
abbrev pub given_to : Join → (images : List ColId) → ColId → Assign → List Assign
given_to old ds c a = cond (in_one_class old a.column c) (for_each ds a.value) []

-- what all its values give to the images of each column of its tables
abbrev pub carried : Job → Corr → Join → List Assign → List Assign
carried job corr old values = flat_map (λ c. flat_map (given_to old (images job.target corr c) c) values) (join_columns job.source old)

-- ---- the rule of values

abbrev pub same_scalar : Scalar → Scalar → Bool
same_scalar (scalar.Param a) (scalar.Param b) = a == b
same_scalar (scalar.Int a) (scalar.Int b) = int_eq a b
same_scalar (scalar.Text a) (scalar.Text b) = bytes_eq a b
same_scalar (scalar.Fresh a) (scalar.Fresh b) = a == b
same_scalar _ _ = false

-- the first column of each class of a join, in order; these stand before
abbrev pub first_columns : Join → (before : List ColId) → List ColId → List ColId
first_columns j before [] = []
first_columns j before (c ∷ cs) = cond (list_any (λ b. in_one_class j b c) before) (first_columns j before cs) (c ∷ first_columns j (before ++ c ∷ []) cs)

-- the scalars for the class of column d
abbrev pub scalars_for : Join → List Assign → ColId → List Scalar
scalars_for tree values d = map (λ (a : Assign). a.value) (filter (λ (a : Assign). in_one_class tree d a.column) values)

-- the value of a class: its one scalar, where all of its scalars are the same; where it has none, and is of kind key, the new label
abbrev pub class_value : (key : Bool) → (label : Option ℕ) → List Scalar → Option Scalar
class_value key label [] = cond key (option_map (λ n. scalar.Fresh n) label) None
class_value key label (x ∷ xs) = cond (list_all (same_scalar x) xs) (Some x) None

-- how many new labels are taken after a class of these scalars
abbrev pub taken_after : ℕ → List Scalar → ℕ
taken_after i [] = i + 1
taken_after i (x ∷ xs) = i

-- the values of these classes, with new labels from number i on; none where one of them has no value
abbrev pub values_from : Schema → (ColId → List Scalar) → (label : ℕ → Option ℕ) → (i : ℕ) → List ColId → Option (List Assign)
values_from target scalars label i [] = Some []
values_from target scalars label i (d ∷ ds) = option_and_then
    (λ x. option_map (λ rest. record { column = d; value = x } ∷ rest) (values_from target scalars label (taken_after i (scalars d)) ds))
    (class_value (is_key target d) (label i) (scalars d))

-- the values over a tree, of what statement s gives, where its function does not use these labels; none where the tree is refused
abbrev pub insert_values : Schema → (carried : List Assign) → (free : List ℕ) → (s : ℕ) → Join → Option (List Assign)
insert_values target values free s tree = values_from target (scalars_for tree values) (new_label free s) 0 (first_columns tree [] (join_columns target tree))
