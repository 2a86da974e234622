-- The values of an insert, class after class.
use Rattle.std.proofs.Common.{◌≡◌, ℕ, ◌+◌, ◌-◌, ◌*◌, ◌<◌, ◌≤◌, length, get_or, take, drop, Bool, true, false, List, [], ◌∷◌, ◌++◌, map, cond, refl, sym, ap, ap₂, ◌∙◌, arith, append_assoc}
use Rattle.std.specs.Prelude.{nat_le, not, ◌||◌, ◌&&◌, filter, Option, Some, None, option_map, slice_get}
use Rattle.std.specs.List.{list_any, list_all}
use Rattle.std.specs.Option.{option_and_then}
use Rattle.std.proofs.lemmas.Bool.{leb-true}
use Rattle.std.proofs.lemmas.List.{take_all}
use Rattle.std.proofs.lemmas.Option.{none-some}
use Rattle.mig_schema.specs.Columns.{same_col}
use Rattle.mig_schema.specs.Joins.{leader, in_one_class, join_columns}
use Rattle.mig_schema.specs.declared.programs.Assign.{Assign}
use Rattle.mig_schema.specs.declared.programs.Join.{Join}
use Rattle.mig_schema.specs.declared.programs.Scalar.{Scalar}
use Rattle.mig_schema.specs.declared.programs.Scalar.TheVariants as scalar
use Rattle.mig_schema.specs.declared.tables.ColId.{ColId}
use Rattle.mig_schema.specs.declared.tables.Schema.{Schema}
use Rattle.mig_invariant.specs.Columns.{is_key}
use Rattle.mig_sketch.specs.Labels.{new_label}
use Rattle.mig_sketch.specs.Leading.{led, scalars_led, scalars_at, is_like, is_given}
use Rattle.mig_sketch.specs.Values.{same_scalar, first_columns, scalars_for, class_value, taken_after, values_from, insert_values}

-- ---- scalars by the leaders of their classes

value-cond : (b : Bool) (x y : Assign) (xs ys : List Assign) → x.value ≡ y.value → map (λ (a : Assign). a.value) xs ≡ map (λ (a : Assign). a.value) ys → map (λ (a : Assign). a.value) (cond b (x ∷ xs) xs) ≡ map (λ (a : Assign). a.value) (cond b (y ∷ ys) ys)
value-cond true x y xs ys e h = ap₂ (λ v vs. v ∷ vs) e h
value-cond false x y xs ys e h = h

pub scalars-led : (tree : Join) (d : ColId) (values : List Assign) → scalars_led (leader tree.more d) (map (led tree) values) ≡ scalars_for tree values d
scalars-led tree d [] = refl
scalars-led tree d (a ∷ values) = value-cond (same_col (leader tree.more d) (leader tree.more a.column)) (led tree a) a (filter (λ (b : Assign). same_col (leader tree.more d) b.column) (map (led tree) values)) (filter (λ (b : Assign). in_one_class tree d b.column) values) refl (scalars-led tree d values)

all-cond : (b : Bool) (p : Scalar → Bool) (x : Assign) (xs : List Assign) → list_all p (map (λ (a : Assign). a.value) (cond b (x ∷ xs) xs)) ≡ ((not b || p x.value) && list_all p (map (λ (a : Assign). a.value) xs))
all-cond true p x xs = refl
all-cond false p x xs = refl

-- all scalars of a class are the same as one
pub all-like : (own : ColId) (x : Scalar) (values : List Assign) → list_all (is_like own x) values ≡ list_all (same_scalar x) (scalars_led own values)
all-like own x [] = refl
all-like own x (a ∷ values) = ap (λ b. is_like own x a && b) (all-like own x values) ∙ sym (all-cond (same_col own a.column) (same_scalar x) a (filter (λ (b : Assign). same_col own b.column) values))

taken-cond : (b : Bool) (i : ℕ) (x : Assign) (xs : List Assign) (more : Bool) → taken_after i (map (λ (a : Assign). a.value) xs) ≡ cond more i (i + 1) → taken_after i (map (λ (a : Assign). a.value) (cond b (x ∷ xs) xs)) ≡ cond (b || more) i (i + 1)
taken-cond true i x xs more h = refl
taken-cond false i x xs more h = h

-- a label is taken exactly where the class has no scalar
pub taken_given : (own : ColId) (i : ℕ) (values : List Assign) → taken_after i (scalars_led own values) ≡ cond (is_given own values) i (i + 1)
taken_given own i [] = refl
taken_given own i (a ∷ values) = taken-cond (same_col own a.column) i a (filter (λ (b : Assign). same_col own b.column) values) (is_given own values) (taken_given own i values)

-- a value for another class changes nothing
pub class_skip : (own : ColId) (key : Bool) (label : Option ℕ) (a : Assign) (rest : List Assign) → same_col own a.column ≡ false → class_value key label (scalars_led own (a ∷ rest)) ≡ class_value key label (scalars_led own rest)
class_skip own key label a rest e = ap (λ b. class_value key label (map (λ (x : Assign). x.value) (cond b (a ∷ filter (λ (x : Assign). same_col own x.column) rest) (filter (λ (x : Assign). same_col own x.column) rest)))) e

-- the first value for a class is its value, where all others are the same
pub class_take : (own : ColId) (key : Bool) (label : Option ℕ) (a : Assign) (rest : List Assign) → same_col own a.column ≡ true → class_value key label (scalars_led own (a ∷ rest)) ≡ cond (list_all (is_like own a.value) rest) (Some a.value) None
class_take own key label a rest e =
    ap (λ b. class_value key label (map (λ (x : Assign). x.value) (cond b (a ∷ filter (λ (x : Assign). same_col own x.column) rest) (filter (λ (x : Assign). same_col own x.column) rest)))) e
    ∙ ap (λ b. cond b (Some a.value) None) (sym (all-like own a.value rest))

-- the first value is for a class: then it is the class's value, where all others are the same
pub class_first : (own : ColId) (key : Bool) (label : Option ℕ) (a : Assign) (values : List Assign) (b : Bool) → 0 < length values → a ≡ get_or values 0 a → same_col own a.column ≡ true → b ≡ list_all (is_like own a.value) (take (length values - 1) (drop 1 values)) → class_value key label (scalars_led own values) ≡ cond b (Some a.value) None
class_first own key label a [] b some at e all = absurd (omega (arith, some))
class_first own key label a (x ∷ rest) b some at e all =
    ap (λ (y : Assign). class_value key label (scalars_led own (y ∷ rest))) (sym at)
    ∙ class_take own key label a rest e
    ∙ ap (λ t. cond t (Some a.value) None) (ap (list_all (is_like own a.value)) (sym (take_all (length (x ∷ rest) - 1) rest (omega arith))) ∙ sym all)

-- ---- at most four labels

new-few : (b key : Bool) (o : Option ℕ) (x : Scalar) (i : ℕ) → nat_le i 3 ≡ b → cond key (option_map (λ n. scalar.Fresh n) (cond b o None)) None ≡ Some x → i ≤ 3
new-few true key o x i e h = leb-true i 3 e
new-few false true o x i e h = absurd (none-some x h)
new-few false false o x i e h = absurd (none-some x h)

-- where a class has a value, at most four new labels are taken
pub taken-few : (key : Bool) (free : List ℕ) (s i : ℕ) (xs : List Scalar) (x : Scalar) → i ≤ 4 → class_value key (new_label free s i) xs ≡ Some x → taken_after i xs ≤ 4
taken-few key free s i [] x le h = let few = new-few (nat_le i 3) key (slice_get free (4 * s + i)) x i refl h in omega (arith, few)
taken-few key free s i (y ∷ ys) x le h = le

-- ---- step by step

module _ (target : Schema) (tree : Join) (scalars : ColId → List Scalar) (label : ℕ → Option ℕ) where
  -- the values of what is left of the columns, where these were first ones
  abbrev pub left_values : ℕ → (before cs : List ColId) → Option (List Assign)
  left_values i before cs = values_from target scalars label i (first_columns tree before cs)

  abbrev step : ℕ → (before cs : List ColId) → ColId → Bool → Option (List Assign)
  step i before cs c b = values_from target scalars label i (cond b (first_columns tree before cs) (c ∷ first_columns tree (before ++ c ∷ []) cs))

  abbrev valued : ℕ → (before cs : List ColId) → ColId → Option Scalar → Option (List Assign)
  valued i before cs c o = option_and_then (λ x. option_map (λ rest. record { column = c; value = x } ∷ rest) (left_values (taken_after i (scalars c)) (before ++ c ∷ []) cs)) o

  -- a column of a class that had its value
  pub step-seen : (i : ℕ) (before cs : List ColId) (c : ColId) → list_any (λ b. in_one_class tree b c) before ≡ true → left_values i before (c ∷ cs) ≡ left_values i before cs
  step-seen i before cs c e = ap (step i before cs c) e

  -- a column of a class that has none
  pub step-none : (i : ℕ) (before cs : List ColId) (c : ColId) → list_any (λ b. in_one_class tree b c) before ≡ false → class_value (is_key target c) (label i) (scalars c) ≡ None → left_values i before (c ∷ cs) ≡ None
  step-none i before cs c e h = ap (step i before cs c) e ∙ ap (valued i before cs c) h

  map-more : (values : List Assign) (a : Assign) (o : Option (List Assign)) → option_map (λ rest. values ++ rest) (option_map (λ rest. a ∷ rest) o) ≡ option_map (λ rest. (values ++ a ∷ []) ++ rest) o
  map-more values a None = refl
  map-more values a (Some rest) = ap (λ xs. Some xs) (sym (append_assoc values (a ∷ []) rest))

  -- the first column of a class with a value
  pub step-new : (values : List Assign) (i : ℕ) (before cs : List ColId) (c : ColId) (x : Scalar) → list_any (λ b. in_one_class tree b c) before ≡ false → class_value (is_key target c) (label i) (scalars c) ≡ Some x
      → option_map (λ rest. values ++ rest) (left_values i before (c ∷ cs)) ≡ option_map (λ rest. (values ++ record { column = c; value = x } ∷ []) ++ rest) (left_values (taken_after i (scalars c)) (before ++ c ∷ []) cs)
  step-new values i before cs c x e h =
      ap (option_map (λ rest. values ++ rest)) (ap (step i before cs c) e ∙ ap (valued i before cs c) h)
      ∙ map-more values (record { column = c; value = x }) (left_values (taken_after i (scalars c)) (before ++ c ∷ []) cs)

-- values from scalars that are the same
pub values-agree : (target : Schema) (f g : ColId → List Scalar) (label : ℕ → Option ℕ) (i : ℕ) (ds : List ColId) → ((d : ColId) → f d ≡ g d) → values_from target f label i ds ≡ values_from target g label i ds
values-agree target f g label i [] same = refl
values-agree target f g label i (d ∷ ds) same =
    ap (λ xs. option_and_then (λ x. option_map (λ rest. record { column = d; value = x } ∷ rest) (values_from target f label (taken_after i xs) ds)) (class_value (is_key target d) (label i) xs)) (same d)
    ∙ ap (λ o. option_and_then (λ x. option_map (λ rest. record { column = d; value = x } ∷ rest) o) (class_value (is_key target d) (label i) (g d))) (values-agree target f g label (taken_after i (g d)) ds same)

-- values that are led to their classes are the values of an insert
pub values_led : (target : Schema) (carried : List Assign) (free : List ℕ) (s : ℕ) (tree : Join) (list : List Assign) (columns : List ColId) → list ≡ map (led tree) carried → columns ≡ join_columns target tree → values_from target (scalars_at tree list) (new_label free s) 0 (first_columns tree [] columns) ≡ insert_values target carried free s tree
values_led target carried free s tree list columns e d =
    ap (λ xs. values_from target (scalars_at tree xs) (new_label free s) 0 (first_columns tree [] columns)) e
    ∙ ap (λ cs. values_from target (scalars_at tree (map (led tree) carried)) (new_label free s) 0 (first_columns tree [] cs)) d
    ∙ values-agree target (scalars_at tree (map (led tree) carried)) (scalars_for tree carried) (new_label free s) 0 (first_columns tree [] (join_columns target tree)) (λ c. scalars-led tree c carried)
