-- The values of an insert over a tree are typed: each class has one, of its kind.
use Rattle.std.proofs.Common.{◌≡◌, ◌⊎◌, ℕ, ◌+◌, ◌*◌, ◌<◌, ◌≤◌, Bool, true, false, not, cond, List, [], ◌∷◌, ◌++◌, map, length, refl, sym, ap, ap₂, ◌∙◌, subst, inl, inr, arith}
use Rattle.std.specs.Prelude.{◌==◌, nat_le, nat_lt, filter, Option, Some, None, option_map, slice_get}
use Rattle.std.specs.List.{list_any, list_all, flat_map, count_by}
use Rattle.std.specs.Option.{option_and_then}
use Rattle.std.proofs.lemmas.Bool.{cases_Bool, eq-eqb, ltb-true}
use Rattle.std.proofs.lemmas.List.{length-append, length-map}
use Rattle.std.proofs.lemmas.List.Sums.{sum_by-cons}
use Rattle.std.proofs.lemmas.Option.{same_Some, none-some}
use Rattle.mig_listing.specs.Listing.{IsIn}
use Rattle.mig_listing.proofs.Members.{in_append, in_append_left, in_filter, in_flat_map, in_map, from_map}
use Rattle.mig_schema.specs.Columns.{columns_of, columns_in, table_at, no_table, has_column, kind_of, same_kind}
use Rattle.mig_schema.specs.Joins.{tables_of, is_among, join_columns, in_one_class, all_join_on}
use Rattle.mig_schema.specs.Typed.{IsTypedPiece, piece_of, scalar_kind, names_no_param, scalars_of, used_columns, values_for}
use Rattle.mig_schema.specs.Within.{IsPieceWithin, FitsScalar}
use Rattle.mig_schema.specs.declared.jobs.Job.{Job}
use Rattle.mig_schema.specs.declared.programs.Assign.{Assign}
use Rattle.mig_schema.specs.declared.programs.Function.{Function}
use Rattle.mig_schema.specs.declared.programs.Join.{Join}
use Rattle.mig_schema.specs.declared.programs.Joined.{Joined}
use Rattle.mig_schema.specs.declared.programs.Scalar.{Scalar}
use Rattle.mig_schema.specs.declared.programs.Scalar.TheVariants as scalar
use Rattle.mig_schema.specs.declared.programs.Stmt.TheVariants.{Insert}
use Rattle.mig_schema.specs.declared.tables.ColId.{ColId}
use Rattle.mig_schema.specs.declared.tables.Column.{Column}
use Rattle.mig_schema.specs.declared.tables.Schema.{Schema}
use Rattle.mig_schema.specs.declared.tables.Table.{Table}
use Rattle.mig_trees.specs.Listed.{IsListedJoin}
use Rattle.mig_trees.proofs.Within.{all_to}
use Rattle.mig_invariant.specs.declared.corresp.Corr.{Corr}
use Rattle.mig_invariant.specs.Columns.{is_key}
use Rattle.mig_invariant.specs.Images.{images}
use Rattle.mig_sketch.specs.Completed.{keeps_kinds, has_columns, IsKeptValue}
use Rattle.mig_sketch.specs.Labels.{new_label}
use Rattle.mig_sketch.specs.Values.{for_each, given_to, carried, same_scalar, first_columns, scalars_for, class_value, taken_after, values_from, insert_values}
use Rattle.mig_sketch.proofs.ClassKinds.{class-kind}
use Rattle.mig_sketch.proofs.FirstOnes.{first_once, first_in}
use Rattle.mig_sketch.proofs.Pieces.{piece_typed}
use Rattle.mig_sketch.proofs.Placed.{image_is, column_joined}
use Rattle.mig_sketch.proofs.Smalls.{length-numbered}
use Rattle.mig_sketch.proofs.Tests.{slice_in, read_in, none_from, none_to, not_true, true_again, or_left_false, or_false, each_from, each_to}

-- ---- the value of a class

-- it is one of the class's scalars, or the label of a class of kind key
class_scalar : (key : Bool) (label : Option ℕ) (xs : List Scalar) (x : Scalar) → class_value key label xs ≡ Some x → IsIn x xs ⊎ ((n : ℕ) × (label ≡ Some n) × (x ≡ scalar.Fresh n) × (key ≡ true))
class_scalar true None [] x e = absurd (none-some x e)
class_scalar true (Some n) [] x e = inr (n, refl, sym (same_Some (scalar.Fresh n) x e), refl)
class_scalar false label [] x e = absurd (none-some x e)
class_scalar key label (y ∷ ys) x e = go (list_all (same_scalar y) ys) e
  where
    go : (b : Bool) → cond b (Some y) None ≡ Some x → IsIn x (y ∷ ys) ⊎ ((n : ℕ) × (label ≡ Some n) × (x ≡ scalar.Fresh n) × (key ≡ true))
    go true h = inl (inl (sym (same_Some y x h)))
    go false h = absurd (none-some x h)

module _ (target : Schema) (scalars : ColId → List Scalar) (label : ℕ → Option ℕ) where
  -- each value is that of its column's class, under some number of a label
  abbrev IsOwn : Assign → Type 0
  IsOwn a = (k : ℕ) × (class_value (is_key target a.column) (label k) (scalars a.column) ≡ Some a.value)

  -- the values stand at these columns, one by one
  values_are : (i : ℕ) (ds : List ColId) (given : List Assign) → values_from target scalars label i ds ≡ Some given → (map (λ (a : Assign). a.column) given ≡ ds) × ((a : Assign) → IsIn a given → IsOwn a)
  values_are i [] given e = subst (λ (xs : List Assign). (map (λ (a : Assign). a.column) xs ≡ []) × ((a : Assign) → IsIn a xs → IsOwn a)) (same_Some [] given e) (refl, λ a h. absurd h)
  values_are i (d ∷ ds) given e = go (class_value (is_key target d) (label i) (scalars d)) refl (values_from target scalars label (taken_after i (scalars d)) ds) (λ rest. values_are (taken_after i (scalars d)) ds rest) e
    where
      go : (v : Option Scalar) → class_value (is_key target d) (label i) (scalars d) ≡ v → (w : Option (List Assign)) → ((rest : List Assign) → w ≡ Some rest → (map (λ (a : Assign). a.column) rest ≡ ds) × ((a : Assign) → IsIn a rest → IsOwn a))
          → option_and_then (λ x. option_map (λ rest. record { column = d; value = x } ∷ rest) w) v ≡ Some given
          → (map (λ (a : Assign). a.column) given ≡ d ∷ ds) × ((a : Assign) → IsIn a given → IsOwn a)
      go None is w more h = absurd (none-some given h)
      go (Some x) is None more h = absurd (none-some given h)
      go (Some x) is (Some rest) more h =
          let tail = more rest refl in
          subst (λ (xs : List Assign). (map (λ (a : Assign). a.column) xs ≡ d ∷ ds) × ((a : Assign) → IsIn a xs → IsOwn a)) (same_Some (record { column = d; value = x } ∷ rest) given h)
          (ap (λ cs. d ∷ cs) tail.0, λ a j. elim j [ inl same ↦ subst IsOwn (sym same) (i, is) | inr k ↦ tail.1 a k ])

-- ---- the first columns

first-some : (j : Join) (cs : List ColId) → 0 < length cs → 0 < length (first_columns j [] cs)
first-some j [] lt = lt
first-some j (c ∷ cs) lt = omega arith

times-map : (j : Join) (c : ColId) (given : List Assign) → count_by (λ (a : Assign). in_one_class j a.column c) given ≡ count_by (λ d. in_one_class j d c) (map (λ (a : Assign). a.column) given)
times-map j c [] = refl
times-map j c (a ∷ given) =
    sum_by-cons (λ (b : Assign). cond (in_one_class j b.column c) 1 0) a given
    ∙ ap (λ n. cond (in_one_class j a.column c) 1 0 + n) (times-map j c given)
    ∙ sym (sum_by-cons (λ d. cond (in_one_class j d c) 1 0) a.column (map (λ (b : Assign). b.column) given))

module _ (job : Job) (corr : Corr) (kinds : keeps_kinds job corr ≡ true) (f : Function) (old : Join) (values : List Assign) (typed : IsTypedPiece job.source f (piece_of (Insert old values)))
    (need : List (List ColId)) (tree : Join) (listed : IsListedJoin job.target need tree) (free : List ℕ) (low : (n : ℕ) → IsIn n free → n ≤ 15) (s : ℕ)
    (given : List Assign) (is : insert_values job.target (carried job corr old values) free s tree ≡ Some given) where
  -- a scalar that the old insert gives to a class of the tree is one of its values, and of the class's kind
  from_carried : (d : ColId) (x : Scalar) → IsIn x (scalars_for tree (carried job corr old values) d) → (a : Assign) × IsIn a values × (x ≡ a.value) × (kind_of job.target d ≡ kind_of job.source a.column)
  from_carried d x i =
      let at = in_map (λ (b : Assign). b.value) (filter (λ (b : Assign). in_one_class tree d b.column) (carried job corr old values)) x i in
      let led = in_filter (λ (b : Assign). in_one_class tree d b.column) (carried job corr old values) at.0 at.1 in
      let of = in_flat_map (λ c. flat_map (given_to old (images job.target corr c) c) values) (join_columns job.source old) at.0 led.0 in
      let by = in_flat_map (given_to old (images job.target corr of.0) of.0) values at.0 of.2 in
      go at.0 of.0 by.0 by.1 at.2 led.1 (cases_Bool (in_one_class old (by.0).column of.0)) by.2
    where
      go : (b : Assign) (c : ColId) (a : Assign) → IsIn a values → x ≡ b.value → in_one_class tree d b.column ≡ true → (in_one_class old a.column c ≡ true) ⊎ (in_one_class old a.column c ≡ false) → IsIn b (given_to old (images job.target corr c) c a)
          → (a : Assign) × IsIn a values × (x ≡ a.value) × (kind_of job.target d ≡ kind_of job.source a.column)
      go b c a from e new (inl t) h =
          let one = in_map (λ (y : ColId). record { column = y; value = a.value }) (images job.target corr c) b (subst (λ t. IsIn b (cond t (for_each (images job.target corr c) a.value) [])) t h) in (
            a,
            from,
            e ∙ ap (λ (y : Assign). y.value) one.2,
            class-kind job.target tree d b.column listed.shaped new
                ∙ ap (λ (y : Assign). kind_of job.target y.column) one.2
                ∙ (image_is job corr kinds c one.0 one.1).1
                ∙ sym (class-kind job.source old a.column c (true_again (all_join_on job.source (old.first ∷ []) old.more) typed.shape) t),
          )
      go b c a from e new (inr n) h = absurd (subst (λ t. IsIn b (cond t (for_each (images job.target corr c) a.value) [])) n h)

  own : (map (λ (a : Assign). a.column) given ≡ first_columns tree [] (join_columns job.target tree)) × ((a : Assign) → IsIn a given → IsOwn job.target (scalars_for tree (carried job corr old values)) (new_label free s) a)
  own = values_are job.target (scalars_for tree (carried job corr old values)) (new_label free s) 0 (first_columns tree [] (join_columns job.target tree)) given is

  -- ---- each value

  record IsRight (a : Assign) : Type 0 where
    placed : (has_column job.target a.column ≡ true) × (is_among a.column.table (tables_of tree) ≡ true)
    kind : same_kind (kind_of job.target a.column) (scalar_kind f a.value) ≡ true
    named : names_no_param f a.value ≡ false
    kept : IsKeptValue values a.value

  place : (a : Assign) → IsIn a given → (has_column job.target a.column ≡ true) × (is_among a.column.table (tables_of tree) ≡ true)
  place a i = column_joined job.target tree a.column listed.known (first_in tree [] (join_columns job.target tree) a.column (subst (λ ds. IsIn a.column ds) own.0 (from_map (λ (b : Assign). b.column) given a i)))

  -- a new label is one of those that the function does not use
  label_low : (k n : ℕ) → new_label free s k ≡ Some n → n ≤ 15
  label_low k n e = go (nat_le k 3) e
    where
      go : (b : Bool) → cond b (slice_get free (4 * s + k)) None ≡ Some n → n ≤ 15
      go true h = low n (slice_in free (4 * s + k) n h)
      go false h = absurd (none-some n h)

  right : (a : Assign) → IsIn a given → IsRight a
  right a i =
      let by = own.1 a i in
      elim (class_scalar (is_key job.target a.column) (new_label free s by.0) (scalars_for tree (carried job corr old values) a.column) a.value by.1) [
        | inl j ↦
            let b = from_carried a.column a.value j in
            let one = true_again (same_kind (kind_of job.source (b.0).column) (scalar_kind f (b.0).value)) (none_to (λ (v : Assign). not (same_kind (kind_of job.source v.column) (scalar_kind f v.value))) values b.0 (or_left_false (list_any (λ (v : Assign). not (same_kind (kind_of job.source v.column) (scalar_kind f v.value))) values) false typed.kinds) b.1) in
            let among = from_map (λ (v : Assign). v.value) values b.0 b.1 in
            record {
              placed = place a i;
              kind = ap₂ (λ k x. same_kind k (scalar_kind f x)) b.3 b.2 ∙ one;
              named = ap (names_no_param f) b.2 ∙ none_to (names_no_param f) (map (λ (v : Assign). v.value) values ++ []) (b.0).value typed.params (in_append_left (map (λ (v : Assign). v.value) values) [] (b.0).value among);
              kept = inl (subst (λ x. IsIn x (map (λ (v : Assign). v.value) values)) (sym b.2) among);
            }
        | inr n ↦ record {
          placed = place a i;
          kind = ap (λ x. same_kind (kind_of job.target a.column) (scalar_kind f x)) n.2 ∙ n.3;
          named = ap (names_no_param f) n.2;
          kept = inr (n.0, label_low by.0 n.0 n.1, n.2);
        }
      ]

  -- ---- the piece

  used : (d : ColId) → IsIn d (used_columns (piece_of (Insert tree given))) → (has_column job.target d ≡ true) × (is_among d.table (tables_of tree) ≡ true)
  used d i = elim (in_append (map (λ (a : Assign). a.column) given) [] d i) [
    | inl j ↦
        let of = in_map (λ (a : Assign). a.column) given d j in
        subst (λ (c : ColId). (has_column job.target c ≡ true) × (is_among c.table (tables_of tree) ≡ true)) (sym of.2) (place of.0 of.1)
    | inr z ↦ absurd z
  ]

  -- each class has one value
  covered : (c : ColId) → IsIn c (join_columns job.target tree) → (values_for (piece_of (Insert tree given)) c == 1) ≡ true
  covered c i = eq-eqb (values_for (piece_of (Insert tree given)) c) 1 (times-map tree c given ∙ ap (count_by (λ d. in_one_class tree d c)) own.0 ∙ first_once tree (join_columns job.target tree) c i)

  scalars : (x : Scalar) → IsIn x (scalars_of (piece_of (Insert tree given))) → (a : Assign) × IsIn a given × (x ≡ a.value)
  scalars x i = elim (in_append (map (λ (a : Assign). a.value) given) [] x i) [ inl j ↦ in_map (λ (a : Assign). a.value) given x j | inr z ↦ absurd z ]

  pub insert_typed : IsTypedPiece job.target f (piece_of (Insert tree given))
  insert_typed = piece_typed job.target f need (piece_of (Insert tree given)) listed used (λ t z. absurd z) refl
      (none_from (names_no_param f) (scalars_of (piece_of (Insert tree given))) (λ x i. let of = scalars x i in ap (names_no_param f) of.2 ∙ (right of.0 of.1).named))
      (or_false (list_any (λ (a : Assign). not (same_kind (kind_of job.target a.column) (scalar_kind f a.value))) given) false (none_from (λ (a : Assign). not (same_kind (kind_of job.target a.column) (scalar_kind f a.value))) given (λ a i. not_true (same_kind (kind_of job.target a.column) (scalar_kind f a.value)) (right a i).kind)) refl)
      refl
      (none_from (λ c. not (values_for (piece_of (Insert tree given)) c == 1)) (join_columns job.target tree) (λ c i. not_true (values_for (piece_of (Insert tree given)) c == 1) (covered c i)))

  pub insert_kept : (a : Assign) → IsIn a given → IsKeptValue values a.value
  insert_kept a i = (right a i).kept

  fits : IsPieceWithin (piece_of (Insert old values)) → (x : Scalar) → IsKeptValue values x → FitsScalar x
  fits w x k = elim k [
    | inl i ↦ each_to FitsScalar (map (λ (v : Assign). v.value) values ++ []) x w.scalars (in_append_left (map (λ (v : Assign). v.value) values) [] x i)
    | inr n ↦ subst FitsScalar (sym n.2) n.1
  ]

  pub insert_within : IsPieceWithin (piece_of (Insert old values)) → IsPieceWithin (piece_of (Insert tree given))
  insert_within w = record {
    joined = listed.few;
    selected = omega arith;
    compared = omega arith;
    scalars = each_from FitsScalar (scalars_of (piece_of (Insert tree given))) (λ x i. let of = scalars x i in subst FitsScalar (sym of.2) (fits w (of.0).value (right of.0 of.1).kept));
  }

  -- there is a value where each new table has a column
  pub insert_some : has_columns job.target ≡ true → 0 < length given
  insert_some columns =
      let first = listed.known tree.first (inl refl) in
      let lt = ltb-true tree.first (length job.target.tables) first in
      let some = ltb-true 0 (length (columns_of job.target tree.first)) (all_to (λ (t : Table). nat_lt 0 (length t.columns)) job.target.tables (table_at job.target tree.first) columns (read_in job.target.tables tree.first no_table lt)) in
      let here = length-numbered {B = ColId} (λ n (c : Column). record { table = tree.first; column = n }) 0 (columns_of job.target tree.first) in
      let both = length-append (columns_in job.target tree.first) (flat_map (columns_in job.target) (map (λ (m : Joined). m.table) tree.more)) in
      let all = first-some tree (join_columns job.target tree) (omega (arith, some, here, both)) in
      let size = length-map given (λ (a : Assign). a.column) in
      let same = ap (λ (ds : List ColId). length ds) own.0 in
      omega (arith, all, size, same)
