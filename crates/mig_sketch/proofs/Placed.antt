-- Where images stand, and of what kind they are.
use Rattle.std.proofs.Common.{◌≡◌, ◌⊎◌, ℕ, ◌+◌, ◌<◌, ◌≤◌, true, false, cond, List, [], ◌∷◌, length, refl, sym, ap, ◌∙◌, subst, inl, inr, arith}
use Rattle.std.specs.Prelude.{◌&&◌, nat_lt}
use Rattle.std.specs.List.{range_with_len}
use Rattle.std.proofs.lemmas.Bool.{cases_Bool, and_parts, and_from, both_ways, lt-ltb}
use Rattle.mig_base.specs.Lists.{numbered}
use Rattle.mig_listing.specs.Listing.{IsIn}
use Rattle.mig_listing.proofs.Members.{in_filter, in_flat_map}
use Rattle.mig_schema.specs.Columns.{columns_of, columns_in, has_table, has_column, kind_of, same_col, same_kind}
use Rattle.mig_schema.specs.Joins.{tables_of, is_among, join_columns}
use Rattle.mig_schema.specs.declared.jobs.Job.{Job}
use Rattle.mig_schema.specs.declared.programs.Join.{Join}
use Rattle.mig_schema.specs.declared.tables.ColId.{ColId}
use Rattle.mig_schema.specs.declared.tables.Column.{Column}
use Rattle.mig_schema.specs.declared.tables.Kind.{Kind}
use Rattle.mig_schema.specs.declared.tables.Kind.TheVariants as kind
use Rattle.mig_schema.specs.declared.tables.Schema.{Schema}
use Rattle.mig_trees.specs.Trees.{Serves}
use Rattle.mig_trees.proofs.Reach.{among_from}
use Rattle.mig_trees.proofs.Within.{all_to, any_to}
use Rattle.mig_invariant.specs.declared.corresp.ColPair.{ColPair}
use Rattle.mig_invariant.specs.declared.corresp.Corr.{Corr}
use Rattle.mig_invariant.specs.Columns.{all_columns}
use Rattle.mig_invariant.specs.Images.{is_pair, images}
use Rattle.mig_sketch.specs.Completed.{keeps_kinds}
use Rattle.mig_sketch.specs.Moved.{image, image_among}
use Rattle.mig_sketch.proofs.Agreeing.{same-column}
use Rattle.mig_sketch.proofs.Tests.{in_range}

-- ---- kinds

pub one_kind : (a b : Kind) → same_kind a b ≡ true → a ≡ b
one_kind kind.Int kind.Int e = refl
one_kind kind.Text kind.Text e = refl
one_kind kind.Key kind.Key e = refl
one_kind kind.Int kind.Text e = absurd (both_ways false refl e)
one_kind kind.Int kind.Key e = absurd (both_ways false refl e)
one_kind kind.Text kind.Int e = absurd (both_ways false refl e)
one_kind kind.Text kind.Key e = absurd (both_ways false refl e)
one_kind kind.Key kind.Int e = absurd (both_ways false refl e)
one_kind kind.Key kind.Text e = absurd (both_ways false refl e)

-- ---- columns of tables

in_columns : (t n : ℕ) (xs : List Column) (d : ColId) → IsIn d (numbered (λ k (c : Column). record { table = t; column = k }) n xs) → (d.table ≡ t) × (n ≤ d.column) × (d.column < n + length xs)
in_columns t n [] d i = absurd i
in_columns t n (x ∷ xs) d i = elim i [
  | inl e ↦ let k : d.column ≡ n = ap (λ (c : ColId). c.column) e in (ap (λ (c : ColId). c.table) e, omega (arith, k), omega (arith, k))
  | inr j ↦ let rest = in_columns t (n + 1) xs d j in (rest.0, omega (arith, rest.1), omega (arith, rest.2))
]

module _ (s : Schema) where
  -- a column of a table of the schema is one of the schema
  pub column_in : (t : ℕ) (d : ColId) → has_table s t ≡ true → IsIn d (columns_in s t) → (d.table ≡ t) × (has_column s d ≡ true)
  column_in t d known i =
      let h = in_columns t 0 (columns_of s t) d i in
      let lt = subst (λ n. d.column < length (columns_of s n)) (sym h.0) (omega (arith, h.2)) in
      (h.0, and_from (has_table s d.table) (nat_lt d.column (length (columns_of s d.table))) (ap (has_table s) h.0 ∙ known) (lt-ltb d.column (length (columns_of s d.table)) lt))

  pub column_of_all : (d : ColId) → IsIn d (all_columns s) → has_column s d ≡ true
  column_of_all d i =
      let h = in_flat_map (columns_in s) (range_with_len 0 (length s.tables)) d i in
      let lt = (in_range 0 (length s.tables) h.0 h.1).1 in
      (column_in h.0 d (lt-ltb h.0 (length s.tables) (omega (arith, lt))) h.2).1

  -- a column of a join's tables
  pub column_joined : (j : Join) (d : ColId) → ((t : ℕ) → IsIn t (tables_of j) → has_table s t ≡ true) → IsIn d (join_columns s j) → (has_column s d ≡ true) × (is_among d.table (tables_of j) ≡ true)
  column_joined j d known i =
      let h = in_flat_map (columns_in s) (tables_of j) d i in
      let c = column_in h.0 d (known h.0 h.1) h.2 in
      (c.1, among_from d.table (tables_of j) (subst (λ t. IsIn t (tables_of j)) (sym c.0) h.1))

-- ---- images

-- a new column stands in the tree, and is of an old column's kind
pub record IsAt (job : Job) (tree : Join) (c d : ColId) : Type 0 where
  pub known : has_column job.target d ≡ true
  pub joined : is_among d.table (tables_of tree) ≡ true
  pub kind : kind_of job.target d ≡ kind_of job.source c

module _ (job : Job) (corr : Corr) (kinds : keeps_kinds job corr ≡ true) where
  -- an image is a column of the new schema, of the old column's kind
  pub image_is : (c d : ColId) → IsIn d (images job.target corr c) → (has_column job.target d ≡ true) × (kind_of job.target d ≡ kind_of job.source c)
  image_is c d i =
      let h = in_filter (is_pair corr c) (all_columns job.target) d i in
      let pair = any_to (λ (p : ColPair). same_col p.source c && same_col p.target d) corr.pairs h.1 in
      let p = pair.0 in
      let ends = and_parts (same_col (pair.0).source c) (same_col (pair.0).target d) pair.2 in
      let one = one_kind (kind_of job.source (pair.0).source) (kind_of job.target (pair.0).target) (all_to (λ (q : ColPair). same_kind (kind_of job.source q.source) (kind_of job.target q.target)) corr.pairs pair.0 kinds pair.1) in (
        column_of_all job.target d h.0,
        ap (kind_of job.target) (sym (same-column (pair.0).target d ends.1)) ∙ sym one ∙ ap (kind_of job.source) (same-column (pair.0).source c ends.0),
      )

  module _ (tree : Join) where
    -- the first image in the tree is an image in the tree, where there is one
    first_image : (ds : List ColId) (c d : ColId) → IsIn d ds → is_among d.table (tables_of tree) ≡ true → IsIn (image_among ds tree c) ds × (is_among (image_among ds tree c).table (tables_of tree) ≡ true)
    first_image [] c d i e = absurd i
    first_image (x ∷ xs) c d i e = go (cases_Bool (is_among x.table (tables_of tree))) i (λ j. first_image xs c d j e)
      where
        go : (is_among x.table (tables_of tree) ≡ true) ⊎ (is_among x.table (tables_of tree) ≡ false) → (d ≡ x) ⊎ IsIn d xs → (IsIn d xs → IsIn (image_among xs tree c) xs × (is_among (image_among xs tree c).table (tables_of tree) ≡ true)) → IsIn (image_among (x ∷ xs) tree c) (x ∷ xs) × (is_among (image_among (x ∷ xs) tree c).table (tables_of tree) ≡ true)
        go (inl t) k rest = let same : image_among (x ∷ xs) tree c ≡ x = ap (λ b. cond b x (image_among xs tree c)) t in (inl same, ap (λ (y : ColId). is_among y.table (tables_of tree)) same ∙ t)
        go (inr f) (inl h) rest = absurd (both_ways (is_among x.table (tables_of tree)) f (ap (λ (y : ColId). is_among y.table (tables_of tree)) (sym h) ∙ e))
        go (inr f) (inr j) rest =
            let same : image_among (x ∷ xs) tree c ≡ image_among xs tree c = ap (λ b. cond b x (image_among xs tree c)) f in
            let r = rest j in
            (inr (subst (λ y. IsIn y xs) (sym same) r.0), ap (λ (y : ColId). is_among y.table (tables_of tree)) same ∙ r.1)

    -- where the tree serves the images of a column, its image stands in the tree
    pub image_at : (need : List (List ColId)) (c : ColId) → Serves need (tables_of tree) → IsIn (images job.target corr c) need → IsAt job tree c (image job.target corr tree c)
    image_at need c serves i =
        let one = serves (images job.target corr c) i in
        let first = first_image (images job.target corr c) c one.0 one.1 (among_from (one.0).table (tables_of tree) one.2) in
        let is = image_is c (image job.target corr tree c) first.0 in
        record { known = is.0; joined = first.1; kind = is.1 }
