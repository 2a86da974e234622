-- Conditions whose columns are written alike, and columns that are listed with their images.
use Rattle.std.proofs.Common.{◌≡◌, ◌⊎◌, true, false, List, [], ◌∷◌, ◌++◌, map, cond, refl, ap, ap₂, ◌∙◌, inl, inr}
use Rattle.std.specs.Prelude.{◌==◌}
use Rattle.std.specs.List.{flat_map}
use Rattle.std.proofs.lemmas.Bool.{cases_Bool, and_parts, both_ways, eqb-true, eq-eqb, and_from}
use Rattle.mig_schema.specs.Columns.{same_col}
use Rattle.mig_schema.specs.Typed.{item_columns}
use Rattle.mig_schema.specs.declared.programs.Cmp.{Cmp}
use Rattle.mig_schema.specs.declared.programs.Cond.{Cond}
use Rattle.mig_schema.specs.declared.programs.Item.{Item}
use Rattle.mig_schema.specs.declared.programs.Item.TheVariants as item
use Rattle.mig_schema.specs.declared.programs.Join.{Join}
use Rattle.mig_schema.specs.declared.tables.ColId.{ColId}
use Rattle.mig_schema.specs.declared.tables.Schema.{Schema}
use Rattle.mig_listing.specs.Listing.{IsIn}
use Rattle.mig_listing.proofs.Members.{in_append_left, in_append_right}
use Rattle.mig_invariant.specs.declared.corresp.Corr.{Corr}
use Rattle.mig_invariant.specs.Columns.{all_columns}
use Rattle.mig_invariant.specs.Images.{images}
use Rattle.mig_sketch.specs.Imaging.{imaged, image_sets, looked}
use Rattle.mig_sketch.specs.Moved.{image, image_among, item_by, cmp_by, condition_by}
use Rattle.mig_sketch.specs.Needs.{case_columns, condition_columns}

-- columns with equal numbers are one
pub same-column : (a b : ColId) → same_col a b ≡ true → a ≡ b
same-column a b h =
    let k = and_parts (a.table == b.table) (a.column == b.column) h in
    ap₂ (λ t c. record { table = t; column = c }) (eqb-true a.table b.table k.0) (eqb-true a.column b.column k.1)

-- a column is one with itself
pub own-column : (a : ColId) → same_col a a ≡ true
own-column a = and_from (a.table == a.table) (a.column == a.column) (eq-eqb a.table a.table refl) (eq-eqb a.column a.column refl)

-- ---- columns that are written alike

pub map-agree : {A : Type 0} (f g : ColId → A) (cs : List ColId) → ((c : ColId) → IsIn c cs → f c ≡ g c) → map f cs ≡ map g cs
map-agree f g [] same = refl
map-agree f g (c ∷ cs) same = ap₂ (λ d ds. d ∷ ds) (same c (inl refl)) (map-agree f g cs (λ d i. same d (inr i)))

item-agree : (f g : ColId → ColId) (x : Item) → ((c : ColId) → IsIn c (item_columns x) → f c ≡ g c) → item_by f x ≡ item_by g x
item-agree f g (item.Col c) same = ap (λ d. item.Col d) (same c (inl refl))
item-agree f g (item.Scalar v) same = refl

case-agree : (f g : ColId → ColId) (cmps : List Cmp) → ((c : ColId) → IsIn c (case_columns cmps) → f c ≡ g c) → map (cmp_by f) cmps ≡ map (cmp_by g) cmps
case-agree f g [] same = refl
case-agree f g (x ∷ xs) same =
    let here = item_columns x.left ++ item_columns x.right in
    let left = item-agree f g x.left (λ c i. same c (in_append_left here (case_columns xs) c (in_append_left (item_columns x.left) (item_columns x.right) c i))) in
    let right = item-agree f g x.right (λ c i. same c (in_append_left here (case_columns xs) c (in_append_right (item_columns x.left) (item_columns x.right) c i))) in
    let first : cmp_by f x ≡ cmp_by g x = ap₂ (λ a b. record { op = x.op; left = a; right = b }) left right in
    ap₂ (λ y ys. y ∷ ys) first (case-agree f g xs (λ c i. same c (in_append_right here (case_columns xs) c i)))

cases-agree : (f g : ColId → ColId) (cases : List (List Cmp)) → ((c : ColId) → IsIn c (flat_map case_columns cases) → f c ≡ g c) → map (λ case. map (cmp_by f) case) cases ≡ map (λ case. map (cmp_by g) case) cases
cases-agree f g [] same = refl
cases-agree f g (x ∷ xs) same = ap₂ (λ y ys. y ∷ ys)
    (case-agree f g x (λ c i. same c (in_append_left (case_columns x) (flat_map case_columns xs) c i)))
    (cases-agree f g xs (λ c i. same c (in_append_right (case_columns x) (flat_map case_columns xs) c i)))

-- a condition is written alike where its columns are
pub condition-agree : (f g : ColId → ColId) (test : Cond) → ((c : ColId) → IsIn c (condition_columns test) → f c ≡ g c) → condition_by f test ≡ condition_by g test
condition-agree f g test same = ap (λ cases. record { cases = cases }) (cases-agree f g test.cases same)

-- lists that are made alike
pub flat_map-agree : {A B : Type 0} (f g : A → List B) (xs : List A) → ((x : A) → f x ≡ g x) → flat_map f xs ≡ flat_map g xs
flat_map-agree f g [] same = refl
flat_map-agree f g (x ∷ xs) same = ap₂ (λ y ys. y ++ ys) (same x) (flat_map-agree f g xs same)

-- ---- columns with their images

module _ (target : Schema) (corr : Corr) where
  -- the images of listed columns
  pub images_listed : (cs : List ColId) → image_sets (map (imaged (all_columns target) corr) cs) ≡ map (images target corr) cs
  images_listed [] = refl
  images_listed (c ∷ cs) = ap (λ ds. images target corr c ∷ ds) (images_listed cs)

  -- a listed column is written as its image
  pub looked_image : (cs : List ColId) (tree : Join) (c : ColId) → IsIn c cs → looked (map (imaged (all_columns target) corr) cs) tree c ≡ image target corr tree c
  looked_image [] tree c h = absurd h
  looked_image (x ∷ xs) tree c h = go (cases_Bool (same_col x c)) h (looked_image xs tree c)
    where
      go : (same_col x c ≡ true) ⊎ (same_col x c ≡ false) → (c ≡ x) ⊎ IsIn c xs → (IsIn c xs → looked (map (imaged (all_columns target) corr) xs) tree c ≡ image target corr tree c) → looked (map (imaged (all_columns target) corr) (x ∷ xs)) tree c ≡ image target corr tree c
      go (inl t) k ih =
          ap (λ b. cond b (image_among (images target corr x) tree c) (looked (map (imaged (all_columns target) corr) xs) tree c)) t
          ∙ ap (λ d. image_among (images target corr d) tree c) (same-column x c t)
      go (inr f) (inl e) ih = absurd (both_ways (same_col x c) f (ap (λ d. same_col x d) e ∙ own-column x))
      go (inr f) (inr i) ih =
          ap (λ b. cond b (image_among (images target corr x) tree c) (looked (map (imaged (all_columns target) corr) xs) tree c)) f
          ∙ ih i
