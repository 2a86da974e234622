-- Old columns written as their images in a tree.
use Rattle.std.specs.Prelude.{cond, List, [], ◌∷◌, map}
use Rattle.mig_schema.specs.Joins.{tables_of, is_among}
use Rattle.mig_schema.specs.declared.programs.Cmp.{Cmp}
use Rattle.mig_schema.specs.declared.programs.Cond.{Cond}
use Rattle.mig_schema.specs.declared.programs.Item.{Item}
use Rattle.mig_schema.specs.declared.programs.Item.TheVariants as item
use Rattle.mig_schema.specs.declared.programs.Join.{Join}
use Rattle.mig_schema.specs.declared.tables.ColId.{ColId}
use Rattle.mig_schema.specs.declared.tables.Schema.{Schema}
use Rattle.mig_invariant.specs.declared.corresp.Corr.{Corr}
use Rattle.mig_invariant.specs.Images.{images}

-- the first of a column's images whose table is in the tree; the column itself where none is
abbrev pub image_among : List ColId → Join → ColId → ColId
image_among [] tree c = c
image_among (d ∷ ds) tree c = cond (is_among d.table (tables_of tree)) d (image_among ds tree c)

-- the image of an old column in a tree: the first in schema order
abbrev pub image : Schema → Corr → Join → ColId → ColId
image target corr tree c = image_among (images target corr c) tree c

abbrev pub item_by : (ColId → ColId) → Item → Item
item_by f (item.Col c) = item.Col (f c)
item_by f (item.Scalar x) = item.Scalar x

abbrev pub cmp_by : (ColId → ColId) → Cmp → Cmp
cmp_by f x = record { op = x.op; left = item_by f x.left; right = item_by f x.right }

-- a condition with each column written as f says; scalars stay
abbrev pub condition_by : (ColId → ColId) → Cond → Cond
condition_by f test = record { cases = map (λ case. map (cmp_by f) case) test.cases }
