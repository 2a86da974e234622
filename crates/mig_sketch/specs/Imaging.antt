-- Columns with their images, as the functions keep them.
use Rattle.std.specs.Prelude.{List, [], ◌∷◌, cond, map}
use Rattle.std.specs.List.{flat_map}
use Rattle.mig_schema.specs.Columns.{same_col}
use Rattle.mig_schema.specs.declared.programs.Assign.{Assign}
use Rattle.mig_schema.specs.declared.programs.Join.{Join}
use Rattle.mig_schema.specs.declared.tables.ColId.{ColId}
use Rattle.mig_invariant.specs.declared.corresp.Corr.{Corr}
use Rattle.mig_invariant.specs.Images.{images_among}
use Rattle.mig_sketch.specs.declared.images.Imaged.{Imaged}
use Rattle.mig_sketch.specs.Moved.{image_among}
use Rattle.mig_sketch.specs.Values.{given_to}

-- a column with its images among these
abbrev pub imaged : List ColId → Corr → ColId → Imaged
imaged targets corr c = record { source = c; images = images_among targets corr c }

-- the images of each
abbrev pub image_sets : List Imaged → List (List ColId)
image_sets list = map (λ (i : Imaged). i.images) list

-- what is written for a column in a tree; the column itself where it is not listed
abbrev pub looked : List Imaged → Join → ColId → ColId
looked [] tree c = c
looked (i ∷ is) tree c = cond (same_col i.source c) (image_among i.images tree c) (looked is tree c)

-- a set for each image of one
abbrev pub single_sets : Imaged → List (List ColId)
single_sets i = map (λ d. d ∷ []) i.images

-- what the old insert gives to the images of one
abbrev pub carried_to : Join → List Assign → Imaged → List Assign
carried_to old values i = flat_map (given_to old i.images i.source) values
