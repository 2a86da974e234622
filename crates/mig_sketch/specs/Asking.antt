-- Trees that were asked for.
use Rattle.mig_schema.specs.declared.tables.Schema.{Schema}
use Rattle.mig_trees.specs.Answer.{AreTrees}
use Rattle.mig_sketch.specs.declared.asking.Asked.{Asked}

-- the trees are those that serve the need
abbrev pub IsRight : Schema → Asked → Type 0
IsRight target a = AreTrees target a.need.sets a.trees.joins
