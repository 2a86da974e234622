-- What a chooser keeps: the clauses of its holes and blocks.
use Rattle.std.specs.Prelude.{◌≡◌, ◌+◌, ◌<◌, ◌^◌, All}
use Rattle.mig_complete.specs.declared.chooser.Chooser.TheInside.{Inside}
use Rattle.mig_complete.specs.declared.blocks.Block.{Block}
use Rattle.mig_sketch.specs.Choices.{total}
use Rattle.mig_complete.specs.Covering.{Choices, IsInSizes}
use Rattle.mig_complete.specs.Coding.{clauses_of}

-- a chooser as its contracts see it
abbrev pub choices_of : Inside → Choices
choices_of a = record { sizes = a.sizes; blocks = a.blocks.items }

-- the clauses are those of the holes and the blocks, over a variable and a helper for each option
pub record IsCoded (a : Inside) : Type 0 where
  pub small : total a.sizes < 2 ^ 31
  pub picks : All (λ (b : Block). All (IsInSizes a.sizes) b.picks) a.blocks.items
  pub vars : a.cnf.vars ≡ total a.sizes + total a.sizes
  pub clauses : a.cnf.clauses ≡ clauses_of a.sizes a.blocks.items
