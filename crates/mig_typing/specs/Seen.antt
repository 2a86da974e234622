-- What the rules look at in a statement or a query, as the code holds it.
use Rattle.std.specs.Prelude.{List, [], ◌∷◌}
use Rattle.std.specs.List.{flat_map}
use Rattle.mig_schema.specs.declared.programs.Assign.{Assign}
use Rattle.mig_schema.specs.Typed as typing
use Rattle.mig_typing.specs.declared.pieces.Written.{Written}
use Rattle.mig_typing.specs.declared.pieces.Written.TheVariants.{Values, Set}
use Rattle.mig_typing.specs.declared.pieces.Piece.{Piece}

-- the values that are written
abbrev pub assigns : Written → List Assign
assigns (Values values) = values.now
assigns (Set column value) = record { column = column; value = value.now } ∷ []

-- the piece that is held
abbrev pub seen : Piece → typing.Piece
seen p = record { join = p.join.now; listed = p.listed.now; selected = p.selected.now; written = assigns p.written; compared = flat_map (λ case. case) p.cases.now; inserts = p.inserts }
