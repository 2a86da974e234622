-- A statement that is there is looked at as a piece, and past the end nothing is broken.
use Rattle.std.proofs.Common.{◌≡◌, Bool, false, [], ◌∷◌, map, refl, sym, ap, ◌∙◌, subst}
use Rattle.std.specs.Prelude.{Option, Some, None}
use Rattle.std.specs.Option.{option_map, option_map_or}
use Rattle.std.proofs.lemmas.Option.{slice_get-map}
use Rattle.mig_schema.specs.declared.faults.ProgramRule.{ProgramRule}
use Rattle.mig_schema.specs.Typed.{Piece, piece_of}
use Rattle.mig_typing.specs.First.{IsFirst}
use Rattle.mig_typing.specs.Broken.{program_rank, piece_broken}
use Rattle.mig_typing.proofs.programs.first_at.Goals as goal

pub returns-in-Some : goal.returns-in-Some
returns-in-Some c =
    subst (λ (o : Option Piece). IsFirst (λ (r : ProgramRule). program_rank r ∷ []) (λ r. option_map_or (piece_broken c.args.schema.now c.args.function.now r) o false) c.first_rule.result)
    (ap Some c.piece_of-piece.ensures ∙ ap (option_map piece_of) c.in-Some.ensures.value ∙ sym (slice_get-map piece_of c.args.stmts.now c.args.k))
    c.first_rule.ensures

pub returns-in-None : goal.returns-in-None
returns-in-None c =
    subst (λ (o : Option Piece). IsFirst (λ (r : ProgramRule). program_rank r ∷ []) (λ r. option_map_or (piece_broken c.args.schema.now c.args.function.now r) o false) None)
    (ap (option_map piece_of) c.in-None.ensures.value ∙ sym (slice_get-map piece_of c.args.stmts.now c.args.k))
    (λ r. refl)
