use Rattle.std.proofs.Common.{◌≡◌, ◌<◌, Bool, true, false, cond, length, take, get_or, Some, None, sym, ap, ◌∙◌, arith}
use Rattle.std.proofs.lemmas.Option.{slice_get-get_or}
use Rattle.std.proofs.lemmas.List.{take_all}
use Rattle.mig_dimacs.specs.declared.token.Token.TheVariants.{Problem}
use Rattle.mig_dimacs.specs.Texts.{tokens_of}
use Rattle.mig_dimacs.specs.Reading.{fresh}
use Rattle.mig_dimacs.proofs.Running.{run}
use Rattle.mig_dimacs.proofs.Reaching.{goes_on, begins_none, begins_some, spells_all}
use Rattle.mig_dimacs.proofs.reading.read_pieces.Goals as goal

pub returns-then-not-branch-clause-refused : goal.returns-then-not-branch-clause-refused
returns-then-not-branch-clause-refused c =
    let lt : c.loop-piece.piece-index < length c.args.pieces.now = omega (arith, c.loop-piece-test.true, c.loop-piece.auto) in
    let no : c.in_ok-take.field-0 ≡ false = grind (arith, c.if-not-branch.true) in
    record {
      place = c.loop-piece.piece-index;
      token = (get_or c.args.pieces.now c.loop-piece.piece-index (record { line = 0; token = Problem })).token;
      here = slice_get-get_or c.args.pieces.now c.loop-piece.piece-index (record { line = 0; token = Problem }) lt;
      before = begins_some c.args.weighted _ c.loop-piece.reader c.loop-piece.invariant;
      refused = begins_none c.args.weighted _ (goes_on c.args.weighted c.args.pieces.now c.loop-piece.piece-index (record { line = 0; token = Problem }) c.loop-piece.reader None lt c.loop-piece.invariant
          (ap (λ (b : Bool). cond b (Some c.take.new.self) None) (sym no) ∙ c.in_ok-take.ensures));
    }

pub loop-piece-preserved : goal.loop-piece-preserved
loop-piece-preserved c =
    let lt : c.loop-piece.piece-index < length c.args.pieces.now = omega (arith, c.loop-piece-test.true, c.loop-piece.auto) in
    let yes : c.in_ok-take.field-0 ≡ true = grind (arith, c.if-not-branch.false) in
    goes_on c.args.weighted c.args.pieces.now c.loop-piece.piece-index (record { line = 0; token = Problem }) c.loop-piece.reader (Some c.take.new.self) lt c.loop-piece.invariant
    (ap (λ (b : Bool). cond b (Some c.take.new.self) None) (sym yes) ∙ c.in_ok-take.ensures)

pub returns-in-Some-clause-found : goal.returns-in-Some-clause-found
returns-in-Some-clause-found c =
    let all : take c.loop-piece.piece-index c.args.pieces.now ≡ c.args.pieces.now = take_all _ _ (omega (arith, c.loop-piece-test.false, c.loop-piece.auto)) in
    spells_all c.args.weighted c.args.pieces.now c.loop-piece.reader c.in-Some.text (ap (λ ps. run (tokens_of ps) (Some (fresh c.args.weighted))) (sym all) ∙ c.loop-piece.invariant) c.in-Some.ensures.some.0 c.in-Some.ensures.some.1
