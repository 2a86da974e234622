use Rattle.std.proofs.Common.{◌≡◌, List, length, get_or, ap, ◌∙◌, arith}
use Rattle.std.proofs.lemmas.Result.{IfOk-weaker}
use Rattle.mig_schema.specs.declared.programs.Query.{Query}
use Rattle.mig_sketch.specs.declared.plans.Part.{Part}
use Rattle.mig_sketch.specs.Filling.{picked_parts, query_of}
use Rattle.mig_sketch.proofs.Picked.{pick_at, query_found, stmt_skipped, other_skipped}
use Rattle.mig_sketch.proofs.filling.query_at.Goals as goal
use Rattle.mig_sketch.proofs.filling.query_at.Goals.{then-hole-function+in_default, else-hole-function}

pub bounds-picks-h : goal.bounds-picks-h
bounds-picks-h c = (pick_at c.args.holes.now c.args.picks.now c.loop-h.h c.index-holes-h.result c.requires c.loop-h-test.true c.index-holes-h.is).0

pub bounds-options-picks : goal.bounds-options-picks
bounds-options-picks c =
    let within = (pick_at c.args.holes.now c.args.picks.now c.loop-h.h c.index-holes-h.result c.requires c.loop-h-test.true c.index-holes-h.is).1 in
    let same = ap (λ (xs : List Part). length xs) c.as_slice-options.ensures in
    omega (arith, within, same)

pub returns-in-Query : goal.returns-in-Query
returns-in-Query c =
    let found = query_found c.args.function c.args.holes.now c.args.picks.now c.loop-h.h c.index-holes-h.result c.requires c.loop-h-test.true c.index-holes-h.is c.args.other.now c.in-Query.query c.index-options-picks.result c.if-hole-function.true
    (c.index-options-picks.is ∙ ap (λ (xs : List Part). get_or xs (get_or c.args.picks.now c.loop-h.h 0) c.index-options-picks.result) c.as_slice-options.ensures)
    c.in-Query.is
    c.loop-h.invariant in
    IfOk-weaker c.twin.result (λ (q : Query). q ≡ c.in-Query.query) (λ q. q ≡ query_of c.args.other.now (picked_parts c.args.function c.args.holes.now c.args.picks.now)) (λ q e. e ∙ found) c.twin.ensures

pub loop-h-preserved : goal.loop-h-preserved
loop-h-preserved c = elim c.if-hole-function.branch [
  | then-hole-function+in_default w ↦
      stmt_skipped c.args.function c.args.holes.now c.args.picks.now c.loop-h.h c.index-holes-h.result c.requires c.loop-h-test.true c.index-holes-h.is c.args.other.now w.index-options-picks.result w.if-hole-function.true
      (w.index-options-picks.is ∙ ap (λ (xs : List Part). get_or xs (get_or c.args.picks.now c.loop-h.h 0) w.index-options-picks.result) w.as_slice-options.ensures)
      w.in_default.not-Query
      c.loop-h.invariant
  | else-hole-function w ↦ other_skipped c.args.function c.args.holes.now c.args.picks.now c.loop-h.h c.index-holes-h.result c.requires c.loop-h-test.true c.index-holes-h.is c.args.other.now w.if-hole-function.false c.loop-h.invariant
]
