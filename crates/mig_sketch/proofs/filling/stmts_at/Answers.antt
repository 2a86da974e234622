use Rattle.std.proofs.Common.{◌≤◌, ℕ, List, [], ◌∷◌, ◌++◌, length, take, get_or, subst, sym, ap, ◌∙◌, arith}
use Rattle.std.proofs.lemmas.List.{take_all}
use Rattle.mig_schema.specs.declared.programs.Stmt.{Stmt}
use Rattle.mig_sketch.specs.declared.plans.Hole.{Hole}
use Rattle.mig_sketch.specs.declared.plans.Part.{Part}
use Rattle.mig_sketch.specs.Filling.{picked_parts, stmts_of}
use Rattle.mig_sketch.proofs.Picked.{pick_at, choice-length, IsMore, stmt_taken, query_passed, other_passed}
use Rattle.mig_sketch.proofs.filling.stmts_at.Goals as goal
use Rattle.mig_sketch.proofs.filling.stmts_at.Goals.{then-hole-function+in-Stmt+in_ok-twin+in_ok-push, then-hole-function+in_default, else-hole-function}

pub bounds-picks-h : goal.bounds-picks-h
bounds-picks-h c = (pick_at c.args.holes.now c.args.picks.now c.loop-h.h c.index-holes-h.result c.requires c.loop-h-test.true c.index-holes-h.is).0

pub bounds-options-picks : goal.bounds-options-picks
bounds-options-picks c =
    let within = (pick_at c.args.holes.now c.args.picks.now c.loop-h.h c.index-holes-h.result c.requires c.loop-h-test.true c.index-holes-h.is).1 in
    let same = ap (λ (xs : List Part). length xs) c.as_slice-options.ensures in
    omega (arith, within, same)

pub loop-h-preserved : goal.loop-h-preserved
loop-h-preserved c =
    elim c.if-hole-function.branch [
      | then-hole-function+in-Stmt+in_ok-twin+in_ok-push w ↦
          stmt_taken c.args.function c.args.holes.now c.args.picks.now c.loop-h.h c.index-holes-h.result c.requires c.loop-h-test.true c.index-holes-h.is w.index-options-picks.result w.in-Stmt.stmt c.loop-h.list c.if-hole-function.list w.if-hole-function.true
          (w.index-options-picks.is ∙ ap (λ (xs : List Part). get_or xs (get_or c.args.picks.now c.loop-h.h 0) w.index-options-picks.result) w.as_slice-options.ensures)
          w.in-Stmt.is
          (w.list-is ∙ w.in_ok-push.ensures.ok ∙ ap (λ (s : Stmt). c.loop-h.list ++ s ∷ []) w.in_ok-twin.ensures)
          c.loop-h.invariant
      | then-hole-function+in_default w ↦
          subst (IsMore c.args.function c.args.holes.now c.args.picks.now c.loop-h.h c.index-holes-h.result c.requires c.loop-h-test.true c.index-holes-h.is c.loop-h.list) (sym w.list-is)
          (query_passed c.args.function c.args.holes.now c.args.picks.now c.loop-h.h c.index-holes-h.result c.requires c.loop-h-test.true c.index-holes-h.is w.index-options-picks.result c.loop-h.list w.if-hole-function.true
          (w.index-options-picks.is ∙ ap (λ (xs : List Part). get_or xs (get_or c.args.picks.now c.loop-h.h 0) w.index-options-picks.result) w.as_slice-options.ensures)
          w.in_default.not-Stmt)
          c.loop-h.invariant
      | else-hole-function w ↦
          subst (IsMore c.args.function c.args.holes.now c.args.picks.now c.loop-h.h c.index-holes-h.result c.requires c.loop-h-test.true c.index-holes-h.is c.loop-h.list) (sym w.list-is)
          (other_passed c.args.function c.args.holes.now c.args.picks.now c.loop-h.h c.index-holes-h.result c.requires c.loop-h-test.true c.index-holes-h.is c.loop-h.list w.if-hole-function.false)
          c.loop-h.invariant
    ]

pub returns : goal.returns
returns c =
    let all : length c.args.holes.now ≤ c.loop-h.h = omega (arith, c.loop-h-test.false) in
    let size = choice-length c.args.holes.now c.args.picks.now c.requires in
    let whole : length c.args.picks.now ≤ c.loop-h.h = omega (arith, all, size) in
    c.loop-h.invariant
    ∙ ap (λ (hs : List Hole). stmts_of (picked_parts c.args.function hs (take c.loop-h.h c.args.picks.now))) (take_all c.loop-h.h c.args.holes.now all)
    ∙ ap (λ (ps : List ℕ). stmts_of (picked_parts c.args.function c.args.holes.now ps)) (take_all c.loop-h.h c.args.picks.now whole)
