use Rattle.std.proofs.Common.{◌≡◌, ◌∷◌, [], ◌++◌, List, length, cond, sym, ap, ◌∙◌, append_assoc, arith}
use Rattle.std.specs.Vec.Iter.{into_iter_items}
use Rattle.mig_meaning.specs.declared.relating.Invariant.{Invariant}
use Rattle.mig_invariant.proofs.Once.{stands, once_more}
use Rattle.mig_invariant.proofs.listing.once.Goals as goal

pub loop-fact-preserved : goal.loop-fact-preserved
loop-fact-preserved c =
    let at = c.loop-fact in
    let x = c.in-Some.fact in
    let steps : into_iter_items at.fact-iterator ≡ x ∷ into_iter_items c.next.new.self = c.in-Some.ensures.steps.0 in (
      c.in_ok-add_once.ensures ∙ ap (λ (kept : List Invariant). cond (stands kept x) kept (kept ++ x ∷ [])) at.invariant.0 ∙ sym (once_more at.yielded x),
      append_assoc at.yielded (x ∷ []) _ ∙ rw (← steps) at.invariant.1,
      let was = at.invariant.2 in
          let gone = c.in-Some.ensures.steps.1 in
          let short = ap length steps in
          omega arith,
    )
