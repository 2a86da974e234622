use Rattle.std.proofs.Common.{◌∙◌, [], ◌∷◌, ◌++◌, List, length, map, take, ap}
use Rattle.std.specs.Prelude.{slice_get}
use Rattle.mig_algebra.specs.declared.atoms.Var.{Var}
use Rattle.mig_replacing.specs.Given.{plain}
use Rattle.mig_replacing.specs.Places.{others}
use Rattle.mig_steps.specs.Seeing.{shown}
use Rattle.mig_steps.specs.Spots.{list_at}
use Rattle.mig_steps.proofs.Leading.{spot-made}
use Rattle.mig_steps.proofs.spots.+spot_in.Goals as goal

pub returns : goal.returns
returns t c =
    let lits = c.args.lits.now in
    let at = c.args.at in
    let w = c.args.way in
    let n = c.in-Some-next_turn.next in
    let b = c.in-Some-body_of.body in
    spot-made w.scope (map shown w.lists.items ++ list_at (length w.scope) lits at ∷ []) (w.around ++ plain (others lits at)) (take at lits) (slice_get lits at) c.in-Some.lit.now b.held b.inner.now n.at n.rest.now c.args.path.now _ _ _ _ _ _
    c.in-Some.ensures.value c.in-Some-body_of.ensures c.in-Some-next_turn.ensures
    (c.in_ok-way-2.ensures.scope ∙ ap (λ (vs : List Var). vs ++ c.as_slice.result.now) c.in_ok-way.ensures.scope) c.as_slice.ensures
    (ap (map shown) c.in_ok-way-2.ensures.lists ∙ c.in_ok-way.ensures.lists)
    (c.in_ok-way-2.ensures.around ∙ c.in_ok-way.ensures.around) c.as_slice-2.ensures c.in_ok-spot.ensures
