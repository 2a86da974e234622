use Rattle.std.proofs.Common.{◌≡◌, ◌+◌, ◌++◌, ◌∷◌, ap, sym, ◌∙◌, arith, append_assoc, suc}
use Rattle.mig_complete.specs.Coding.{one_of, links, link}
use Rattle.mig_complete.proofs.Sums.{links_more}
use Rattle.mig_complete.proofs.coding.add_hole.Goals as goal

pub loop-k-preserved : goal.loop-k-preserved
loop-k-preserved c =
    let e = links_more c.args.helpers c.args.first c.loop-k.k in
    let next : suc c.loop-k.k ≡ c.loop-k.k + 1 = omega arith in
    let a = append_assoc c.args.clauses.now (one_of c.args.first c.args.count ∷ links c.args.helpers c.args.first c.loop-k.k) (link c.args.helpers (c.args.first + c.loop-k.k)) in
    c.in_ok-add_link.ensures ∙ (ap (λ t. t ++ link c.args.helpers (c.args.first + c.loop-k.k)) c.loop-k.invariant ∙ (a ∙ ap (λ t. c.args.clauses.now ++ (one_of c.args.first c.args.count ∷ t)) (sym e ∙ ap (links c.args.helpers c.args.first) next)))
