use Rattle.std.proofs.Common.{sym, ◌∙◌, subst}
use Rattle.mig_sat.specs.Found.{IsFound}
use Rattle.mig_maxsat.specs.Rivals.{IsRival, IsSettled}
use Rattle.mig_maxsat.proofs.Rivalry.{full_settled}
use Rattle.mig_maxsat.proofs.keeping.keep.Goals as goal

pub returns-in_ok-model-in-Full : goal.returns-in_ok-model-in-Full
returns-in_ok-model-in-Full c =
    let seen = subst (IsFound c.args.problem.now.hard.clauses c.args.problem.now.hard.vars (IsRival c.args.problem.now c.args.held.floor) c.args.trail.now.steps) c.in-Full.is c.requires.seen in
    let values = c.in_ok-model-in-Full.ensures in
    subst (IsSettled c.args.problem.now c.args.held c.better.result c.args.trail.now.steps) (sym c.in-Full.is) (full_settled c.args.problem.now c.args.held c.in_ok-model-in-Full.model c.better.result c.args.trail.now.steps c.requires.sound c.better.ensures c.requires.right seen (values.size ∙ c.requires.size) (λ v lt. values.values v (rw c.requires.size lt)))
