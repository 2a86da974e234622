use Rattle.std.proofs.Common.{w64, to_z, of_z, inr, rules}
use Rattle.mig_maxsat.proofs.Leaving.{spent_paid}
use Rattle.mig_maxsat.proofs.Paying.{charged_by}
use Rattle.mig_maxsat.proofs.charging.charge.Goals as goal

pub returns-in-Some-clause-charged : goal.returns-in-Some-clause-charged
returns-in-Some-clause-charged c = λ m f any. charged_by c.args.trail.now.steps c.args.clause.now (to_z w64 (of_z w64 c.in-Some.cost)) c.args.weights.now c.pay_all.new.weights m c.args.trail.now.size c.pay_all.ensures.raised c.requires.range c.requires.sized f any

pub returns-in-Some-clause-spent : goal.returns-in-Some-clause-spent
returns-in-Some-clause-spent c = spent_paid c.args.trail.now.steps c.args.clause.now c.args.weights.now c.pay_all.new.weights (to_z w64 (of_z w64 c.in-Some.cost)) c.pay_all.ensures.raised (search rules)

pub returns-in-Some-clause-exact : goal.returns-in-Some-clause-exact
returns-in-Some-clause-exact c = inr (search rules, search rules, search rules, c.pay_all.ensures.paid)
