-- Where no model weighs as much as was reached there is none.
use Rattle.std.proofs.Common.{List, Bool, Option, ℤ, subst}
use Rattle.std.specs.Prelude.{IfNone}
use Rattle.std.proofs.lemmas.Result.{IfOk-weaker}
use Rattle.mig_sat.specs.Models.{HasNoModel}
use Rattle.mig_maxsat.specs.Rivals.{IsRival}
use Rattle.mig_maxsat.proofs.Reaching.{none_reached}
use Rattle.mig_maxsat.proofs.heaviest.best.Goals as goal

pub returns-clause-none : goal.returns-clause-none
returns-clause-none c =
    let p = c.args.problem.now in
    IfOk-weaker c.heaviest_above.result (λ o. IfNone o ((m : List Bool) → IsRival p c.below.result m → ⊥)) (λ o. IfNone o (HasNoModel p.hard))
    (λ o none. none_reached p c.in_ok-reached.reached o c.in_ok-reached.ensures.reached (subst (λ (k : Option ℤ). IfNone o ((m : List Bool) → IsRival p k m → ⊥)) c.below.ensures.less none))
    c.heaviest_above.ensures.none
