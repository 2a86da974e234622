use Rattle.std.proofs.Common.{◌≡◌, ◌∙◌, List, [], ◌∷◌, ◌++◌, sym, ap, ap₂}
use Rattle.std.proofs.lemmas.Result.{IfOk-weaker}
use Rattle.mig_algebra.specs.declared.literals.Lit.{Lit}
use Rattle.mig_replacing.specs.Replaced.{first_met, spread, OneIsTrue}
use Rattle.mig_replacing.proofs.Alternatives.{spread-one}
use Rattle.mig_replacing.proofs.spreading.spread.Goals as goal

pub returns-then-held-clause-one : goal.returns-then-held-clause-one
returns-then-held-clause-one c =
    let bodies = c.args.bodies.now in
    IfOk-weaker c.each_first.result (λ v. v.items ≡ first_met [] bodies) (λ v. OneIsTrue c.args.held bodies v.items)
    (λ v h. spread-one c.args.held bodies v.items (h ∙ ap (λ b. spread b bodies) (sym c.if-held.true))) c.each_first.ensures

pub returns-clause-one : goal.returns-clause-one
returns-clause-one c =
    let bodies = c.args.bodies.now in
    spread-one c.args.held bodies c.push.new.self.items
    (c.in_ok-push.ensures.items ∙ ap₂ (λ (x : List (List Lit)) (y : List Lit). x ++ y ∷ []) c.new-alternatives.ensures.items (c.from_vec.ensures ∙ c.in_ok-none_met.ensures)
    ∙ ap (λ b. spread b bodies) (sym c.if-held.false))
