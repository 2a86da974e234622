use Rattle.std.proofs.Common.{◌≡◌, List, ℕ, length, replicate, sym, subst, rules}
use Rattle.mig_rules.specs.Quiet.{AreQuiet}
use Rattle.mig_rules.proofs.Silent.{quiet-new}
use Rattle.mig_rules.proofs.taking.none_known.Goals as goal

pub returns : goal.returns
returns c = λ p invs.
    let made : c.in_ok-numbers.numbers.items ≡ replicate (length c.args.expr.now.terms) 0 = search rules in
    subst (λ (qs : List ℕ). AreQuiet p invs qs c.args.expr.now.terms) (sym made) (quiet-new p invs c.args.expr.now.terms)
