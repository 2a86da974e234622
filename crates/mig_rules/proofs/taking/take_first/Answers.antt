use Rattle.std.proofs.Common.{◌≡◌, ◌∙◌, List, ℕ, Some, sym, ap, ap₂, subst, arith}
use Rattle.mig_obligations.specs.Pairs.{sides_of}
use Rattle.mig_rules.specs.First.{FindsFirst}
use Rattle.mig_rules.specs.Follow.{follow}
use Rattle.mig_rules.specs.Quiet.{AreQuiet, after_step}
use Rattle.mig_rules.specs.Taking.{stay_from, new_terms}
use Rattle.mig_rules.proofs.TakenQuiet.{quiet-taken, step-within}
use Rattle.mig_rules.proofs.taking.take_first.Goals as goal

pub stay_from-stay-requires : goal.stay_from-stay-requires
stay_from-stay-requires c =
    let within = step-within (sides_of c.args.facts.now.pair.now) c.args.facts.now.invariants.now.list c.in-Some.step c.args.expr.now c.in-Some-led.next (sym c.in_ok-led.ensures ∙ c.in-Some-led.is) in
    omega (arith, within, c.len-before.ensures)

pub returns : goal.returns
returns c =
    let e = c.args.expr.now in
    let step = c.in-Some.step in
    let next = c.in-Some-led.next in
    let stay = c.stay_from-stay.result in
    let first = subst (FindsFirst (sides_of c.args.facts.now.pair.now) c.args.facts.now.invariants.now.list e) c.in-Some.is c.in_ok-found.ensures.first in
    let follows : follow (sides_of c.args.facts.now.pair.now) c.args.facts.now.invariants.now.list step e ≡ Some next = sym c.in_ok-led.ensures ∙ c.in-Some-led.is in (
      first,
      follows,
      subst (λ (qs : List ℕ). AreQuiet (sides_of c.args.facts.now.pair.now) c.args.facts.now.invariants.now.list qs next.terms) (sym (c.in_ok-quiet.ensures ∙ ap (after_step step.term c.new_terms-count.result stay) c.as_slice.ensures.value))
          (quiet-taken (sides_of c.args.facts.now.pair.now) c.args.facts.now.invariants.now.list step e next c.first_from.new.quiet.items stay c.new_terms-count.result follows
          (c.stay_from-stay.ensures.is ∙ ap (stay_from step.rule step.term) c.len-before.ensures)
          (c.new_terms-count.ensures ∙ ap₂ (new_terms step.term stay) c.len-before.ensures c.len.ensures)
          c.in_ok-found.ensures.quiet),
    )
