use Rattle.std.proofs.Common.{◌≡◌, ◌≤◌, Some, None, [], length, sym, subst, arith}
use Rattle.std.proofs.lemmas.Bool.{MatchBool-at_true, MatchBool-at_false}
use Rattle.mig_sat.specs.Models.{IsModel}
use Rattle.mig_sat.specs.Steps.{IsRight}
use Rattle.mig_sat.specs.Found.{advanced}
use Rattle.mig_sat.proofs.Firsts.{first_found}
use Rattle.mig_sat.proofs.Heeding.{IsHeeded, heeded_first, heeded_advanced}
use Rattle.mig_sat.proofs.Progress.{none_advanced, right_advanced, work-advanced}
use Rattle.mig_sat.proofs.solving.solve.Goals as goal

pub returns-in-Full-clause-first : goal.returns-in-Full-clause-first
returns-in-Full-clause-first c =
    let values = c.in_ok-to_model.ensures in
    first_found c.args.cnf.now c.in_ok-to_model.field-0.values c.loop-trail.trail.steps c.loop-trail.trail.size c.loop-trail.invariant.size c.requires c.loop-trail.invariant.right values.size values.values c.in-Full.ensures.found.1

pub returns-then-not-branch : goal.returns-then-not-branch
returns-then-not-branch c =
    let cnf = c.args.cnf.now in
    let steps = c.loop-trail.trail.steps in
    let none : advanced c.look-found.result c.loop-trail.trail.steps ≡ None = MatchBool-at_false (advanced c.look-found.result c.loop-trail.trail.steps ≡ Some c.advance.new.trail.steps) (advanced c.look-found.result c.loop-trail.trail.steps ≡ None) c.if-not-branch.true c.in_ok-advance.ensures.on in
    record {
      first = tt;
      none = none_advanced cnf.clauses cnf.vars (IsModel cnf) steps c.look-found.result c.loop-trail.invariant.right c.look-found.ensures.found (λ e. absurd (c.in_default.not-Full e)) none;
    }

pub loop-trail-smaller : goal.loop-trail-smaller
loop-trail-smaller c =
    let room : length c.advance.new.trail.steps ≤ c.args.cnf.now.vars = omega (arith, c.len.ensures.is, c.len.ensures.most, c.in_ok-advance.ensures.size, c.loop-trail.invariant.size) in
    let some : advanced c.look-found.result c.loop-trail.trail.steps ≡ Some c.advance.new.trail.steps = MatchBool-at_true (advanced c.look-found.result c.loop-trail.trail.steps ≡ Some c.advance.new.trail.steps) (advanced c.look-found.result c.loop-trail.trail.steps ≡ None) c.if-not-branch.false c.in_ok-advance.ensures.on in
    work-advanced c.args.cnf.now.vars c.loop-trail.trail.steps c.advance.new.trail.steps c.look-found.result c.loop-trail.invariant.room room some

pub loop-trail-init : goal.loop-trail-init
loop-trail-init c =
    let cnf = c.args.cnf.now in
    let steps : c.in_ok-trail.trail.steps ≡ [] = c.in_ok-trail.ensures.1 in
    record {
      size = c.in_ok-trail.ensures.0;
      room = rw steps (omega arith);
      right = subst (IsRight cnf.vars (IsModel cnf)) (sym steps) tt;
      heeded = subst (IsHeeded cnf c.in_ok-agenda.agenda) (sym steps) (heeded_first cnf c.in_ok-agenda.agenda c.in_ok-agenda.ensures.count c.in_ok-agenda.ensures.lists c.in_ok-agenda.ensures.all);
    }

pub loop-trail-preserved : goal.loop-trail-preserved
loop-trail-preserved c =
    let cnf = c.args.cnf.now in
    let some : advanced c.look-found.result c.loop-trail.trail.steps ≡ Some c.advance.new.trail.steps = MatchBool-at_true (advanced c.look-found.result c.loop-trail.trail.steps ≡ Some c.advance.new.trail.steps) (advanced c.look-found.result c.loop-trail.trail.steps ≡ None) c.if-not-branch.false c.in_ok-advance.ensures.on in
    let right = right_advanced cnf.clauses cnf.vars (IsModel cnf) c.loop-trail.trail.steps c.advance.new.trail.steps c.look-found.result c.loop-trail.invariant.right c.look-found.ensures.found (λ e. absurd (c.in_default.not-Full e)) some in
    record {
      size = omega (arith, c.in_ok-advance.ensures.size, c.loop-trail.invariant.size);
      room = omega (arith, c.len.ensures.is, c.len.ensures.most, c.in_ok-advance.ensures.size, c.loop-trail.invariant.size);
      right = right;
      heeded = heeded_advanced cnf (IsModel cnf) c.loop-trail.agenda c.look-found.new.agenda c.shorten.new.self c.len.result c.loop-trail.trail.steps c.advance.new.trail.steps c.look-found.result c.loop-trail.invariant.heeded c.look-found.ensures.lists c.look-found.ensures.heeded some right c.shorten.ensures.lists (sym c.len.ensures.is) c.shorten.ensures.pending;
    }
