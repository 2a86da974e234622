use Rattle.std.proofs.Common.{◌≡◌, ◌<◌, [], length, get_or, refl, ap, sym, ◌∙◌, subst, inl, inr, arith}
use Rattle.mig_sat.specs.Agendas.{AreSilent, StopsBehind, list_at}
use Rattle.mig_sat.proofs.Ahead.{at_none, pass_list, stops_at, none_ahead}
use Rattle.mig_sat.proofs.agenda.Agenda.propagate.Goals as goal

pub loop-place-init : goal.loop-place-init
loop-place-init c = record { lists = refl; queued = refl; through = λ n is. inl is }

pub loop-place-preserved : goal.loop-place-preserved
loop-place-preserved c =
    let clauses = c.args.cnf.now.clauses in
    let steps = c.args.trail.now.steps in
    let lists = c.args.self.now.lists.items in
    let list = c.list_of_number-list.result.now in
    let is : c.list_of_number-list.result.now ≡ get_or c.args.self.now.lists.items (list_at c.args.trail.now.steps c.loop-place.place) [] = c.list_of_number-list.ensures ∙ (ap (λ ls. get_or ls c.queued_list.result []) (c.as_slice.ensures.value ∙ c.loop-place.invariant.lists) ∙ ap (λ k. get_or c.args.self.now.lists.items k []) c.queued_list.ensures) in
    let silent = at_none c.go_on-found.result (AreSilent clauses steps list c.loop-place.self.at (length list)) (λ f. StopsBehind clauses steps list c.loop-place.self.at c.go_on-found.new.at f) c.go_on-found.ensures.said (sym c.is_some.ensures ∙ c.if-is_some.false) in
    record {
      lists = c.loop-place.invariant.lists;
      queued = refl;
      through = λ n pending. elim (c.loop-place.invariant.through n pending) [
        | inl ahead ↦ pass_list clauses lists c.loop-place.place c.loop-place.self.at steps n (subst (λ xs. AreSilent clauses steps xs c.loop-place.self.at (length xs)) is silent) ahead
        | inr quiet ↦ inr quiet
      ];
    }

pub returns-then-is_some-clause-said : goal.returns-then-is_some-clause-said
returns-then-is_some-clause-said c =
    let is : c.list_of_number-list.result.now ≡ get_or c.args.self.now.lists.items (list_at c.args.trail.now.steps c.loop-place.place) [] = c.list_of_number-list.ensures ∙ (ap (λ ls. get_or ls c.queued_list.result []) (c.as_slice.ensures.value ∙ c.loop-place.invariant.lists) ∙ ap (λ k. get_or c.args.self.now.lists.items k []) c.queued_list.ensures) in
    stops_at c.args.cnf.now.clauses c.args.self.now _ c.loop-place.self.at c.args.trail.now.steps c.go_on-found.result c.list_of_number-list.result.now c.loop-place.invariant.lists is c.loop-place.invariant.through c.go_on-found.ensures.said (sym c.is_some.ensures ∙ c.if-is_some.true)

pub returns-clause-said : goal.returns-clause-said
returns-clause-said c =
    let past : length c.args.trail.now.steps < c.loop-place.place = omega (arith, c.loop-place-test.false, c.len-place-end.ensures.is) in
    λ n pending. elim (c.loop-place.invariant.through n pending) [
      | inl ahead ↦ absurd (none_ahead c.args.self.now.lists.items c.loop-place.place c.loop-place.self.at c.args.trail.now.steps n past ahead)
      | inr quiet ↦ quiet
    ]
