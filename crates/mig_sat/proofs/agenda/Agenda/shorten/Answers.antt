use Rattle.std.proofs.Common.{◌⊎◌, subst, arith}
use Rattle.std.specs.Prelude.{◌↔◌}
use Rattle.mig_sat.specs.Agendas.{IsAhead, IsListed, list_at}
use Rattle.mig_sat.proofs.Ahead.{ahead_again, ahead_still}
use Rattle.mig_sat.proofs.agenda.Agenda.shorten.Goals as goal

pub returns-then-steps-self-clause-pending : goal.returns-then-steps-self-clause-pending
returns-then-steps-self-clause-pending c = λ left n is.
    let a = c.args.self.now in
    let short = c.if-steps-self.true in
    subst (λ k. IsAhead a.lists.items k 0 left n ↔ (IsAhead a.lists.items a.queued a.at left n ⊎ IsListed a.lists.items (list_at left k) n)) is (ahead_again a.lists.items a.queued a.at left n (omega (arith, is, short)))

pub returns-else-steps-self-clause-pending : goal.returns-else-steps-self-clause-pending
returns-else-steps-self-clause-pending c = λ left n is.
    let a = c.args.self.now in
    let long = c.if-steps-self.false in
    subst (λ k. IsAhead a.lists.items a.queued a.at left n ↔ (IsAhead a.lists.items a.queued a.at left n ⊎ IsListed a.lists.items (list_at left k) n)) is (ahead_still a.lists.items a.queued a.at left n (omega (arith, is, long)))
