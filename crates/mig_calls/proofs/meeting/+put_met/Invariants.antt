use Rattle.std.proofs.Common.{◌≡◌, ◌≤◌, ◌∷◌, ◌++◌, Some, false, take, length}
use Rattle.std.specs.Prelude.{filter}
use Rattle.mig_meaning.specs.declared.states.State.{State}
use Rattle.mig_meaning.specs.Conditions.{cases_true}
use Rattle.mig_meaning.specs.Rows.{JoinRow}
use Rattle.mig_meaning.specs.Told.{given_told}
use Rattle.mig_storage.specs.Meaning.{Keeps}
use Rattle.mig_calls.specs.Joining.{grown_all}
use Rattle.mig_calls.proofs.meeting.+put_met.Given as goal

abbrev pub decreases-put_met : goal.decreases-put_met
decreases-put_met g l = length l.left.now

abbrev pub invariant-loop-choice : goal.invariant-loop-choice
invariant-loop-choice g l =
    let now = g.S.Store.meaning l.store in
    let then_ = g.S.Store.meaning l.fn.store in
    record {
      later : then_.faults ≤ now.faults;
      whole : now.broken ≡ false;
      keeps : Keeps then_ now;
      rows : (s : State) → then_.told ≡ Some s → l.all.items ≡ l.fn.all.items ++ filter (λ (e : JoinRow). cases_true (given_told l.given) l.tables e l.cases) (grown_all s l.earlier (l.joined ∷ l.more) (take l.choice-index l.choice-items));
    }
