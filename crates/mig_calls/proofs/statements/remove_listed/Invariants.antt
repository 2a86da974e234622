use Rattle.std.proofs.Common.{◌≡◌, ◌<◌, ◌≤◌, Some, false, drop, length, option_map}
use Rattle.mig_schema.specs.Typed.{stands_twice}
use Rattle.mig_meaning.specs.declared.states.State.{State}
use Rattle.mig_meaning.specs.Lists.{Each}
use Rattle.mig_calls.specs.Making.{AreThere, without_each}
use Rattle.mig_calls.proofs.statements.remove_listed.Given as goal

abbrev pub invariant-loop-t : goal.invariant-loop-t
invariant-loop-t g l =
    let now = g.S.Store.meaning l.store in
    let then_ = g.S.Store.meaning l.fn.store in
    let left = drop l.t-index l.listed in
    record {
      later : then_.faults ≤ now.faults;
      whole : now.broken ≡ false;
      layout : now.layout ≡ then_.layout;
      begun : now.begun ≡ then_.begun;
      start : now.start ≡ then_.start;
      listed : Each (λ t. t < length then_.layout) left;
      once : stands_twice left ≡ false;
      there : (s : State) → now.told ≡ Some s → Each (AreThere l.tables l.met s) left;
      rest : option_map (without_each l.tables l.met left) now.told ≡ option_map (without_each l.tables l.met l.listed) then_.told;
    }
