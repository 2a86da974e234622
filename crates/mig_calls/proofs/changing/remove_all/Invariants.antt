use Rattle.std.proofs.Common.{◌≡◌, ◌≤◌, Some, true, false, drop, option_map}
use Rattle.mig_meaning.specs.declared.states.State.{State}
use Rattle.mig_meaning.specs.Lists.{AllDifferent, Each}
use Rattle.mig_meaning.specs.Rows.{rows_of}
use Rattle.mig_storage.specs.Changes.{has_id}
use Rattle.mig_calls.specs.Making.{removed_all}
use Rattle.mig_calls.proofs.changing.remove_all.Given as goal

abbrev pub invariant-loop-id : goal.invariant-loop-id
invariant-loop-id g l =
    let now = g.S.Store.meaning l.store in
    let then_ = g.S.Store.meaning l.fn.store in
    let left = drop l.id-index l.ids in
    record {
      later : then_.faults ≤ now.faults;
      whole : now.broken ≡ false;
      layout : now.layout ≡ then_.layout;
      begun : now.begun ≡ then_.begun;
      start : now.start ≡ then_.start;
      different : AllDifferent left;
      there : (s : State) → now.told ≡ Some s → Each (λ id. has_id id (rows_of s l.table) ≡ true) left;
      rest : option_map (removed_all l.table left) now.told ≡ option_map (removed_all l.table l.ids) then_.told;
    }
