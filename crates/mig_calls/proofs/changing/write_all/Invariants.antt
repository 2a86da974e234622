use Rattle.std.proofs.Common.{◌≡◌, ◌≤◌, Some, true, false, drop, option_map}
use Rattle.mig_meaning.specs.declared.states.State.{State}
use Rattle.mig_meaning.specs.Lists.{Each}
use Rattle.mig_meaning.specs.Rows.{rows_of}
use Rattle.mig_storage.specs.Changes.{has_id}
use Rattle.mig_calls.specs.Making.{written_all}
use Rattle.mig_calls.proofs.changing.write_all.Given as goal

abbrev pub invariant-loop-id : goal.invariant-loop-id
invariant-loop-id g l =
    let now = g.S.Store.meaning l.store in
    let then_ = g.S.Store.meaning l.fn.store in
    let left = drop l.id-index l.ids in
    record {
      later : then_.faults ≤ now.faults;
      whole : now.broken ≡ false;
      layout : now.layout ≡ then_.layout;
      begun : now.begun ≡ then_.begun;
      start : now.start ≡ then_.start;
      there : (s : State) → now.told ≡ Some s → Each (λ id. has_id id (rows_of s l.column.table) ≡ true) left;
      rest : option_map (written_all l.column left l.value) now.told ≡ option_map (written_all l.column l.ids l.value) then_.told;
    }
