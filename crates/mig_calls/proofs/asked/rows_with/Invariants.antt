use Rattle.std.proofs.Common.{◌≡◌, ◌≤◌, Some, true, false, take}
use Rattle.std.specs.List.{flat_map}
use Rattle.mig_meaning.specs.declared.states.Placed.{Placed}
use Rattle.mig_meaning.specs.declared.states.State.{State}
use Rattle.mig_meaning.specs.Lists.{Each}
use Rattle.mig_meaning.specs.Rows.{rows_of}
use Rattle.mig_storage.specs.Layout.{kinds_at, of_kinds}
use Rattle.mig_storage.specs.Meaning.{Keeps}
use Rattle.mig_calls.proofs.OrderLemmas.{asked}
use Rattle.mig_calls.proofs.asked.rows_with.Given as goal

abbrev pub invariant-loop-value : goal.invariant-loop-value
invariant-loop-value g l =
    let now = g.S.Store.meaning l.store in
    let then_ = g.S.Store.meaning l.fn.store in
    record {
      later : then_.faults ≤ now.faults;
      whole : now.broken ≡ false;
      keeps : Keeps then_ now;
      kinds : Each (λ (p : Placed). of_kinds (kinds_at then_.layout l.table) p.row.values ≡ true) l.all.items;
      rows : (s : State) → then_.told ≡ Some s → l.all.items ≡ flat_map (asked l.column (rows_of s l.table)) (take l.value-index l.values);
    }
