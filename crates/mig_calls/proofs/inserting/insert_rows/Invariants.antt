use Rattle.std.proofs.Common.{◌≡◌, ◌≤◌, ◌+◌, ◌<◌, ◌^◌, Some, false, drop, length, option_map}
use Rattle.mig_meaning.specs.declared.states.State.{State}
use Rattle.mig_meaning.specs.Effect.{with_rows}
use Rattle.mig_meaning.specs.Lists.{Each}
use Rattle.mig_calls.specs.Fits.{RowFits}
use Rattle.mig_meaning.specs.Told.{given_told}
use Rattle.mig_calls.proofs.inserting.insert_rows.Given as goal

abbrev pub invariant-loop-t : goal.invariant-loop-t
invariant-loop-t g l =
    let now = g.S.Store.meaning l.store in
    let then_ = g.S.Store.meaning l.fn.store in
    let given = given_told l.given in
    record {
      later : then_.faults ≤ now.faults;
      whole : now.broken ≡ false;
      layout : now.layout ≡ then_.layout;
      begun : now.begun ≡ then_.begun;
      start : now.start ≡ then_.start;
      fits : Each (RowFits then_.layout l.schema given l.joined l.values) (drop l.t-index l.tables);
      room : (s : State) → now.told ≡ Some s → s.next + length (drop l.t-index l.tables) < 2 ^ 63;
      rest : option_map (with_rows l.schema given l.joined l.values (drop l.t-index l.tables)) now.told ≡ option_map (with_rows l.schema given l.joined l.values l.tables) then_.told;
    }
