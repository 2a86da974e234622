use Rattle.std.proofs.Common.{◌≡◌, ◌+◌, ◌<◌, ◌≤◌, ◌^◌, Some, false, drop, option_map}
use Rattle.mig_meaning.specs.declared.states.State.{State}
use Rattle.mig_meaning.specs.Effect.{after_all}
use Rattle.mig_meaning.specs.Lists.{Each, total}
use Rattle.mig_calls.specs.Fits.{StmtFits}
use Rattle.mig_calls.specs.Rows.{rows_added}
use Rattle.mig_meaning.specs.Told.{given_told}
use Rattle.mig_calls.proofs.statements.update.Given as goal

abbrev pub invariant-loop-stmt : goal.invariant-loop-stmt
invariant-loop-stmt g l =
    let now = g.S.Store.meaning l.store in
    let then_ = g.S.Store.meaning l.fn.store in
    let left = drop l.stmt-index l.stmts in
    record {
      later : then_.faults ≤ now.faults;
      whole : now.broken ≡ false;
      layout : now.layout ≡ then_.layout;
      begun : now.begun ≡ then_.begun;
      start : now.start ≡ then_.start;
      fits : Each (StmtFits then_.layout l.schema (given_told l.given)) left;
      room : (s : State) → now.told ≡ Some s → s.next + total rows_added left < 2 ^ 63;
      rest : option_map (after_all l.schema (given_told l.given) left) now.told ≡ option_map (after_all l.schema (given_told l.given) l.stmts) then_.told;
    }
