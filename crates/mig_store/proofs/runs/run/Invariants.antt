use Rattle.std.proofs.Common.{◌≡◌, ◌*◌, ◌++◌, ◌≤◌, Some, false, drop, length, map, option_map, take}
use Rattle.mig_meaning.specs.declared.states.State.{State}
use Rattle.mig_storage.specs.Layout.{layout_of}
use Rattle.mig_store.specs.Runs.{answers_of, played, query_calls, state_after}
use Rattle.mig_store.specs.Told.{answered_told, place_told}
use Rattle.mig_store.proofs.RunLemmas.{run_from}
use Rattle.mig_store.proofs.runs.run.Given as goal

abbrev pub invariant-loop-invocation : goal.invariant-loop-invocation
invariant-loop-invocation g l =
    let now = g.S.Store.meaning l.store in
    let then_ = g.S.Store.meaning l.fn.store in
    let k = l.invocation-index in
    let calls = l.fn.calls.calls in
    let left = drop k calls in
    record {
      later : then_.faults ≤ now.faults;
      whole : now.broken ≡ false;
      rest : now.begun ≡ false;
      layout : now.layout ≡ layout_of l.schema;
      number : l.number ≡ k;
      told : now.told ≡ option_map (λ s. state_after l.schema l.program (take k calls)) then_.told;
      next : (state_after l.schema l.program (take k calls)).next ≤ 17 * k;
      queries : map place_told l.list ++ query_calls l.program k left ≡ query_calls l.program 0 calls;
      answers : (s : State) → then_.told ≡ Some s → map answered_told l.list ++ answers_of k left (run_from l.schema l.program (state_after l.schema l.program (take k calls)) k left) ≡ answers_of 0 calls (played l.schema l.program calls);
    }
