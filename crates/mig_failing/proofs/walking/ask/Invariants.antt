use Rattle.std.proofs.Common.{◌≡◌, ◌++◌, ◌∷◌, [], take}
use Rattle.std.specs.List.{flat_map}
use Rattle.std.specs.Prelude.{None}
use Rattle.mig_storage.specs.VecMeaning.{meaning_of}
use Rattle.mig_failing.specs.Playing.{IsAfter, Walks}
use Rattle.mig_failing.proofs.walking.ask.Given as goal

abbrev pub invariant-loop-query : goal.invariant-loop-query
invariant-loop-query l = record {
  calls : l.played.calls ≡ l.fn.played.calls;
  old : IsAfter l.tests.job.now.source l.tests.job.now.program l.fn.played.calls (meaning_of l.played.source);
  new : IsAfter l.tests.job.now.target l.tests.program.now l.fn.played.calls (meaning_of l.played.target);
  walks : Walks l.tests.job.now l.tests.program.now (flat_map (λ q. (l.fn.played.calls ++ q ∷ []) ∷ []) (take l.query-index l.tests.queries.now)) l.fn.left l.left None;
}
