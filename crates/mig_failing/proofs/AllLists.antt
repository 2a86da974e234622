-- All test lists, by their number of updates.
use Rattle.std.proofs.Common.{◌≡◌, ℕ, zero, suc, ◌<◌, true, false, List, [], map, take, get_or, refl, sym, subst, arith}
use Rattle.std.specs.Prelude.{Option, Some, None}
use Rattle.std.specs.List.{flat_map}
use Rattle.mig_schema.specs.declared.jobs.Job.{Job}
use Rattle.mig_schema.specs.declared.programs.Program.{Program}
use Rattle.mig_listing.specs.Choices.{numbers}
use Rattle.mig_meaning.specs.declared.calling.Calls.{Calls}
use Rattle.mig_meaning.specs.declared.calling.Invocation.{Invocation}
use Rattle.mig_failing.specs.Failing.{FindsFailing, IsFailing}
use Rattle.mig_failing.specs.Made.{all_lists, below, invocations, test_calls}
use Rattle.mig_failing.specs.Playing.{Walks}
use Rattle.mig_failing.specs.Tests.{call_of, calls_of}
use Rattle.mig_failing.proofs.Listed.{tests_listed}
use Rattle.mig_failing.proofs.Made.{all_mapped}

-- those with so many updates
abbrev pub with_updates : Job → ℕ → List (List Invocation)
with_updates job n = below (invocations job.program false) (invocations job.program true) n []

pub nth_number : (k : ℕ) → k < 4 → k ≡ get_or (numbers 4) k k
nth_number zero h = refl
nth_number (suc zero) h = refl
nth_number (suc (suc zero)) h = refl
nth_number (suc (suc (suc zero))) h = refl
nth_number (suc (suc (suc (suc k)))) h = absurd (omega (arith, h))

-- equal calls behind none
pub walks_as : (job : Job) (p : Program) (us vs qs rs before : List Invocation) (n a b : ℕ) (found : Option Calls) → us ≡ vs → qs ≡ rs → before ≡ [] → Walks job p (below us qs n before) a b found → Walks job p (below vs rs n []) a b found
walks_as job p us vs qs rs before n a b found e f g h =
    subst (λ xs. Walks job p (below xs rs n []) a b found) e
    (subst (λ xs. Walks job p (below us xs n []) a b found) f
    (subst (λ xs. Walks job p (below us qs n xs) a b found) g h))

-- the lists of calls are those of test calls
mapped : (p : Program) → all_lists (invocations p false) (invocations p true) ≡ map (calls_of p) (all_lists (test_calls p false) (test_calls p true))
mapped p = sym (all_mapped (call_of p) (test_calls p false) (test_calls p true))

finds : (job : Job) (p : Program) (lists : List (List Invocation)) (a b : ℕ) (found : Option Calls) → Walks job p lists a b found → FindsFailing job p (take a lists) found
finds job p lists a b None h = h.0
finds job p lists a b (Some c) h = h

pub walked_all : (job : Job) (p : Program) (a b : ℕ) (found : Option Calls) → Walks job p (flat_map (with_updates job) (numbers 4)) a b found → IsFailing job p a found
walked_all job p a b found h = record {
  lists = all_lists (test_calls job.program false) (test_calls job.program true);
  all = tests_listed job.program;
  first = subst (λ ls. FindsFailing job p (take a ls) found) (mapped job.program) (finds job p (flat_map (with_updates job) (numbers 4)) a b found h);
}
