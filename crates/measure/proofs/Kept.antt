-- A completion has the functions of the job's program.
use Rattle.std.proofs.Common.{◌≡◌, ℕ, ◌<◌, length, sym}
use Rattle.std.proofs.lemmas.List.Elements.{length_all_zip, AllZip-get_or}
use Rattle.mig_schema.specs.declared.jobs.Job.{Job}
use Rattle.mig_schema.specs.declared.programs.Body.{Body}
use Rattle.mig_schema.specs.declared.programs.Body.TheVariants.{Update, Query}
use Rattle.mig_schema.specs.declared.programs.Function.{Function}
use Rattle.mig_schema.specs.declared.programs.Program.{Program}
use Rattle.mig_schema.specs.declared.tables.Schema.{Schema}
use Rattle.mig_meaning.specs.Functions.{SameFunction, SameFunctions, SameSort}
use Rattle.mig_meaning.specs.Run.{function_at, no_function}
use Rattle.mig_sketch.specs.Completed.{IsCompletion, KeepsBody, KeepsFunction}

same_sort : (s t : Schema) (old new : Body) → KeepsBody s t old new → SameSort s t old new
same_sort s t (Update xs) (Update ys) h = tt
same_sort s t (Update xs) (Query q) h = absurd h
same_sort s t (Query q) (Update ys) h = absurd h
same_sort s t (Query q) (Query r) h = sym h.kinds

same_function : (s t : Schema) (old new : Function) → KeepsFunction s t old new → SameFunction s t old new
same_function s t old new h = record {
  name = sym h.name;
  params = sym h.params;
  sort = same_sort s t old.body new.body h.body;
}

pub same_functions : (job : Job) (p : Program) → IsCompletion job p → SameFunctions job.source job.target job.program p
same_functions job p h = record {
  count = length_all_zip (KeepsFunction job.source job.target) job.program.functions p.functions h.keeps;
  each = λ n l. same_function job.source job.target (function_at job.program n) (function_at p n) (AllZip-get_or (KeepsFunction job.source job.target) job.program.functions p.functions n no_function no_function h.keeps l);
}
