-- What `migrate` answers for the file of a job.
use Rattle.std.specs.Prelude.{◌≡◌, ℕ, ◌<◌, ◌≤◌, List, length, codes}
use Rattle.mig_schema.specs.declared.jobs.Job.{Job}
use Rattle.mig_schema.specs.declared.programs.Program.{Program}
use Rattle.mig_certificate.specs.declared.proofs.Certificate.{Certificate}
use Rattle.mig_answer.specs.AnswerText.{answer_text}
use Rattle.mig_search.specs.declared.outcomes.Options.{Options}
use Rattle.mig_search.specs.declared.outcomes.Outcome.{Outcome}
use Rattle.mig_search.specs.declared.outcomes.Outcome.TheVariants.{Found, Exhausted, Spent}
use Rattle.mig_search.specs.declared.outcomes.Tried.{Tried}
use Rattle.mig_search.specs.Finds.{IsRightFind}
use Rattle.mig_search.specs.Outcomes.{IsOutcome}
use Rattle.mig_words.specs.declared.command.Options.{Options as Asked}
use Rattle.mig_messages.specs.declared.status.Status.TheVariants as status
use Rattle.mig_messages.specs.Entries.{found_report, exhausted_report, spent_report}
use Rattle.mig_messages.specs.Lines.{too_long}
use Rattle.mig_cli.specs.declared.planning.Plan.{Plan}
use Rattle.mig_cli.specs.Plans.{answered, refusal}
use Rattle.mig_cli.specs.World.{Holdings}
use Rattle.mig_cli.specs.Jobs.{IsRefusedJob, GaveJob}

-- how far the words ask the search to go
abbrev pub search_options : Asked → Options
search_options o = record { budget = o.budget; maps = o.maps; tests = o.tests }

-- the greatest length of an answer, in bytes
abbrev pub answer_cap : ℕ
answer_cap = 67108864

-- what a program that is found leads to: its answer; or the line on an answer that is longer
pub data IsFound (job : Job) (program : Program) (certificate : Certificate) (tried : List Tried) (plan : Plan) : Type 0 where
  short : length (answer_text job program certificate) ≤ answer_cap → plan ≡ answered (answer_text job program certificate) (found_report job.program tried) → IsFound job program certificate tried plan
  long : answer_cap < length (answer_text job program certificate) → plan ≡ refusal status.Limit (too_long (codes "answer") answer_cap) → IsFound job program certificate tried plan

-- what the outcome of a search leads to
abbrev pub Tells : Job → Outcome → Plan → Type 0
Tells job (Found program certificate tried) plan = IsRightFind job program certificate × IsFound job program certificate tried plan
Tells job (Exhausted tried) plan = plan ≡ refusal status.Exhausted (exhausted_report job.program tried)
Tells job (Spent tried) plan = plan ≡ refusal status.Spent (spent_report job.program tried)

-- what a job leads to: the outcome of the search, as it is told
pub record IsSearched (job : Job) (options : Options) (plan : Plan) : Type 0 where
  pub outcome : Outcome
  pub is : IsOutcome job options outcome
  pub tells : Tells job outcome plan

-- what the file of a job leads to: a refusal, or what is told of the search
pub data IsMigrated (told : Holdings) (file : List ℕ) (options : Options) (plan : Plan) : Type 0 where
  refused : IsRefusedJob told file plan → IsMigrated told file options plan
  searched : (job : Job) → GaveJob told file job → IsSearched job options plan → IsMigrated told file options plan
