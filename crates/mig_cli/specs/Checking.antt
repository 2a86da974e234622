-- What `check` answers for the file of a job and the file of an answer.
use Rattle.std.specs.Prelude.{◌≡◌, ◌≢◌, ℕ, List, [], ◌∷◌}
use Rattle.mig_schema.specs.declared.jobs.Job.{Job}
use Rattle.mig_schema.specs.declared.programs.Program.{Program}
use Rattle.mig_syntax.specs.declared.fault.TextFault.{TextFault}
use Rattle.mig_syntax.specs.declared.fault.TextFault.TheVariants.{Memory}
use Rattle.mig_certificate.specs.declared.proofs.Certificate.{Certificate}
use Rattle.mig_reading.specs.IsAnswer.{IsAnswer}
use Rattle.mig_certificate.specs.Valid.{IsValid}
use Rattle.mig_checker.specs.declared.verdicts.Why.{Why}
use Rattle.mig_checker.specs.declared.verdicts.Verdict.TheVariants.{Rejected}
use Rattle.mig_checker.specs.Verdict.{IsVerdict}
use Rattle.mig_messages.specs.declared.status.Status.TheVariants as status
use Rattle.mig_messages.specs.Statuses.{fault_status}
use Rattle.mig_messages.specs.Lines.{too_long, fault_line}
use Rattle.mig_messages.specs.VerdictLines.{accepted, rejected_line}
use Rattle.mig_cli.specs.declared.planning.Plan.{Plan}
use Rattle.mig_cli.specs.Plans.{answered, refusal}
use Rattle.mig_cli.specs.World.{Holdings}
use Rattle.mig_cli.specs.Jobs.{Gave, IsLonger, IsRefusedJob, GaveJob}
use Rattle.mig_cli.specs.Migrating.{answer_cap}

-- ---- reading an answer

-- over the job these bytes are no program with a certificate
abbrev pub IsNoAnswer : Job → List ℕ → Type 0
IsNoAnswer job bytes = (program : Program) (certificate : Certificate) → IsAnswer job bytes program certificate → ⊥

-- How an answer's file is refused: it is too long, or its bytes are no answer over the job.
-- Of bytes that are none a fault is told, and nothing is said of which.
pub data IsRefusedAnswer (told : Holdings) (job : Job) (file : List ℕ) (plan : Plan) : Type 0 where
  long : IsLonger told file answer_cap → plan ≡ refusal status.Limit (too_long file answer_cap) → IsRefusedAnswer told job file plan
  faulty : (bytes : List ℕ) (e : TextFault) → Gave told file answer_cap bytes → IsNoAnswer job bytes → e ≢ Memory → plan ≡ refusal (fault_status e) (fault_line file e) → IsRefusedAnswer told job file plan

-- the file gave an answer over the job: this program and this certificate
pub record GaveAnswer (told : Holdings) (job : Job) (file : List ℕ) (program : Program) (certificate : Certificate) : Type 0 where
  pub bytes : List ℕ
  pub gave : Gave told file answer_cap bytes
  pub is : IsAnswer job bytes program certificate

-- ---- its verdict

-- the certificate is not valid, and the line tells its first broken place
pub record IsRejected (job : Job) (program : Program) (certificate : Certificate) (plan : Plan) : Type 0 where
  pub pair : ℕ
  pub obligation : ℕ
  pub step : ℕ
  pub why : Why
  pub broken : IsVerdict job program certificate (Rejected pair obligation step why)
  pub is : plan ≡ refusal status.Rejected (rejected_line pair obligation step why)

-- How an answer is turned down over a job: its file is refused, or its certificate is not valid.
pub data IsTurnedDown (told : Holdings) (job : Job) (file : List ℕ) (plan : Plan) : Type 0 where
  refused : IsRefusedAnswer told job file plan → IsTurnedDown told job file plan
  rejected : (program : Program) (certificate : Certificate) → GaveAnswer told job file program certificate → IsRejected job program certificate plan → IsTurnedDown told job file plan

-- the file gave an answer over the job whose certificate is valid, and this is its program
pub record GaveProgram (told : Holdings) (job : Job) (file : List ℕ) (program : Program) : Type 0 where
  pub certificate : Certificate
  pub gave : GaveAnswer told job file program certificate
  pub valid : IsValid job program certificate

-- what an answer's file leads to over a job where it is checked
pub data IsAnswered (told : Holdings) (job : Job) (file : List ℕ) (plan : Plan) : Type 0 where
  turned_down : IsTurnedDown told job file plan → IsAnswered told job file plan
  valid : (program : Program) → GaveProgram told job file program → plan ≡ answered accepted [] → IsAnswered told job file plan

-- ---- files

-- What a job's file and an answer's file lead to, and the names that are asked for. A job that is refused leaves the answer unread.
pub data IsChecked (told : Holdings) (file answer : List ℕ) (names : List (List ℕ)) (plan : Plan) : Type 0 where
  no_job : IsRefusedJob told file plan → names ≡ file ∷ [] → IsChecked told file answer names plan
  read : (job : Job) → GaveJob told file job → IsAnswered told job answer plan → names ≡ file ∷ answer ∷ [] → IsChecked told file answer names plan
