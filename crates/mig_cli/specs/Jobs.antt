-- What files give that are read, and what a job's file leads to.
use Rattle.std.specs.Prelude.{◌≡◌, ℕ, ◌<◌, ◌≤◌, List, length}
use Rattle.std.specs.Option.{ForSome}
use Rattle.mig_schema.specs.declared.faults.TypeFault.{TypeFault}
use Rattle.mig_schema.specs.declared.jobs.Job.{Job}
use Rattle.mig_schema.specs.declared.limits.Limit.{Limit}
use Rattle.mig_schema.specs.declared.limits.Limit.TheVariants.{Pairs}
use Rattle.mig_tokens.specs.Refused.{StandsWrong, StandsPast}
use Rattle.mig_grammar.specs.Spelling.{job_tokens}
use Rattle.mig_grammar.specs.Shapes.{IsJobTree}
use Rattle.mig_syntax.specs.declared.fault.TextFault.{TextFault}
use Rattle.mig_syntax.specs.declared.fault.TextFault.TheVariants as fault
use Rattle.mig_syntax.specs.Job.{IsTypedJobText, IsMistypedJobText, HasManyPairs}
use Rattle.mig_messages.specs.declared.status.Status.TheVariants as status
use Rattle.mig_messages.specs.Statuses.{fault_status}
use Rattle.mig_messages.specs.Lines.{too_long, fault_line}
use Rattle.mig_cli.specs.declared.planning.Plan.{Plan}
use Rattle.mig_cli.specs.Plans.{refusal}
use Rattle.mig_cli.specs.World.{Holdings}

-- ---- files

-- The file gave these bytes, at most so many; where it tells what it holds, they are the told ones.
pub record Gave (told : Holdings) (file : List ℕ) (cap : ℕ) (bytes : List ℕ) : Type 0 where
  pub holds : ForSome (told file) (λ held. bytes ≡ held)
  pub few : length bytes ≤ cap

-- the file is longer; where it tells what it holds, the told bytes are more
abbrev pub IsLonger : Holdings → List ℕ → ℕ → Type 0
IsLonger told file cap = ForSome (told file) (λ held. cap < length held)

-- ---- jobs

-- the greatest length of a job
abbrev pub job_cap : ℕ
job_cap = 262144

-- the first fault of bytes that spell no typed job within the limits: the first wrong token or passed limit, then the first broken typing rule, then too many pairs of columns
pub data IsTextFault (bytes : List ℕ) (e : TextFault) : Type 0 where
  wrong : (row column : ℕ) → StandsWrong job_tokens IsJobTree bytes row column → e ≡ fault.At row column → IsTextFault bytes e
  past : (which : Limit) (row : ℕ) → StandsPast job_tokens IsJobTree which bytes row → e ≡ fault.Limit which row → IsTextFault bytes e
  mistyped : (f : TypeFault) → IsMistypedJobText bytes f → e ≡ fault.Typing f → IsTextFault bytes e
  many : HasManyPairs bytes → e ≡ fault.Limit Pairs 0 → IsTextFault bytes e

-- how a job's file is refused: it is too long, or its text has a fault
pub data IsRefusedJob (told : Holdings) (file : List ℕ) (plan : Plan) : Type 0 where
  long : IsLonger told file job_cap → plan ≡ refusal status.Limit (too_long file job_cap) → IsRefusedJob told file plan
  faulty : (bytes : List ℕ) (e : TextFault) → Gave told file job_cap bytes → IsTextFault bytes e → plan ≡ refusal (fault_status e) (fault_line file e) → IsRefusedJob told file plan

-- the file gave a typed job within the limits
pub record GaveJob (told : Holdings) (file : List ℕ) (job : Job) : Type 0 where
  pub bytes : List ℕ
  pub gave : Gave told file job_cap bytes
  pub spells : IsTypedJobText bytes job
