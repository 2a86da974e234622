-- Which jobs the bytes of a text are, and what is answered for the bytes.
use Rattle.std.specs.Prelude.{◌≡◌, ◌⊎◌, ℕ, ◌<◌, ◌≤◌, List, Result, Ok, Err, IfOk}
use Rattle.mig_schema.specs.declared.faults.TypeFault.{TypeFault}
use Rattle.mig_schema.specs.declared.jobs.Job.{Job}
use Rattle.mig_schema.specs.Typed.{IsTyped}
use Rattle.mig_schema.specs.declared.limits.Limit.{Limit}
use Rattle.mig_schema.specs.declared.limits.Limit.TheVariants.{Pairs}
use Rattle.mig_tokens.specs.Refused.{StandsWrong, StandsPast}
use Rattle.mig_grammar.specs.Spelling.{job_tokens}
use Rattle.mig_grammar.specs.Shapes.{IsJobTree}
use Rattle.mig_syntax.specs.declared.fault.TextFault.{TextFault}
use Rattle.mig_syntax.specs.declared.fault.TextFault.TheVariants as fault
use Rattle.mig_syntax.specs.Named.{IsNamedText, IsMistypedText}
use Rattle.mig_syntax.specs.Naming.{job_of}
use Rattle.mig_syntax.specs.Pairs.{pairs_of}
use Rattle.mig_syntax.specs.TypingFault.{IsTypingFault}

-- the bytes spell the names and numbers of this job within the limits of the grammar
abbrev pub IsJobText : List ℕ → Job → Type 0
IsJobText = IsNamedText job_tokens IsJobTree job_of

-- the bytes spell this job, which is typed, and has at most 256 pairs of columns of one kind
pub record IsTypedJobText (bytes : List ℕ) (job : Job) : Type 0 where
  pub text : IsJobText bytes job
  pub typed : IsTyped job
  pub few : pairs_of job ≤ 256

-- the bytes spell a job whose first broken typing rule is this one
abbrev pub IsMistypedJobText : List ℕ → TypeFault → Type 0
IsMistypedJobText = IsMistypedText job_tokens IsJobTree job_of IsTypingFault

-- the bytes spell a typed job that has more than 256 pairs of columns of one kind
pub record HasManyPairs (bytes : List ℕ) : Type 0 where
  pub job : Job
  pub text : IsJobText bytes job
  pub typed : IsTyped job
  pub many : 256 < pairs_of job

-- what is answered for the bytes
pub record IsJobAnswer (bytes : List ℕ) (result : Result Job TextFault) : Type 0 where
  -- a job is answered exactly where the bytes spell it, and it is typed and within all limits
  pub found : IfOk result (λ job. IsTypedJobText bytes job)
  pub only : (job : Job) → IsTypedJobText bytes job → (result ≡ Ok job) ⊎ (result ≡ Err fault.Memory)
  -- a place, exactly where the first wrong token stands there
  pub wrong : (line column : ℕ) → result ≡ Err (fault.At line column) → StandsWrong job_tokens IsJobTree bytes line column
  pub only_wrong : (line column : ℕ) → StandsWrong job_tokens IsJobTree bytes line column → (result ≡ Err (fault.At line column)) ⊎ (result ≡ Err fault.Memory)
  -- a limit and a line from 1 on, exactly where the first token that passes a limit stands there
  pub past : (which : Limit) (line : ℕ) → 0 < line → result ≡ Err (fault.Limit which line) → StandsPast job_tokens IsJobTree which bytes line
  pub only_past : (which : Limit) (line : ℕ) → StandsPast job_tokens IsJobTree which bytes line → (result ≡ Err (fault.Limit which line)) ⊎ (result ≡ Err fault.Memory)
  -- a typing fault, exactly where that is the first broken rule
  pub typing : (f : TypeFault) → result ≡ Err (fault.Typing f) → IsMistypedJobText bytes f
  pub only_typing : (f : TypeFault) → IsMistypedJobText bytes f → (result ≡ Err (fault.Typing f)) ⊎ (result ≡ Err fault.Memory)
  -- the limit for pairs, in line 0, exactly where a typed job has too many
  pub pairs : (which : Limit) → result ≡ Err (fault.Limit which 0) → (which ≡ Pairs) × HasManyPairs bytes
  pub only_pairs : HasManyPairs bytes → (result ≡ Err (fault.Limit Pairs 0)) ⊎ (result ≡ Err fault.Memory)
