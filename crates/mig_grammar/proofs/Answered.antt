-- The answer for a job and for a program, by what reading gave.
use Rattle.std.proofs.Common.{◌≡◌, ℕ, List, [], ◌∷◌, ◌++◌, None, Ok, Err, refl}
use Rattle.mig_tokens.specs.declared.token.Token.{Token}
use Rattle.mig_tokens.specs.declared.token.Token.TheVariants.{End}
use Rattle.mig_tokens.specs.declared.fault.ReadError.{ReadError}
use Rattle.mig_tokens.specs.Marked.{Marked}
use Rattle.mig_tokens.specs.Reading.{Took}
use Rattle.mig_tokens.specs.Given.{Fails}
use Rattle.mig_tokens.specs.Texts.{Lexed, IsAnswerIn}
use Rattle.mig_grammar.specs.declared.tree.FunctionTree.{FunctionTree}
use Rattle.mig_grammar.specs.declared.tree.JobTree.{JobTree}
use Rattle.mig_grammar.specs.ReadingJobs.{job_at, program_at}
use Rattle.mig_grammar.specs.Spelling.{job_tokens, program_tokens}
use Rattle.mig_grammar.specs.Shapes.{IsJobTree, AreFunctions}
use Rattle.mig_tokens.proofs.Answer.{took, failed}
use Rattle.mig_grammar.proofs.Ends.{job_body, job_last, job_once, functions_tokens, program_once}
use Rattle.mig_grammar.proofs.JobParts.{job_part, program_part}

-- ---- of a job

job_ends : (j : JobTree) → IsJobTree j → (body : List Marked) × (job_tokens j ≡ body ++ (End, None) ∷ [])
job_ends j f = (job_body j, job_last j)

pub job_took : (bytes : List ℕ) (ts : List Token) → Lexed bytes ts → (s : JobTree) (rest : List Token) → job_at ts ≡ Took s rest → IsAnswerIn job_tokens IsJobTree bytes (Ok s)
job_took = took job_at job_tokens IsJobTree job_part.law job_ends (λ x a b f g. job_once x a b g)

pub job_failed : (bytes : List ℕ) (ts : List Token) → Lexed bytes ts → (e : ReadError) → Fails e (job_at ts) → IsAnswerIn job_tokens IsJobTree bytes (Err e)
job_failed = failed job_at job_tokens IsJobTree job_part.law job_ends (λ x a b f g. job_once x a b g)

-- ---- of a program alone

program_ends : (fs : List FunctionTree) → AreFunctions fs → (body : List Marked) × (program_tokens fs ≡ body ++ (End, None) ∷ [])
program_ends fs f = (functions_tokens fs, refl)

pub program_took : (bytes : List ℕ) (ts : List Token) → Lexed bytes ts → (s : List FunctionTree) (rest : List Token) → program_at ts ≡ Took s rest → IsAnswerIn program_tokens AreFunctions bytes (Ok s)
program_took = took program_at program_tokens AreFunctions program_part.law program_ends (λ x a b f g. program_once x a b g)

pub program_failed : (bytes : List ℕ) (ts : List Token) → Lexed bytes ts → (e : ReadError) → Fails e (program_at ts) → IsAnswerIn program_tokens AreFunctions bytes (Err e)
program_failed = failed program_at program_tokens AreFunctions program_part.law program_ends (λ x a b f g. program_once x a b g)
