-- From what an answer's bytes and the files of a check lead to, to what the plan says.
use Rattle.std.proofs.Common.{◌≡◌, ◌≢◌, ℕ, ◌≤◌, List, [], ◌∷◌, ◌++◌, Result, Ok, Err, IfOk, IfErr, ◌⊎◌, inl, inr, sym, ap, ◌∙◌, refl, subst, append_assoc, arith}
use Rattle.std.specs.declared.alloc.AllocError.{AllocError}
use Rattle.mig_schema.specs.declared.jobs.Job.{Job}
use Rattle.mig_schema.specs.declared.programs.Program.{Program}
use Rattle.mig_syntax.specs.declared.fault.TextFault.{TextFault}
use Rattle.mig_syntax.specs.declared.fault.TextFault.TheVariants as fault
use Rattle.mig_certificate.specs.declared.proofs.Certificate.{Certificate}
use Rattle.mig_certificate.specs.Valid.{IsValid}
use Rattle.mig_reading.specs.IsAnswer.{IsAnswer}
use Rattle.mig_messages.specs.Statuses.{fault_status}
use Rattle.mig_messages.specs.Lines.{fault_line}
use Rattle.mig_checker.specs.declared.verdicts.Verdict.{Verdict}
use Rattle.mig_checker.specs.declared.verdicts.Verdict.TheVariants.{Rejected}
use Rattle.mig_checker.specs.declared.verdicts.Why.{Why}
use Rattle.mig_checker.specs.Verdict.{IsVerdict}
use Rattle.mig_messages.specs.declared.status.Status.TheVariants as status
use Rattle.mig_messages.specs.VerdictLines.{accepted, rejected_line}
use Rattle.mig_cli.specs.declared.planning.Plan.{Plan}
use Rattle.mig_cli.specs.Plans as plans
use Rattle.mig_cli.specs.Plans.{refusal}
use Rattle.mig_cli.specs.World.{FilesMeaning}
use Rattle.mig_cli.specs.Jobs as jobs
use Rattle.mig_cli.specs.Migrating.{answer_cap}
use Rattle.mig_cli.specs.Checking as checking
use Rattle.mig_cli.specs.Planned as spec

-- what reading answers with a fault
abbrev pub refusing : TextFault → Result (Program × Certificate) TextFault
refusing e = Err e

-- the plan of an answer that is accepted
abbrev accepting : Plan
accepting = plans.answered accepted []

-- a verdict that rejects is told
pub told-rejected : (job : Job) (program : Program) (certificate : Certificate) (v : Verdict) (pair obligation step : ℕ) (why : Why) (p : Plan) → v ≡ Rejected pair obligation step why → IsVerdict job program certificate v
    → p ≡ refusal status.Rejected (rejected_line pair obligation step why) → checking.IsRejected job program certificate p
told-rejected job program certificate v pair obligation step why p is right told =
    record { pair = pair; obligation = obligation; step = step; why = why; broken = subst (λ (w : Verdict). IsVerdict job program certificate w) is right; is = told }

module _ (job : Job) (file bytes : List ℕ) where
  -- bytes that reading refuses for another reason than memory are no answer
  no-answer : (e : TextFault) → e ≢ fault.Memory
      → ((p : Program) (c : Certificate) → IsAnswer job bytes p c → (refusing e ≡ Ok (p, c)) ⊎ (refusing e ≡ Err fault.Memory)) → checking.IsNoAnswer job bytes
  no-answer e other only p c a =
      elim (only p c a) [
        | inl ok ↦ absurd (let odd : refusing e ≡ Ok (p, c) = ok in cc)
        | inr memory ↦ absurd (let both : refusing e ≡ Err fault.Memory = memory in other cc)
      ]

  -- bytes that were refused are turned down
  pub faulty : (e : TextFault) (p : Plan)
      → ((p : Program) (c : Certificate) → IsAnswer job bytes p c → (refusing e ≡ Ok (p, c)) ⊎ (refusing e ≡ Err fault.Memory))
      → (e ≢ fault.Memory) × (p ≡ refusal (fault_status e) (fault_line file e)) → spec.IsTurnedText job file bytes p
  faulty e p only h = spec.faulty e (no-answer e h.0 only) h.0 h.1

  module _ (program : Program) (certificate : Certificate) (a : IsAnswer job bytes program certificate) where
    -- bytes that were read are an answer that is valid
    pub valid : (r : Result (Result Program Plan) AllocError) → IfOk r (λ q. IfOk q (λ p. (p ≡ program) × IsValid job program certificate)) → IfOk r (λ q. IfOk q (spec.IsValidText job bytes))
    valid (Ok (Ok p)) h = subst (λ (x : Program). spec.IsValidText job bytes x) (sym h.0) (record { certificate = certificate; is = a; valid = h.1 })
    valid (Ok (Err p)) h = tt
    valid (Err e) h = tt

    -- or turned down
    pub rejected : (r : Result (Result Program Plan) AllocError) → IfOk r (λ q. IfErr q (checking.IsRejected job program certificate)) → IfOk r (λ q. IfErr q (spec.IsTurnedText job file bytes))
    rejected (Ok (Ok p)) h = tt
    rejected (Ok (Err p)) h = spec.rejected program certificate a h
    rejected (Err e) h = tt

module _ (job : Job) (file : List ℕ) (before after : FilesMeaning) where
  -- an answer that was not fetched gives no program
  pub not-fetched : (p : Plan) → spec.IsUnfetched file answer_cap before after p → spec.IsNoProgram job file before after p
  not-fetched p (spec.unread h) = spec.unread h
  not-fetched p (spec.long longer is) = spec.turned_down (checking.refused (checking.long longer is))

  -- nor does one whose bytes are turned down
  pub not-valid : (bytes : List ℕ) (r : Result (Result Program Plan) AllocError) → jobs.Gave before.told file answer_cap bytes → IfOk r (λ q. IfErr q (spec.IsTurnedText job file bytes))
      → IfOk r (λ q. IfErr q (spec.IsNoProgram job file before after))
  not-valid bytes (Ok (Ok p)) gave h = tt
  not-valid bytes (Ok (Err p)) gave (spec.faulty e none other is) = spec.turned_down (checking.refused (checking.faulty bytes e gave none other is))
  not-valid bytes (Ok (Err p)) gave (spec.rejected program certificate a h) = spec.turned_down (checking.rejected program certificate (record { bytes = bytes; gave = gave; is = a }) h)
  not-valid bytes (Err e) gave h = tt

  -- one that is valid does
  pub given : (bytes : List ℕ) (r : Result (Result Program Plan) AllocError) → jobs.Gave before.told file answer_cap bytes → IfOk r (λ q. IfOk q (spec.IsValidText job bytes))
      → IfOk r (λ q. IfOk q (checking.GaveProgram before.told job file))
  given bytes (Ok (Ok p)) gave h = record { certificate = h.certificate; gave = record { bytes = bytes; gave = gave; is = h.is }; valid = h.valid }
  given bytes (Ok (Err p)) gave h = tt
  given bytes (Err e) gave h = tt

  -- without a program the check says why
  pub not-answered : (p : Plan) → spec.IsNoProgram job file before after p → spec.IsAnswerPlan job file before after p
  not-answered p (spec.unread h) = spec.unread h
  not-answered p (spec.turned_down h) = spec.read (checking.turned_down h)

  -- with one it accepts
  pub answered : (program : Program) (r : Result Plan AllocError) → checking.GaveProgram before.told job file program → IfOk r (λ p. p ≡ accepting) → IfOk r (spec.IsAnswerPlan job file before after)
  answered program (Ok p) gave h = spec.read (checking.valid program gave h)
  answered program (Err e) gave h = tt

module _ (file answer : List ℕ) (before after : FilesMeaning) where
  -- without a job nothing is checked
  pub not-checked : (p : Plan) → after.asked ≡ before.asked ++ file ∷ [] → spec.IsNoJob file before after p → spec.IsCheckPlan file answer before after p
  not-checked p asks (spec.unread h) = spec.unread [] file asks tt (inl refl) h
  not-checked p asks (spec.refused h) = spec.checked (file ∷ []) asks (checking.no_job h refl)

  module _ (between : FilesMeaning) where
    -- with one, what the answer leads to
    read : (job : Job) (p : Plan) → before.faults ≤ between.faults → between.told ≡ before.told → after.asked ≡ before.asked ++ file ∷ answer ∷ [] → jobs.GaveJob before.told file job
        → spec.IsAnswerPlan job answer between after p → spec.IsCheckPlan file answer before after p
    read job p le told asks gave (spec.unread h) = spec.unread (file ∷ []) answer asks (job, gave) (inr (inl refl)) (record { cause = omega (arith, le, h.cause); is = h.is })
    read job p le told asks gave (spec.read h) = spec.checked (file ∷ answer ∷ []) asks (checking.read job gave (rw told at h) refl)

    -- both names were asked for, one after the other
    two-names : between.asked ≡ before.asked ++ file ∷ [] → after.asked ≡ between.asked ++ answer ∷ [] → after.asked ≡ before.asked ++ file ∷ answer ∷ []
    two-names first second = second ∙ ap (λ (n : List (List ℕ)). n ++ answer ∷ []) first ∙ append_assoc before.asked (file ∷ []) (answer ∷ [])

    -- the plan of a check whose job was read
    pub checked : (job : Job) (r : Result Plan AllocError) → before.faults ≤ between.faults → between.told ≡ before.told → between.asked ≡ before.asked ++ file ∷ [] → after.asked ≡ between.asked ++ answer ∷ []
        → jobs.GaveJob before.told file job → IfOk r (spec.IsAnswerPlan job answer between after) → IfOk r (spec.IsCheckPlan file answer before after)
    checked job (Ok p) le told first second gave h = read job p le told (two-names first second) gave h
    checked job (Err e) le told first second gave h = tt
