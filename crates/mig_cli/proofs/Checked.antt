-- An answer that is accepted is valid for its job.
use Rattle.std.proofs.Common.{◌≡◌, ◌≢◌, ℕ, List, Some, inl, inr, ap, refl, subst}
use Rattle.mig_schema.specs.declared.jobs.Job.{Job}
use Rattle.mig_schema.specs.declared.programs.Program.{Program}
use Rattle.mig_syntax.specs.Job.{IsTypedJobText}
use Rattle.mig_syntax.proofs.WithinTexts.{job_text, program_text}
use Rattle.mig_meaning.specs.Meeting.{AreTyped}
use Rattle.mig_words.specs.declared.command.Command.TheVariants.{Check}
use Rattle.mig_rules.specs.Keeping.{FollowLaw}
use Rattle.mig_rules.proofs.FollowSound.{follow-law}
use Rattle.mig_certificate.specs.declared.proofs.Certificate.{Certificate}
use Rattle.mig_certificate.specs.Valid.{IsValid}
use Rattle.mig_certificate.proofs.Shown.{valid-equivalent}
use Rattle.mig_reading.specs.IsAnswer.{IsAnswer, program_lines}
use Rattle.mig_messages.specs.declared.status.Status.TheVariants as status
use Rattle.mig_messages.specs.VerdictLines.{accepted}
use Rattle.mig_cli.specs.declared.planning.Plan.{Plan}
use Rattle.mig_cli.specs.World.{Holdings, Inputs, World}
use Rattle.mig_cli.specs.Asked.{AsksToCheck}
use Rattle.mig_cli.specs.Jobs as jobs
use Rattle.mig_cli.specs.Migrating.{answer_cap}
use Rattle.mig_cli.specs.Checking as checking
use Rattle.mig_cli.specs.Desk as spec
use Rattle.mig_cli.specs.Headline.{Checks, IsValidAnswer}
use Rattle.mig_cli.proofs.Commands.{check-no_run, migrate-no_check}
use Rattle.mig_cli.proofs.Finished.{gave-held, never-done, put-done, refused-not_done, right-put, status-as}
use Rattle.mig_cli.proofs.Named.{labels-within}
use Rattle.mig_cli.proofs.NoKeys.{text-no_keys}

-- a step that follows leads to a proper expression with the same bag
law : FollowLaw
law = follow-law

module _ (bytes text : List ℕ) (job : Job) (program : Program) (certificate : Certificate) (t : IsTypedJobText bytes job) (a : IsAnswer job text program certificate) (v : IsValid job program certificate) where
  -- both programs are typed, and have the same functions
  answer-typed : AreTyped job.source job.target job.program program
  answer-typed = record {
    source = t.typed.program;
    target = a.parts.program.typed;
    source_labels = labels-within job.program (job_text bytes job t.text);
    target_labels = labels-within program (program_text job.target (program_lines a.lines) program a.parts.program.text);
    functions = v.functions;
    no_keys = text-no_keys bytes job t.text;
  }

  -- a text that is an answer with a valid certificate is a valid answer
  valid-answer : IsValidAnswer bytes text
  valid-answer = record {
    job = job;
    program = program;
    certificate = certificate;
    spelled = t.text;
    source = t.typed;
    is = a;
    target = a.parts.program.typed;
    functions = v.functions;
    valid = v;
    equivalent = valid-equivalent job program certificate v answer-typed law;
  }

-- what turns an answer down is not done
pub turned-not_done : (told : Holdings) (job : Job) (file : List ℕ) (plan : Plan) → checking.IsTurnedDown told job file plan → plan.status ≢ status.Done
turned-not_done told job file plan (checking.refused (checking.long longer is)) done = let odd : status.Limit ≡ status.Done = status-as plan _ is done in cc
turned-not_done told job file plan (checking.refused (checking.faulty text e gave none other is)) done = never-done e (status-as plan _ is done)
turned-not_done told job file plan (checking.rejected program certificate gave h) done = let odd : status.Rejected ≡ status.Done = status-as plan _ h.is done in cc

-- the text of a file that gave a valid answer over the job of these bytes is a valid answer
pub given-valid : (told : Holdings) (bytes : List ℕ) (job : Job) (file held : List ℕ) (program : Program) → IsTypedJobText bytes job → told file ≡ Some held → (gave : checking.GaveProgram told job file program)
    → IsAnswer job held program gave.certificate
given-valid told bytes job file held program t holds gave =
    subst (λ (x : List ℕ). IsAnswer job x program gave.certificate) (gave-held told file answer_cap gave.gave.bytes held holds gave.gave.gave) gave.gave.is

-- what an answer's file leads to over the job of these bytes, where it is done
answered-done : (told : Holdings) (bytes : List ℕ) (job : Job) (file held : List ℕ) (plan : Plan) → IsTypedJobText bytes job → told file ≡ Some held → plan.status ≡ status.Done → checking.IsAnswered told job file plan
    → (plan.text ≡ accepted) × IsValidAnswer bytes held
answered-done told bytes job file held plan t holds done (checking.turned_down h) = absurd (turned-not_done told job file plan h done)
answered-done told bytes job file held plan t holds done (checking.valid program gave is) =
    (ap (λ (p : Plan). p.text) is, valid-answer bytes held job program gave.certificate t (given-valid told bytes job file held program t holds gave) gave.valid)

-- what is checked and done, of files that tell what they hold
checked-done : (told : Holdings) (file answer bytes text : List ℕ) (names : List (List ℕ)) (plan : Plan) → told file ≡ Some bytes → told answer ≡ Some text → plan.status ≡ status.Done → checking.IsChecked told file answer names plan
    → (plan.text ≡ accepted) × IsValidAnswer bytes text
checked-done told file answer bytes text names plan first second done (checking.no_job h one) = absurd (refused-not_done told file plan h done)
checked-done told file answer bytes text names plan first second done (checking.read job gave h two) =
    subst (λ (b : List ℕ). (plan.text ≡ accepted) × IsValidAnswer b text) (gave-held told file jobs.job_cap gave.bytes bytes first gave.gave)
    (answered-done told gave.bytes job answer text plan gave.spells second done h)

-- so is the outcome where the words ask to check
outcome-checks : (words : List (List ℕ)) (before after : Inputs) (plan : Plan) → spec.Tells before.files.told words → ((file : List ℕ) × (answer : List ℕ) × AsksToCheck words file answer) → plan.status ≡ status.Done
    → spec.IsOutcome words before after plan
    → (file : List ℕ) × (answer : List ℕ) × (bytes : List ℕ) × (text : List ℕ) × AsksToCheck words file answer × (before.files.told file ≡ Some bytes) × (before.files.told answer ≡ Some text)
    × (plan.text ≡ accepted) × IsValidAnswer bytes text
outcome-checks words before after plan tells asks done (spec.refused e h names same is) = absurd (let odd : status.Words ≡ status.Done = status-as plan _ is done in cc)
outcome-checks words before after plan tells asks done (spec.unbuilt command h none names same is) = absurd (let odd : status.Words ≡ status.Done = status-as plan _ is done in cc)
outcome-checks words before after plan tells asks done (spec.migrated file options asked names same h) = absurd (migrate-no_check words file asks.0 asks.1 options asked asks.2)
outcome-checks words before after plan tells asks done (spec.checked file answer names asked named same h) =
    let t = tells file (Check file answer, asked, inl refl) in
    let u = tells answer (Check file answer, asked, inr (inl refl)) in
    let d = checked-done before.files.told file answer t.0 u.0 names plan t.1 u.1 done h in
    (file, answer, t.0, u.0, asked, t.1, u.1, d.0, d.1)
outcome-checks words before after plan tells asks done (spec.run file calls named asked h) = absurd (check-no_run words asks.0 asks.1 file calls named asks.2 asked)

-- what is right and done is the line that accepts, put whole
pub right-checks : (words : List (List ℕ)) (before after : World) (result : ℕ) → spec.Right words before after result → Checks words before after result
right-checks words before after result right tells asks zero =
    let put = right-put words before after result right zero in
    let m = outcome-checks words before.inputs after.inputs put.0 tells asks (put-done words before after result put zero) put.2 in
    (m.0, m.1, m.2, m.3, m.4, m.5, m.6, rw m.7 at put.3.answered, m.8)
