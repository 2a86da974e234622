-- What the desk puts with status 0 where the words ask to migrate is a migration.
use Rattle.std.proofs.Common.{◌≡◌, ℕ, List, Some, inl, sym, ap, refl, subst}
use Rattle.mig_schema.specs.declared.jobs.Job.{Job}
use Rattle.mig_schema.specs.declared.programs.Program.{Program}
use Rattle.mig_syntax.specs.Job.{IsTypedJobText}
use Rattle.mig_syntax.proofs.WithinTexts.{job_text}
use Rattle.mig_meaning.specs.Meeting.{AreTyped}
use Rattle.mig_words.specs.declared.command.Command.TheVariants.{Migrate}
use Rattle.mig_words.specs.declared.command.Options.{Options as Asked}
use Rattle.mig_rules.specs.Keeping.{FollowLaw}
use Rattle.mig_rules.proofs.FollowSound.{follow-law}
use Rattle.mig_certificate.specs.declared.proofs.Certificate.{Certificate}
use Rattle.mig_certificate.proofs.Shown.{valid-equivalent}
use Rattle.mig_answer.specs.AnswerText.{answer_text}
use Rattle.mig_spelling.proofs.Completions.{completion-spelled}
use Rattle.mig_spelling.proofs.Texts.{text-spelled}
use Rattle.mig_spelling.specs.Spellable.{IsSpellable}
use Rattle.mig_search.specs.declared.outcomes.Options.{Options}
use Rattle.mig_search.specs.declared.outcomes.Outcome.{Outcome}
use Rattle.mig_search.specs.declared.outcomes.Outcome.TheVariants.{Found, Exhausted, Spent}
use Rattle.mig_search.specs.declared.outcomes.Tried.{Tried}
use Rattle.mig_search.specs.Finds.{IsRightFind}
use Rattle.mig_messages.specs.declared.status.Status.TheVariants as status
use Rattle.mig_cli.specs.declared.planning.Plan.{Plan}
use Rattle.mig_cli.specs.World.{Holdings, Inputs, World}
use Rattle.mig_cli.specs.Asked.{AsksToMigrate}
use Rattle.mig_cli.specs.Jobs as jobs
use Rattle.mig_cli.specs.Migrating as migrating
use Rattle.mig_cli.specs.Desk as spec
use Rattle.mig_cli.specs.Headline.{IsMigration, Migrates}
use Rattle.mig_cli.proofs.Commands.{migrate-no_check, migrate-no_run}
use Rattle.mig_cli.proofs.Finished.{gave-held, put-done, refused-not_done, right-put, status-as}
use Rattle.mig_cli.proofs.Named.{views-spelled, pairs-spelled, labels-within}
use Rattle.mig_cli.proofs.NoKeys.{text-no_keys}

-- a step that follows leads to a proper expression with the same bag
law : FollowLaw
law = follow-law

-- both programs are typed, and have the same functions
find-typed : (bytes : List ℕ) (job : Job) (program : Program) (certificate : Certificate) → IsTypedJobText bytes job → IsRightFind job program certificate → AreTyped job.source job.target job.program program
find-typed bytes job program certificate t r = record {
  source = t.typed.program;
  target = r.completes.typed;
  source_labels = labels-within job.program (job_text bytes job t.text);
  target_labels = labels-within program r.completes.within;
  functions = r.valid.functions;
  no_keys = text-no_keys bytes job t.text;
}

-- the grammar spells what is found
find-spelled : (bytes : List ℕ) (job : Job) (program : Program) (certificate : Certificate) → IsTypedJobText bytes job → IsRightFind job program certificate → IsSpellable program certificate
find-spelled bytes job program certificate t r =
    let old = text-spelled bytes job t.text in
    record {
      functions = completion-spelled job program old r.completes;
      invariants = views-spelled job certificate.invariants.list r.within.outputs;
      pairs = pairs-spelled job.source job.target certificate.invariants.list job.program.functions program.functions certificate.pairs r.valid.proofs old;
    }

-- the answer with a program that was found is a migration
answer-migrates : (bytes : List ℕ) (job : Job) (program : Program) (certificate : Certificate) → IsTypedJobText bytes job → IsRightFind job program certificate → IsMigration bytes (answer_text job program certificate)
answer-migrates bytes job program certificate t r =
    let typed = find-typed bytes job program certificate t r in
    record {
      job = job;
      program = program;
      certificate = certificate;
      spelled = t.text;
      source = t.typed;
      written = refl;
      target = r.completes.typed;
      spellable = find-spelled bytes job program certificate t r;
      functions = r.valid.functions;
      valid = r.valid;
      equivalent = valid-equivalent job program certificate r.valid typed law;
    }

-- a program that was found, where its answer is put
found-done : (bytes : List ℕ) (job : Job) (program : Program) (certificate : Certificate) (tried : List Tried) (plan : Plan) → IsTypedJobText bytes job → plan.status ≡ status.Done → IsRightFind job program certificate → migrating.IsFound job program certificate tried plan → IsMigration bytes plan.text
found-done bytes job program certificate tried plan t done r (migrating.short few is) =
    subst (λ (x : List ℕ). IsMigration bytes x) (sym (ap (λ (p : Plan). p.text) is)) (answer-migrates bytes job program certificate t r)
found-done bytes job program certificate tried plan t done r (migrating.long many is) = absurd (let odd : status.Limit ≡ status.Done = status-as plan _ is done in cc)

-- what is told of a search and done is a migration
told-done : (bytes : List ℕ) (job : Job) (outcome : Outcome) (plan : Plan) → IsTypedJobText bytes job → plan.status ≡ status.Done → migrating.Tells job outcome plan → IsMigration bytes plan.text
told-done bytes job (Found program certificate tried) plan t done h = found-done bytes job program certificate tried plan t done h.0 h.1
told-done bytes job (Exhausted tried) plan t done h = absurd (let odd : status.Exhausted ≡ status.Done = status-as plan _ h done in cc)
told-done bytes job (Spent tried) plan t done h = absurd (let odd : status.Spent ≡ status.Done = status-as plan _ h done in cc)

-- what is migrated and done is a migration of the told job
migrated-done : (told : Holdings) (file held : List ℕ) (options : Options) (plan : Plan) → told file ≡ Some held → plan.status ≡ status.Done → migrating.IsMigrated told file options plan → IsMigration held plan.text
migrated-done told file held options plan holds done (migrating.refused h) = absurd (refused-not_done told file plan h done)
migrated-done told file held options plan holds done (migrating.searched job gave h) =
    subst (λ (b : List ℕ). IsMigration b plan.text) (gave-held told file jobs.job_cap gave.bytes held holds gave.gave) (told-done gave.bytes job h.outcome plan gave.spells done h.tells)

-- so is the outcome where the words ask to migrate
outcome-migrates : (words : List (List ℕ)) (before after : Inputs) (plan : Plan) → spec.Tells before.files.told words → ((file : List ℕ) × (options : Asked) × AsksToMigrate words file options) → plan.status ≡ status.Done
    → spec.IsOutcome words before after plan
    → (file : List ℕ) × (options : Asked) × (bytes : List ℕ) × AsksToMigrate words file options × (before.files.told file ≡ Some bytes) × IsMigration bytes plan.text
outcome-migrates words before after plan tells asks done (spec.refused e h names same is) = absurd (let odd : status.Words ≡ status.Done = status-as plan _ is done in cc)
outcome-migrates words before after plan tells asks done (spec.unbuilt command h none names same is) = absurd (let odd : status.Words ≡ status.Done = status-as plan _ is done in cc)
outcome-migrates words before after plan tells asks done (spec.migrated file options asked names same h) =
    let t = tells file (Migrate file options, asked, inl refl) in
    (file, options, t.0, asked, t.1, migrated-done before.files.told file t.0 (migrating.search_options options) plan t.1 done h)
outcome-migrates words before after plan tells asks done (spec.checked file answer names asked named same h) = absurd (migrate-no_check words asks.0 file answer asks.1 asks.2 asked)
outcome-migrates words before after plan tells asks done (spec.run file calls answer asked h) = absurd (migrate-no_run words asks.0 file calls answer asks.1 asks.2 asked)

-- what is right and done is a migration that was put whole
pub right-migrates : (words : List (List ℕ)) (before after : World) (result : ℕ) → spec.Right words before after result → Migrates words before after result
right-migrates words before after result right tells asks zero =
    let put = right-put words before after result right zero in
    let m = outcome-migrates words before.inputs after.inputs put.0 tells asks (put-done words before after result put zero) put.2 in
    (m.0, m.1, m.2, put.0.text, m.3, m.4, put.3.answered, m.5)
