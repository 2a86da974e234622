-- From the plan of a command to the plan for the words that are this command.
use Rattle.std.proofs.Common.{◌≡◌, ◌≢◌, ℕ, List, [], ◌∷◌, ◌++◌, Result, Ok, Err, IfOk, Option, ◌⊎◌, inl, inr, sym, ◌∙◌, refl}
use Rattle.std.specs.Prelude.{option_to_list}
use Rattle.std.proofs.lemmas.List.{append-nil}
use Rattle.std.specs.declared.alloc.AllocError.{AllocError}
use Rattle.mig_words.specs.declared.command.Command.{Command}
use Rattle.mig_words.specs.declared.command.Command.TheVariants.{Migrate, Check, Run}
use Rattle.mig_words.specs.declared.command.Options.{Options}
use Rattle.mig_cli.specs.Migrating.{search_options}
use Rattle.mig_words.specs.declared.command.WordFault.{WordFault}
use Rattle.mig_words.specs.declared.command.WordFault.TheVariants as word
use Rattle.mig_words.specs.Commands.{IsCommand}
use Rattle.mig_words.specs.Faults.{IsFault}
use Rattle.mig_messages.specs.declared.status.Status.TheVariants.{Words}
use Rattle.mig_messages.specs.Lines as lines
use Rattle.mig_cli.specs.declared.planning.Plan.{Plan}
use Rattle.mig_cli.specs.Plans.{refusal}
use Rattle.mig_cli.specs.World.{Inputs, Spares}
use Rattle.mig_cli.specs.Asked as asked
use Rattle.mig_cli.specs.Running as running
use Rattle.mig_cli.specs.Planned as planned
use Rattle.mig_cli.specs.Desk as spec

module _ (words : List (List ℕ)) (before after : Inputs) where
  -- ---- words that lead to no work

  pub refused : (f : WordFault) → (f ≡ word.Memory) ⊎ IsFault words f → (r : Result Plan AllocError) → after.files.asked ≡ before.files.asked → Spares before after
      → IfOk r (λ p. (f ≢ word.Memory) × (p ≡ refusal Words (lines.refused_words f))) → IfOk r (spec.IsDue words before after)
  refused f (inl m) (Ok p) none same h = absurd (h.0 m)
  refused f (inr is) (Ok p) none same h = spec.outcome (spec.refused f is (none ∙ sym (append-nil before.files.asked)) same h.1)
  refused f is (Err e) none same h = tt

  pub unbuilt : (c : Command) → IsCommand words c → asked.files_of c ≡ [] → (r : Result Plan AllocError) → after.files.asked ≡ before.files.asked → Spares before after
      → IfOk r (λ p. p ≡ refusal Words lines.unbuilt_words) → IfOk r (spec.IsDue words before after)
  unbuilt c is other (Ok p) none same h = spec.outcome (spec.unbuilt c is other (none ∙ sym (append-nil before.files.asked)) same h)
  unbuilt c is other (Err e) none same h = tt

  -- ---- migrating

  pub migrated : (file : List ℕ) (options : Options) → asked.AsksToMigrate words file options → (r : Result Plan AllocError) → after.files.asked ≡ before.files.asked ++ file ∷ [] → Spares before after
      → IfOk r (planned.IsMigratePlan file (search_options options) before.files after.files) → IfOk r (spec.IsDue words before after)
  migrated file options asks (Ok p) names same (planned.unread u) = spec.unread [] file names tt (Migrate file options, asks, inl refl) u.cause same u.is
  migrated file options asks (Ok p) names same (planned.migrated h) = spec.outcome (spec.migrated file options asks names same h)
  migrated file options asks (Err e) names same h = tt

  -- ---- checking

  pub checked : (file answer : List ℕ) → asked.AsksToCheck words file answer → (r : Result Plan AllocError) → Spares before after
      → IfOk r (planned.IsCheckPlan file answer before.files after.files) → IfOk r (spec.IsDue words before after)
  checked file answer asks (Ok p) same (planned.unread earlier last names sound one u) = spec.unread earlier last names sound (Check file answer, asks, one) u.cause same u.is
  checked file answer asks (Ok p) same (planned.checked names named h) = spec.outcome (spec.checked file answer names asks named same h)
  checked file answer asks (Err e) same h = tt

  -- ---- running

  pub run : (file calls : List ℕ) (answer : Option (List ℕ)) → asked.AsksToRun words file calls answer → (r : Result Plan AllocError) → IfOk r (planned.IsRunPlan file calls answer before after)
      → IfOk r (spec.IsDue words before after)
  run file calls answer asks (Ok p) (planned.unread earlier last names sound one u same) = spec.unread earlier last names sound (Run file calls answer, asks, one) u.cause same u.is
  run file calls answer asks (Ok p) (planned.failed names cause is) = spec.failed file calls answer asks names cause is
  run file calls answer asks (Ok p) (planned.run h) = spec.outcome (spec.run file calls answer asks h)
  run file calls answer asks (Err e) h = tt

  -- what a run left is left
  pub left : (file calls : List ℕ) (answer : Option (List ℕ)) → asked.AsksToRun words file calls answer → Spares before after ⊎ running.RanSome file calls answer before after → running.IsLeft words before after
  left file calls answer asks (inl same) = inl same
  left file calls answer asks (inr h) = inr (file, calls, answer, asks, h)

-- the names of a run are its first files
pub run-names : (words before after : List (List ℕ)) (file calls : List ℕ) (answer : Option (List ℕ)) → asked.AsksToRun words file calls answer
    → planned.FirstAsked (file ∷ calls ∷ option_to_list answer) before after → asked.AskedFirst words before after
run-names words before after file calls answer asks h = inr (Run file calls answer, h.0, asks, h.1)

-- so are those of a check
pub check-names : (words before after : List (List ℕ)) (file answer : List ℕ) → asked.AsksToCheck words file answer → (after ≡ before ++ file ∷ []) ⊎ (after ≡ before ++ file ∷ answer ∷ []) → asked.AskedFirst words before after
check-names words before after file answer asks (inl e) = inr (Check file answer, 1, asks, e)
check-names words before after file answer asks (inr e) = inr (Check file answer, 2, asks, e)

-- what is said of refused words is said of their plan
pub none-named : (Told : Type 0) (f : WordFault) → (f ≢ word.Memory → Told) → (r : Result Plan AllocError)
    → IfOk r (λ p. (f ≢ word.Memory) × (p ≡ refusal Words (lines.refused_words f))) → IfOk r (λ p. p.status ≡ Words → Told)
none-named Told f k (Ok p) h = λ one. k h.0
none-named Told f k (Err e) h = tt
