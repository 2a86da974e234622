-- From what was under way, and was put or cut short, to what the desk promises.
use Rattle.std.proofs.Common.{◌≡◌, ◌≢◌, ℕ, List, [], Option, ◌⊎◌, inl, inr, sym, ap, ◌∙◌}
use Rattle.mig_messages.specs.declared.status.Status.{Status}
use Rattle.mig_messages.specs.declared.status.Status.TheVariants as status
use Rattle.mig_messages.specs.Statuses.{number}
use Rattle.mig_messages.specs.Lines.{no_memory}
use Rattle.mig_messages.proofs.Numbers.{number-one}
use Rattle.mig_cli.specs.declared.planning.Plan.{Plan}
use Rattle.mig_cli.specs.Plans.{refusal}
use Rattle.mig_cli.specs.World.{Inputs, Spares, World}
use Rattle.mig_cli.specs.Asked.{AsksForNoRun, AsksToRun}
use Rattle.mig_cli.specs.Desk as spec
use Rattle.mig_cli.specs.Running as running
use Rattle.mig_cli.proofs.Statuses.{IsKnown, known-not, outcome-known}

-- ---- outcomes

-- an outcome that isn't done left the store alone
run-spared : (file calls : List ℕ) (answer : Option (List ℕ)) (before after : Inputs) (plan : Plan) → running.IsRun file calls answer before after plan → plan.status ≢ status.Done → Spares before after
run-spared file calls answer before after plan (running.no_job h asks same) other = same
run-spared file calls answer before after plan (running.no_calls job gave h asks same) other = same
run-spared file calls answer before after plan (running.no_answer job gave list said named one h asks same) other = same
run-spared file calls answer before after plan (running.played job gave list said schema p plays text h asks is) other = absurd (other (ap (λ (p : Plan). p.status) is))

outcome-spared : (words : List (List ℕ)) (before after : Inputs) (plan : Plan) → spec.IsOutcome words before after plan → plan.status ≢ status.Done → Spares before after
outcome-spared words before after plan (spec.refused e h asks same is) other = same
outcome-spared words before after plan (spec.unbuilt command h none asks same is) other = same
outcome-spared words before after plan (spec.migrated file options asked asks same h) other = same
outcome-spared words before after plan (spec.checked file answer names asked named same h) other = same
outcome-spared words before after plan (spec.run file calls answer asked h) other = run-spared file calls answer before after plan h other

-- a store that does not fail has not failed
never-failed : (words : List (List ℕ)) (before after : World) (file calls : List ℕ) (answer : Option (List ℕ)) → AsksToRun words file calls answer → spec.NothingFails words before after
    → running.RunFailed file calls answer before.inputs after.inputs → ⊥
never-failed words before after file calls answer asks holds cause =
    elim cause.failed.why [
      | inl rise ↦ (holds.store file calls answer asks).0 rise
      | inr broken ↦ absurd (let odd = sym broken ∙ (holds.store file calls answer asks).1 in cc)
    ]

-- ---- what a status says of the plan

-- two statuses with one number are one
settle : (ended k : Status) (result : ℕ) → result ≡ number ended → result ≡ number k → ended ≡ k
settle ended k result is e = number-one ended k (sym is ∙ e)

-- a status other than that of a sink's fault is the planned one
planned-as : (planned ended k : Status) → (ended ≡ planned) ⊎ (ended ≡ status.Sink) → ended ≡ k → k ≢ status.Sink → (planned ≡ k) × (ended ≡ planned)
planned-as planned ended k (inl is) e other = (sym is ∙ e, is)
planned-as planned ended k (inr sink) e other = absurd (other (sym e ∙ sink))

-- no plan has the status of an outcome and another one
odd-outcome : (words : List (List ℕ)) (before after : Inputs) (plan : Plan) (fault : Status) → (IsKnown fault → ⊥) → spec.IsOutcome words before after plan → plan.status ≡ fault → ⊥
odd-outcome words before after plan fault never o e = known-not plan.status fault never (outcome-known words before after plan o) e

-- nor that of one refusal and of another
odd-refusal : (plan : Plan) (s fault : Status) (line : List ℕ) → s ≢ fault → plan ≡ refusal s line → plan.status ≡ fault → ⊥
odd-refusal plan s fault line other is e = other (sym (ap (λ (p : Plan). p.status) is) ∙ e)

-- ---- what the desk promises

module _
    (words : List (List ℕ)) (before after : World) (plan : Plan) (ended : Status) (result : ℕ) (is : result ≡ number ended)
    (ends : (ended ≡ plan.status) ⊎ (ended ≡ status.Sink)) (under_way : spec.IsUnderWay words before.inputs after.inputs plan)
    (whole : ended ≡ plan.status → spec.Whole before.outputs after.outputs plan.text plan.report)
    (cut : ended ≡ status.Sink → spec.Cut before.outputs after.outputs plan.text plan.report)
    (cause : ended ≡ status.Sink → spec.EitherRose before.outputs after.outputs) where
  -- a refusal that was put whole
  refused-whole : (s : Status) (line : List ℕ) → plan ≡ refusal s line → ended ≡ plan.status → spec.Whole before.outputs after.outputs [] line
  refused-whole s line p e =
      let text : plan.text ≡ [] = ap (λ (q : Plan). q.text) p in
      let report : plan.report ≡ line = ap (λ (q : Plan). q.report) p in
      rw (text, report) at (whole e)

  -- the number of the planned status
  numbered : (s : Status) (line : List ℕ) → plan ≡ refusal s line → ended ≡ plan.status → result ≡ number s
  numbered s line p e = is ∙ ap number (e ∙ ap (λ (q : Plan). q.status) p)

  put : spec.IsOutcome words before.inputs after.inputs plan → ended ≡ plan.status → spec.Put words before after result
  put o e = (plan, is ∙ ap number e, o, whole e)

  pub right : spec.Right words before after result
  right = go ends under_way
    where
      go : (ended ≡ plan.status) ⊎ (ended ≡ status.Sink) → spec.IsUnderWay words before.inputs after.inputs plan → spec.Right words before after result
      go (inr sink) u = inr (inl (is ∙ ap number sink))
      go (inl e) (spec.memory p) = inr (inr (inl (numbered status.Memory no_memory p e)))
      go (inl e) (spec.due (spec.outcome o)) = inr (inr (inr (inr (put o e))))
      go (inl e) (spec.due (spec.unread earlier file asks sound named rose same p)) = inl (numbered status.File _ p e)
      go (inl e) (spec.due (spec.failed file calls answer asked asks failed p)) = inr (inr (inr (inl (numbered status.Store _ p e))))

  pub complete : spec.Complete words before after result
  complete holds = go ends under_way
    where
      go : (ended ≡ plan.status) ⊎ (ended ≡ status.Sink) → spec.IsUnderWay words before.inputs after.inputs plan → ((result ≡ number status.Memory) × spec.Whole before.outputs after.outputs [] no_memory) ⊎ spec.Put words before after result
      go (inr sink) u = elim (cause sink) [ inl rise ↦ absurd (holds.out rise) | inr rise ↦ absurd (holds.err rise) ]
      go (inl e) (spec.memory p) = inl (numbered status.Memory no_memory p e, refused-whole status.Memory no_memory p e)
      go (inl e) (spec.due (spec.outcome o)) = inr (put o e)
      go (inl e) (spec.due (spec.unread earlier file asks sound named rose same p)) = absurd (holds.files rose)
      go (inl e) (spec.due (spec.failed file calls answer asked asks failed p)) = absurd (never-failed words before after file calls answer asked holds failed)

  pub file_fault : result ≡ number status.File → spec.FileFault words before after
  file_fault six = let s = planned-as plan.status ended status.File ends (settle ended status.File result is six) (λ h. cc) in go s.0 s.1 under_way
    where
      go : plan.status ≡ status.File → ended ≡ plan.status → spec.IsUnderWay words before.inputs after.inputs plan → spec.FileFault words before after
      go s e (spec.memory p) = absurd (odd-refusal plan status.Memory status.File no_memory (λ h. cc) p s)
      go s e (spec.due (spec.outcome o)) = absurd (odd-outcome words before.inputs after.inputs plan status.File (λ n. n) o s)
      go s e (spec.due (spec.unread earlier file asks sound named rose same p)) =
          record { cause = rose; earlier = earlier; file = file; sound = sound; named = named; asked = asks; put = refused-whole status.File _ p e }
      go s e (spec.due (spec.failed file calls answer asked asks failed p)) = absurd (odd-refusal plan status.Store status.File _ (λ h. cc) p s)

  pub store_fault : result ≡ number status.Store → spec.StoreFault words before after
  store_fault nine = let s = planned-as plan.status ended status.Store ends (settle ended status.Store result is nine) (λ h. cc) in go s.0 s.1 under_way
    where
      go : plan.status ≡ status.Store → ended ≡ plan.status → spec.IsUnderWay words before.inputs after.inputs plan → spec.StoreFault words before after
      go s e (spec.memory p) = absurd (odd-refusal plan status.Memory status.Store no_memory (λ h. cc) p s)
      go s e (spec.due (spec.outcome o)) = absurd (odd-outcome words before.inputs after.inputs plan status.Store (λ n. n) o s)
      go s e (spec.due (spec.unread earlier file asks sound named rose same p)) = absurd (odd-refusal plan status.File status.Store _ (λ h. cc) p s)
      go s e (spec.due (spec.failed file calls answer asked asks failed p)) = record { file = file; calls = calls; answer = answer; asks = asked; failed = failed; put = refused-whole status.Store _ p e }

  pub memory_fault : result ≡ number status.Memory → spec.Whole before.outputs after.outputs [] no_memory
  memory_fault eight = let s = planned-as plan.status ended status.Memory ends (settle ended status.Memory result is eight) (λ h. cc) in go s.0 s.1 under_way
    where
      go : plan.status ≡ status.Memory → ended ≡ plan.status → spec.IsUnderWay words before.inputs after.inputs plan → spec.Whole before.outputs after.outputs [] no_memory
      go s e (spec.memory p) = refused-whole status.Memory no_memory p e
      go s e (spec.due (spec.outcome o)) = absurd (odd-outcome words before.inputs after.inputs plan status.Memory (λ n. n) o s)
      go s e (spec.due (spec.unread earlier file asks sound named rose same p)) = absurd (odd-refusal plan status.File status.Memory _ (λ h. cc) p s)
      go s e (spec.due (spec.failed file calls answer asked asks failed p)) = absurd (odd-refusal plan status.Store status.Memory _ (λ h. cc) p s)

  pub sink_fault : result ≡ number status.Sink → spec.SinkFault words before after
  sink_fault seven = let sink = settle ended status.Sink result is seven in record { cause = cause sink; plan = plan; under_way = under_way; cut = cut sink }

  -- nothing is changed in the store by a call that ends early
  pub spared : spec.EndsEarly result → Spares before.inputs after.inputs
  spared early = go ends under_way
    where
      go : (ended ≡ plan.status) ⊎ (ended ≡ status.Sink) → spec.IsUnderWay words before.inputs after.inputs plan → Spares before.inputs after.inputs
      go (inr sink) u = absurd (early.1 (is ∙ ap number sink))
      go (inl e) (spec.memory p) = absurd (early.2 (numbered status.Memory no_memory p e))
      go (inl e) (spec.due (spec.outcome o)) = outcome-spared words before.inputs after.inputs plan o (λ done. early.0 (is ∙ ap number (e ∙ done)))
      go (inl e) (spec.due (spec.unread earlier file asks sound named rose same p)) = same
      go (inl e) (spec.due (spec.failed file calls answer asked asks failed p)) = absurd (early.3 (numbered status.Store _ p e))

  -- words are refused where the plan refuses them
  pub refused : (Told : Type 0) → (plan.status ≡ status.Words → Told) → result ≡ number status.Words → Told
  refused Told k one = k (planned-as plan.status ended status.Words ends (settle ended status.Words result is one) (λ h. cc)).0

-- where no run is asked for, none is left
pub alone : (words : List (List ℕ)) (before after : Inputs) → running.IsLeft words before after → AsksForNoRun words → Spares before after
alone words before after (inl same) none = same
alone words before after (inr h) none = absurd (none h.0 h.1 h.2 h.3)
