-- Which statuses the outcome has.
use Rattle.std.proofs.Common.{◌≡◌, ◌≢◌, ℕ, List, Option, refl, sym, ap, ◌∙◌, subst}
use Rattle.mig_schema.specs.declared.jobs.Job.{Job}
use Rattle.mig_schema.specs.declared.programs.Program.{Program}
use Rattle.mig_certificate.specs.declared.proofs.Certificate.{Certificate}
use Rattle.mig_search.specs.declared.outcomes.Options.{Options}
use Rattle.mig_search.specs.declared.outcomes.Outcome.{Outcome}
use Rattle.mig_search.specs.declared.outcomes.Outcome.TheVariants.{Found, Exhausted, Spent}
use Rattle.mig_search.specs.declared.outcomes.Tried.{Tried}
use Rattle.mig_syntax.specs.declared.fault.TextFault.{TextFault}
use Rattle.mig_syntax.specs.declared.fault.TextFault.TheVariants as text
use Rattle.mig_store.specs.declared.faults.CallsFault.{CallsFault}
use Rattle.mig_store.specs.declared.faults.CallsFault.TheVariants as calls
use Rattle.mig_messages.specs.declared.status.Status.{Status}
use Rattle.mig_messages.specs.declared.status.Status.TheVariants as status
use Rattle.mig_messages.specs.Statuses.{calls_status, fault_status}
use Rattle.mig_cli.specs.declared.planning.Plan.{Plan}
use Rattle.mig_cli.specs.World.{Holdings, Inputs}
use Rattle.mig_cli.specs.Jobs as jobs
use Rattle.mig_cli.specs.Migrating as migrating
use Rattle.mig_cli.specs.Checking as checking
use Rattle.mig_cli.specs.Running as running
use Rattle.mig_cli.specs.Desk as spec

-- a status of an outcome: no fault's
abbrev pub IsKnown : Status → Type 0
IsKnown status.Done = Unit {0}
IsKnown status.Words = Unit {0}
IsKnown status.Text = Unit {0}
IsKnown status.Exhausted = Unit {0}
IsKnown status.Spent = Unit {0}
IsKnown status.Rejected = Unit {0}
IsKnown status.File = ⊥
IsKnown status.Sink = ⊥
IsKnown status.Memory = ⊥
IsKnown status.Store = ⊥
IsKnown status.Limit = Unit {0}
IsKnown status.Calls = Unit {0}

-- the status of a plan that is known
known-as : (plan planned : Plan) → plan ≡ planned → IsKnown planned.status → IsKnown plan.status
known-as plan planned is known = subst (λ (s : Status). IsKnown s) (ap (λ (p : Plan). p.status) (sym is)) known

text-known : (bytes : List ℕ) (e : TextFault) → jobs.IsTextFault bytes e → IsKnown (fault_status e)
text-known bytes text.Memory (jobs.wrong row column h e) = absurd cc
text-known bytes text.Memory (jobs.past which row h e) = absurd cc
text-known bytes text.Memory (jobs.mistyped f h e) = absurd cc
text-known bytes text.Memory (jobs.many h e) = absurd cc
text-known bytes (text.At row column) h = tt
text-known bytes (text.Limit which row) h = tt
text-known bytes (text.Typing f) h = tt

job-known : (told : Holdings) (file : List ℕ) (plan : Plan) → jobs.IsRefusedJob told file plan → IsKnown plan.status
job-known told file plan (jobs.long longer is) = known-as plan _ is tt
job-known told file plan (jobs.faulty bytes e gave first is) = known-as plan _ is (text-known bytes e first)

calls-known : (e : CallsFault) → (e ≡ calls.Memory → ⊥) → IsKnown (calls_status e)
calls-known calls.Memory other = absurd (other refl)
calls-known (calls.Unknown at) other = tt
calls-known (calls.Arity at) other = tt
calls-known (calls.Value at field) other = tt
calls-known calls.Limit other = tt

found-known : (job : Job) (program : Program) (certificate : Certificate) (tried : List Tried) (plan : Plan) → migrating.IsFound job program certificate tried plan → IsKnown plan.status
found-known job program certificate tried plan (migrating.short few is) = known-as plan _ is tt
found-known job program certificate tried plan (migrating.long many is) = known-as plan _ is tt

told-known : (job : Job) (outcome : Outcome) (plan : Plan) → migrating.Tells job outcome plan → IsKnown plan.status
told-known job (Found program certificate tried) plan h = found-known job program certificate tried plan h.1
told-known job (Exhausted tried) plan h = known-as plan _ h tt
told-known job (Spent tried) plan h = known-as plan _ h tt

migrated-known : (told : Holdings) (file : List ℕ) (options : Options) (plan : Plan) → migrating.IsMigrated told file options plan → IsKnown plan.status
migrated-known told file options plan (migrating.refused h) = job-known told file plan h
migrated-known told file options plan (migrating.searched job gave h) = told-known job h.outcome plan h.tells

-- a fault of a text that is not want of memory
fault-known : (e : TextFault) → e ≢ text.Memory → IsKnown (fault_status e)
fault-known text.Memory other = absurd (other refl)
fault-known (text.At row column) other = tt
fault-known (text.Limit which row) other = tt
fault-known (text.Typing f) other = tt

turned-known : (told : Holdings) (job : Job) (file : List ℕ) (plan : Plan) → checking.IsTurnedDown told job file plan → IsKnown plan.status
turned-known told job file plan (checking.refused (checking.long longer is)) = known-as plan _ is tt
turned-known told job file plan (checking.refused (checking.faulty bytes e gave none other is)) = known-as plan _ is (fault-known e other)
turned-known told job file plan (checking.rejected program certificate gave h) = known-as plan _ h.is tt

answered-known : (told : Holdings) (job : Job) (file : List ℕ) (plan : Plan) → checking.IsAnswered told job file plan → IsKnown plan.status
answered-known told job file plan (checking.turned_down h) = turned-known told job file plan h
answered-known told job file plan (checking.valid program gave is) = known-as plan _ is tt

checked-known : (told : Holdings) (file answer : List ℕ) (names : List (List ℕ)) (plan : Plan) → checking.IsChecked told file answer names plan → IsKnown plan.status
checked-known told file answer names plan (checking.no_job h one) = job-known told file plan h
checked-known told file answer names plan (checking.read job gave h two) = answered-known told job answer plan h

refused_calls-known : (told : Holdings) (job : Job) (file : List ℕ) (plan : Plan) → running.IsRefusedCalls told job file plan → IsKnown plan.status
refused_calls-known told job file plan (running.long longer is) = known-as plan _ is tt
refused_calls-known told job file plan (running.faulty bytes cause gave said other is) = known-as plan _ is (calls-known cause other)

run-known : (file calls : List ℕ) (answer : Option (List ℕ)) (before after : Inputs) (plan : Plan) → running.IsRun file calls answer before after plan → IsKnown plan.status
run-known file calls answer before after plan (running.no_job h asks same) = job-known before.files.told file plan h
run-known file calls answer before after plan (running.no_calls job gave h asks same) = refused_calls-known before.files.told job calls plan h
run-known file calls answer before after plan (running.no_answer job gave list said named one h asks same) = turned-known before.files.told job named plan h
run-known file calls answer before after plan (running.played job gave list said schema p plays text h asks is) = known-as plan _ is tt

-- no outcome has the status of a fault
pub outcome-known : (words : List (List ℕ)) (before after : Inputs) (plan : Plan) → spec.IsOutcome words before after plan → IsKnown plan.status
outcome-known words before after plan (spec.refused e h asks same is) = known-as plan _ is tt
outcome-known words before after plan (spec.unbuilt command h none asks same is) = known-as plan _ is tt
outcome-known words before after plan (spec.migrated file options asked asks same h) = migrated-known before.files.told file (migrating.search_options options) plan h
outcome-known words before after plan (spec.checked file answer names asked named same h) = checked-known before.files.told file answer names plan h
outcome-known words before after plan (spec.run file calls answer asked h) = run-known file calls answer before after plan h

-- a known status is none of these
pub known-not : (s fault : Status) → (IsKnown fault → ⊥) → IsKnown s → s ≢ fault
known-not s fault never known is = never (subst (λ (t : Status). IsKnown t) is known)

-- what is due has neither the status of a sink's fault nor that of want of memory
pub due-put : (words : List (List ℕ)) (before after : Inputs) (plan : Plan) → spec.IsDue words before after plan → (plan.status ≢ status.Sink) × (plan.status ≢ status.Memory)
due-put words before after plan (spec.outcome h) =
    let known = outcome-known words before after plan h in
    (known-not plan.status status.Sink (λ n. n) known, known-not plan.status status.Memory (λ n. n) known)
due-put words before after plan (spec.unread earlier file asks sound named rose same is) = (
  (λ h. let e : status.File ≡ status.Sink = sym (ap (λ (p : Plan). p.status) is) ∙ h in cc),
  (λ h. let e : status.File ≡ status.Memory = sym (ap (λ (p : Plan). p.status) is) ∙ h in cc),
)
due-put words before after plan (spec.failed file calls answer asked asks cause is) = (
  (λ h. let e : status.Store ≡ status.Sink = sym (ap (λ (p : Plan). p.status) is) ∙ h in cc),
  (λ h. let e : status.Store ≡ status.Memory = sym (ap (λ (p : Plan). p.status) is) ∙ h in cc),
)
