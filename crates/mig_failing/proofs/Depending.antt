-- A run depends on the functions alone that its calls name.
use Rattle.std.proofs.Common.{◌≡◌, ℕ, ◌*◌, List, [], ◌∷◌, take, drop, length, refl, ap, ◌∙◌, subst, inl, inr}
use Rattle.mig_schema.specs.declared.jobs.Job.{Job}
use Rattle.mig_schema.specs.declared.programs.Function.{Function}
use Rattle.mig_schema.specs.declared.programs.Program.{Program}
use Rattle.mig_schema.specs.declared.tables.Schema.{Schema}
use Rattle.mig_listing.specs.Listing.{IsIn}
use Rattle.mig_meaning.specs.declared.calling.Invocation.{Invocation}
use Rattle.mig_meaning.specs.declared.states.State.{State}
use Rattle.mig_meaning.specs.Effect.{after, reply}
use Rattle.mig_meaning.specs.Rows.{empty_state}
use Rattle.mig_meaning.specs.Run.{Outcome, called, function_at, run}
use Rattle.mig_store.specs.Runs.{numbers_from}
use Rattle.mig_failing.specs.Failing.{AgreeOn, SameAnswer, answered_last, last_reply}

-- a call of one function
abbrev called_by : Schema → Invocation → List ℕ → State → Function → Outcome
called_by schema i keys s f = record {
  state = after schema (record { args = i.args.values; keys = keys }) f.body s;
  reply = reply (record { args = i.args.values; keys = keys }) f.body s;
}

run_same : (schema : Schema) (p q : Program) (calls : List Invocation) (s : State) (ks : List ℕ) → ((i : Invocation) → IsIn i calls → function_at p i.function ≡ function_at q i.function) → run schema p s calls ks ≡ run schema q s calls ks
run_same schema p q [] s ks h = refl
run_same schema p q (i ∷ is) s ks h =
    let here : called schema p i (take 16 ks) s ≡ called schema q i (take 16 ks) s = ap (called_by schema i (take 16 ks) s) (h i (inl refl)) in
    ap (λ (o : Outcome). o ∷ run schema p o.state is (drop 16 ks)) here
    ∙ ap (λ os. called schema q i (take 16 ks) s ∷ os) (run_same schema p q is (called schema q i (take 16 ks) s).state (drop 16 ks) (λ j k. h j (inr k)))

pub agree_alike : (job : Job) (p q : Program) (calls : List Invocation) → ((i : Invocation) → IsIn i calls → function_at p i.function ≡ function_at q i.function) → AgreeOn job p calls → AgreeOn job q calls
agree_alike job p q calls h a = subst (λ os. SameAnswer (answered_last job.source job.program calls) (last_reply os)) (run_same job.target p q calls (empty_state job.target) (numbers_from 0 (16 * length calls)) h) a
