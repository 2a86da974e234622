-- Runs, call after call.
use Rattle.std.proofs.Common.{◌≡◌, ℕ, zero, suc, ◌+◌, ◌*◌, ◌-◌, ◌<◌, ◌≤◌, Bool, true, false, List, [], ◌∷◌, ◌++◌, get_or, length, take, drop, refl, sym, ap, ap₂, ◌∙◌, subst, arith}
use Rattle.std.proofs.lemmas.List.{take_more, length-take-le}
use Rattle.mig_schema.specs.declared.tables.Schema.{Schema}
use Rattle.mig_schema.specs.declared.programs.Body.{Body}
use Rattle.mig_schema.specs.declared.programs.Body.TheVariants as body
use Rattle.mig_schema.specs.declared.programs.Function.{Function}
use Rattle.mig_schema.specs.declared.programs.Program.{Program}
use Rattle.mig_schema.specs.declared.programs.Stmt.{Stmt}
use Rattle.mig_meaning.specs.declared.states.State.{State}
use Rattle.mig_meaning.specs.declared.calling.Invocation.{Invocation}
use Rattle.mig_meaning.specs.Calls.{AreCalls, IsCall}
use Rattle.mig_meaning.specs.Conditions.{Given}
use Rattle.mig_meaning.specs.Effect.{after, after_all, effect}
use Rattle.mig_meaning.specs.Lists.{Each, total}
use Rattle.mig_meaning.specs.Rows.{empty_state}
use Rattle.mig_meaning.specs.Run.{Outcome, called, function_at, no_function, run}
use Rattle.mig_meaning.proofs.Within.{each-get}
use Rattle.mig_calls.specs.Rows.{rows_added, rows_added_by}
use Rattle.mig_calls.proofs.EffectLemmas.{effect-next}
use Rattle.mig_store.specs.Runs.{IsCallable, last_state, numbers_from, played, state_after}
use Rattle.mig_store.proofs.Numbers.{numbers-drop, numbers-take}

-- the run of these calls from the state s, the first of which has the number k
abbrev pub run_from : Schema → Program → State → ℕ → List Invocation → List Outcome
run_from schema p s k calls = run schema p s calls (numbers_from (16 * k) (16 * length calls))

-- the call of number k from the state s
abbrev pub call_at : Schema → Program → State → ℕ → Invocation → Outcome
call_at schema p s k i = called schema p i (numbers_from (16 * k) 16) s

pub run-more : (schema : Schema) (p : Program) (s : State) (k : ℕ) (i : Invocation) (is : List Invocation) → run_from schema p s k (i ∷ is) ≡ call_at schema p s k i ∷ run_from schema p (call_at schema p s k i).state (k + 1) is
run-more schema p s k i is =
    let count : 16 * length (i ∷ is) ≡ 16 + 16 * length is = omega arith in
    let all = numbers_from (16 * k) (16 * length (i ∷ is)) in
    let front : take 16 all ≡ numbers_from (16 * k) 16 = ap (λ n. take 16 (numbers_from (16 * k) n)) count ∙ numbers-take (16 * k) 16 (16 * length is) in
    let back : drop 16 all ≡ numbers_from (16 * (k + 1)) (16 * length is) =
    ap (λ n. drop 16 (numbers_from (16 * k) n)) count ∙ (numbers-drop (16 * k) 16 (16 * length is) ∙ ap (λ a. numbers_from a (16 * length is)) (omega arith)) in
    ap₂ (λ a b. called schema p i a s ∷ run schema p (called schema p i a s).state is b) front back

-- the state after one more call
pub state-push : (schema : Schema) (p : Program) (s : State) (k : ℕ) (xs : List Invocation) (i : Invocation) → last_state s (run_from schema p s k (xs ++ i ∷ [])) ≡ (call_at schema p (last_state s (run_from schema p s k xs)) (k + length xs) i).state
state-push schema p s k [] i = ap (last_state s) (run-more schema p s k i []) ∙ ap (λ n. (call_at schema p s n i).state) (omega arith)
state-push schema p s k (x ∷ xs) i =
    let t = (call_at schema p s k x).state in
    ap (last_state s) (run-more schema p s k x (xs ++ i ∷ []))
    ∙ (state-push schema p t (k + 1) xs i
    ∙ ap₂ (λ r n. (call_at schema p r n i).state) (sym (ap (last_state s) (run-more schema p s k x xs))) (omega arith))

pub state-first : (schema : Schema) (p : Program) (calls : List Invocation) → last_state (empty_state schema) (run_from schema p (empty_state schema) 0 calls) ≡ state_after schema p calls
state-first schema p calls = let e : 16 * 0 ≡ 0 = omega arith in ap (λ a. last_state (empty_state schema) (run schema p (empty_state schema) calls (numbers_from a (16 * length calls)))) e

pub state-more : (schema : Schema) (p : Program) (calls : List Invocation) (k : ℕ) (d : Invocation) → k < length calls → state_after schema p (take (k + 1) calls) ≡ (call_at schema p (state_after schema p (take k calls)) k (get_or calls k d)).state
state-more schema p calls k d l =
    let count = length-take-le k calls (omega (arith, l)) in
    let at : 0 + length (take k calls) ≡ k = omega (arith, count) in
    ap (state_after schema p) (take_more calls k d l)
    ∙ (sym (state-first schema p (take k calls ++ get_or calls k d ∷ []))
    ∙ (state-push schema p (empty_state schema) 0 (take k calls) (get_or calls k d)
    ∙ ap₂ (λ s n. (call_at schema p s n (get_or calls k d)).state) (state-first schema p (take k calls)) at))

-- ---- the next id
all-next : (schema : Schema) (g : Given) (stmts : List Stmt) (s : State) → (after_all schema g stmts s).next ≡ s.next + total rows_added stmts
all-next schema g [] s = omega arith
all-next schema g (t ∷ ts) s = let e = effect-next schema g t s in let r = all-next schema g ts (effect schema g t s) in omega (arith, e, r)

pub after-next : (schema : Schema) (g : Given) (b : Body) (s : State) → (after schema g b s).next ≡ s.next + rows_added_by b
after-next schema g (body.Update stmts) s = all-next schema g stmts s
after-next schema g (body.Query q) s = omega arith

-- what stands where a function's number is out of range may be called
pub callable-none : IsCallable no_function
callable-none = record { labels = refl; rows = omega arith; literals = tt }

pub callable-at : (p : Program) (n : ℕ) → Each IsCallable p.functions → IsCallable (function_at p n)
callable-at p n c = each-get IsCallable p.functions n no_function c callable-none

pub next-within : (schema : Schema) (p : Program) (calls : List Invocation) (k : ℕ) (d : Invocation) → Each IsCallable p.functions → k < length calls → (state_after schema p (take k calls)).next ≤ 17 * k → (state_after schema p (take (k + 1) calls)).next ≤ 17 * (k + 1)
next-within schema p calls k d c l b =
    let s = state_after schema p (take k calls) in
    let i = get_or calls k d in
    let more : (state_after schema p (take (k + 1) calls)).next ≡ s.next + rows_added_by (function_at p i.function).body =
    ap (λ (t : State). t.next) (state-more schema p calls k d l) ∙ after-next schema (record { args = i.args.values; keys = numbers_from (16 * k) 16 }) (function_at p i.function).body s in
    let few : rows_added_by (function_at p i.function).body ≤ 17 = (callable-at p i.function c).rows in
    omega (arith, more, few, b)

pub call-there : (p : Program) (calls : List Invocation) (k : ℕ) (d : Invocation) → AreCalls p calls → k < length calls → IsCall p (get_or calls k d)
call-there p [] k d c l = absurd (omega (arith, l))
call-there p (i ∷ is) zero d c l = c.0
call-there p (i ∷ is) (suc k) d c l = call-there p is k d c.1 (omega (arith, l))
