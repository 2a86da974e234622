-- What one more call makes of a store, and what is answered last.
use Rattle.std.proofs.Common.{◌≡◌, ℕ, zero, suc, ◌+◌, ◌*◌, ◌≤◌, Bool, true, false, List, [], ◌∷◌, ◌++◌, take, length, refl, ap, ap₂, sym, ◌∙◌, subst, arith}
use Rattle.std.specs.Prelude.{Some, option_map}
use Rattle.std.proofs.Math.Seq.{take-length}
use Rattle.std.proofs.lemmas.Bool.{both_ways}
use Rattle.mig_schema.specs.declared.tables.Schema.{Schema}
use Rattle.mig_schema.specs.declared.programs.Body.{Body}
use Rattle.mig_schema.specs.declared.programs.Body.TheVariants as body
use Rattle.mig_schema.specs.declared.programs.Program.{Program}
use Rattle.mig_meaning.specs.declared.states.State.{State}
use Rattle.mig_meaning.specs.declared.calling.Invocation.{Invocation}
use Rattle.mig_meaning.specs.Conditions.{Given}
use Rattle.mig_meaning.specs.Effect.{after}
use Rattle.mig_meaning.specs.Lists.{Each}
use Rattle.mig_meaning.specs.Rows.{empty_state}
use Rattle.mig_meaning.specs.Run.{Outcome, function_at, run}
use Rattle.mig_storage.specs.Meaning.{IsAtRest, Meaning}
use Rattle.mig_store.specs.Runs.{IsCallable, is_query, last_state, numbers_from, state_after}
use Rattle.mig_store.proofs.RunLemmas.{call_at, next-within, run_from, run-more, state-first, state-push}
use Rattle.mig_failing.specs.Failing.{answered_last, last_reply}
use Rattle.mig_failing.specs.Playing.{IsAfter}

-- ---- states
-- the state after one more call
pub state_more : (schema : Schema) (p : Program) (calls : List Invocation) (i : Invocation) → state_after schema p (calls ++ i ∷ []) ≡ (call_at schema p (state_after schema p calls) (length calls) i).state
state_more schema p calls i =
    let at : 0 + length calls ≡ length calls = omega arith in
    sym (state-first schema p (calls ++ i ∷ []))
    ∙ (state-push schema p (empty_state schema) 0 calls i
    ∙ ap₂ (λ s n. (call_at schema p s n i).state) (state-first schema p calls) at)

-- the next id after so many calls
next_upto : (schema : Schema) (p : Program) (calls : List Invocation) → Each IsCallable p.functions → (k : ℕ) → k ≤ length calls → (state_after schema p (take k calls)).next ≤ 17 * k
next_upto schema p calls c zero l = omega arith
next_upto schema p calls c (suc k) l =
    let e : k + 1 ≡ suc k = omega arith in
    subst (λ m. (state_after schema p (take m calls)).next ≤ 17 * m) e (next-within schema p calls k (no_call calls) c (omega (arith, l)) (next_upto schema p calls c k (omega (arith, l))))
  where
    no_call : List Invocation → Invocation
    no_call [] = record { function = 0; args = record { values = [] } }
    no_call (i ∷ is) = i

pub next_after : (schema : Schema) (p : Program) (calls : List Invocation) → Each IsCallable p.functions → (state_after schema p calls).next ≤ 17 * length calls
next_after schema p calls c = subst (λ xs. (state_after schema p xs).next ≤ 17 * length calls) (take-length calls) (next_upto schema p calls c (length calls) (omega arith))

-- ---- answers

-- an answer is last whatever came before
skip_one : (schema : Schema) (p : Program) (s : State) (k : ℕ) (o : Outcome) (calls : List Invocation) (i : Invocation) → last_reply (o ∷ run_from schema p s k (calls ++ i ∷ [])) ≡ last_reply (run_from schema p s k (calls ++ i ∷ []))
skip_one schema p s k o [] i = let e = run-more schema p s k i [] in ap (λ os. last_reply (o ∷ os)) e ∙ sym (ap last_reply e)
skip_one schema p s k o (c ∷ calls) i = let e = run-more schema p s k c (calls ++ i ∷ []) in ap (λ os. last_reply (o ∷ os)) e ∙ sym (ap last_reply e)

-- the state after these calls, from number k on
abbrev state_from : Schema → Program → State → ℕ → List Invocation → State
state_from schema p s k calls = last_state s (run_from schema p s k calls)

replied_last : (schema : Schema) (p : Program) (s : State) (k : ℕ) (calls : List Invocation) (i : Invocation) → last_reply (run_from schema p s k (calls ++ i ∷ [])) ≡ (call_at schema p (state_from schema p s k calls) (k + length calls) i).reply
replied_last schema p s k [] i = let e : k ≡ k + 0 = omega arith in ap last_reply (run-more schema p s k i []) ∙ ap (λ n. (call_at schema p s n i).reply) e
replied_last schema p s k (c ∷ calls) i =
    let t = (call_at schema p s k c).state in
    let e : k + 1 + length calls ≡ k + suc (length calls) = omega arith in
    ap last_reply (run-more schema p s k c (calls ++ i ∷ []))
    ∙ (skip_one schema p t (k + 1) (call_at schema p s k c) calls i
    ∙ (replied_last schema p t (k + 1) calls i
    ∙ ap₂ (λ r n. (call_at schema p r n i).reply) (sym (ap (last_state s) (run-more schema p s k c calls))) e))

-- what the call behind some others is answered, with the keys of its number
pub answered_more : (schema : Schema) (p : Program) (calls : List Invocation) (i : Invocation) → answered_last schema p (calls ++ i ∷ []) ≡ (call_at schema p (state_after schema p calls) (length calls) i).reply
answered_more schema p calls i =
    let all = calls ++ i ∷ [] in
    let zero_first : 16 * 0 ≡ 0 = omega arith in
    let at : 0 + length calls ≡ length calls = omega arith in
    sym (ap (λ a. last_reply (run schema p (empty_state schema) all (numbers_from a (16 * length all)))) zero_first)
    ∙ (replied_last schema p (empty_state schema) 0 calls i
    ∙ ap₂ (λ s n. (call_at schema p s n i).reply) (state-first schema p calls) at)

-- ---- queries change nothing
query_keeps : (schema : Schema) (g : Given) (b : Body) (s : State) → is_query b ≡ true → after schema g b s ≡ s
query_keeps schema g (body.Update stmts) s h = absurd (both_ways false refl h)
query_keeps schema g (body.Query q) s h = refl

pub state_kept : (schema : Schema) (p : Program) (calls : List Invocation) (i : Invocation) → is_query (function_at p i.function).body ≡ true → state_after schema p (calls ++ i ∷ []) ≡ state_after schema p calls
state_kept schema p calls i h = state_more schema p calls i ∙ query_keeps schema (record { args = i.args.values; keys = numbers_from (16 * length calls) 16 }) (function_at p i.function).body (state_after schema p calls) h

-- a store tells after a query what it told before
pub after_query : (schema : Schema) (p : Program) (cs calls : List Invocation) (i : Invocation) (m : Meaning) → is_query (function_at p i.function).body ≡ true → cs ≡ calls → IsAfter schema p (cs ++ i ∷ []) m → IsAfter schema p calls m
after_query schema p cs calls i m h e a = record { told = a.told ∙ (ap Some (state_kept schema p cs i h) ∙ ap (λ xs. Some (state_after schema p xs)) e); layout = a.layout; rest = a.rest; whole = a.whole }

-- ---- one more call of a store
pub room_after : (schema : Schema) (p : Program) (calls : List Invocation) (m : Meaning) → Each IsCallable p.functions → IsAfter schema p calls m → (s : State) → m.told ≡ Some s → s.next ≤ 17 * length calls
room_after schema p calls m c a s e =
    let both : Some s ≡ Some (state_after schema p calls) = sym e ∙ a.told in
    let same : s ≡ state_after schema p calls = cc in
    subst (λ (t : State). t.next ≤ 17 * length calls) (sym same) (next_after schema p calls c)

at_rest : (b : Bool) (broken : Bool) → (b ≡ true → broken ≡ true) → broken ≡ false → b ≡ false
at_rest false broken h w = refl
at_rest true broken h w = absurd (both_ways broken w (h refl))

pub after_call : (schema : Schema) (p : Program) (calls : List Invocation) (i : Invocation) (old new : Meaning) → IsAfter schema p calls old → new.told ≡ option_map (λ s. (call_at schema p s (length calls) i).state) old.told → new.layout ≡ old.layout → IsAtRest new → new.broken ≡ false → IsAfter schema p (calls ++ i ∷ []) new
after_call schema p calls i old new a step same rest whole = record {
  told = step ∙ (ap (option_map (λ s. (call_at schema p s (length calls) i).state)) a.told ∙ ap Some (sym (state_more schema p calls i)));
  layout = a.layout ∙ sym same;
  rest = at_rest new.begun new.broken rest whole;
  whole = whole;
}
